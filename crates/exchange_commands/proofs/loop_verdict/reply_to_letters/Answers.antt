use Rattle.std.proofs.Common.{arith, ap, ◌∙◌}
use Rattle.std.specs.Prelude.{Err}
use Rattle.std.proofs.lemmas.List.{length-map}
use Rattle.lasso_text.specs.LoopView.{letter_view, loop_tree}
use Rattle.cobuchi_automata.specs.Edges.{edge_trees}
use Rattle.exchange_commands.proofs.ExchangeStages.{verdict_told, letters_refused_told}
use Rattle.exchange_commands.proofs.LetterCounts.{letters_within}
use Rattle.exchange_commands.proofs.loop_verdict.reply_to_letters.Goals as goal

pub verdict_on-requires-clause-few_letters : goal.verdict_on-requires-clause-few_letters
verdict_on-requires-clause-few_letters c =
    omega (
      arith,
      letters_within c.args.letters.now (loop_tree c.in-Ok.found) c.in-Ok.ensures.ok,
      length-map c.in-Ok.found.letters letter_view,
      c.requires.letters,
    )

pub returns-in-Ok : goal.returns-in-Ok
returns-in-Ok c =
    verdict_told (record { automaton = c.args.text.now; letters = c.args.letters.now }) c.args.hoa.now.bits
    c.args.hoa.now.automaton.states (edge_trees c.args.hoa.now.automaton.edges) c.requires.spelled c.requires.small (loop_tree c.in-Ok.found)
    c.verdict_on.result c.in-Ok.ensures.is_loop c.in-Ok.ensures.ok c.verdict_on.ensures

pub returns-in-Err-Form : goal.returns-in-Err-Form
returns-in-Err-Form c =
    letters_refused_told (record { automaton = c.args.text.now; letters = c.args.letters.now }) c.args.hoa.now.bits
    c.args.hoa.now.automaton.states (edge_trees c.args.hoa.now.automaton.edges) c.requires.spelled c.requires.small c.in-Err-Form.line c.fault_reply.result
    (c.read_letters.ensures.form c.in-Err-Form.line (c.in-Err-Form.is ∙ ap Err c.in-Err-Form.field-0-is)) c.fault_reply.ensures
