use Rattle.std.proofs.Common.{◌<◌, map, length, sym, subst}
use Rattle.tsl_terms.specs.SpecView.{spec_tree}
use Rattle.tsl_terms.specs.WindowTree.{window_tree}
use Rattle.machines.specs.declared.side.Side.TheVariants.{Controller}
use Rattle.bounded_encoding.specs.QuestionView.{question_of}
use Rattle.bounded_encoding.specs.Encoding.{encoding}
use Rattle.refutation_check.specs.declared.limits.TheConstants.{MOST_CLAUSES}
use Rattle.refinement_loop.specs.Questions.{bound_under}
use Rattle.refinement_loop.specs.Outcomes.{HasAskCause}
use Rattle.refinement_loop.proofs.Answered.{asked_of, refused_question}
use Rattle.refinement_loop.proofs.asking.controller_answer.Goals as goal

pub returns-in-Err-clause-cause : goal.returns-in-Err-clause-cause
returns-in-Err-clause-cause c =
    let spec = spec_tree c.args.spec.now in
    let windows = map window_tree c.args.windows.now in
    let space = c.args.space.now in
    let automaton = c.in_ok-automaton.automaton in
    let made = c.in_ok-automaton.ensures in
    let asked = asked_of Controller spec windows space automaton c.args.states c.args.bound c.requires.space made.automaton made.few_states
    made.few_edges in
    let number = bound_under c.args.bound c.args.states automaton.states in
    subst (HasAskCause spec windows c.args.states c.args.bound) (sym c.refused_encoding.ensures)
    (refused_question spec windows c.args.states c.args.bound (question_of automaton space c.args.states number) asked
    c.in-Err.cause (λ is. subst (λ b. MOST_CLAUSES < length (encoding (question_of automaton space c.args.states b))) c.under-number.ensures
    (c.in-Err.ensures.refused is)))
