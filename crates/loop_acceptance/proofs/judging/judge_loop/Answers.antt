use Rattle.std.proofs.Common.{◌≡◌, true, ◌↔◌, List, length, arith}
use Rattle.std.proofs.lemmas.Result.{IfOk-weaker}
use Rattle.ltl_formula.specs.LtlTree.{LtlTree}
use Rattle.ltl_formula.specs.LetterLoop.{holds}
use Rattle.cobuchi_automata.specs.Automata.{StateTree, IsAutomaton}
use Rattle.cobuchi_automata.specs.Edges.{edge_trees}
use Rattle.loop_acceptance.specs.Accepts.{loop_of, Accepts}
use Rattle.loop_acceptance.specs.internal.Graph.{TurnFrom}
use Rattle.loop_acceptance.specs.internal.Product.{row_lists, product_step}
use Rattle.loop_acceptance.proofs.JudgedLoops.{letters_fit, judged, judged_formula}
use Rattle.loop_acceptance.proofs.judging.judge_loop.Goals as goal

pub returns-clause-accepts : goal.returns-clause-accepts
returns-clause-accepts c =
    let automaton = c.args.automaton.now in
    let letters = c.args.letters.now in
    IfOk-weaker c.has_turn.result
    (λ answer. (answer ≡ true) ↔ TurnFrom (product_step (length c.deref.result.now) (row_lists c.deref.result.now) letters c.args.back) 0)
    (λ answer. (answer ≡ true) ↔ Accepts (edge_trees automaton.edges) (loop_of letters c.args.back))
    (judged automaton.edges automaton.states automaton.between automaton.starts c.in_ok-rows.rows.items c.deref.result.now
    c.in_ok-rows.ensures.states c.in_ok-rows.ensures.edges c.deref.ensures.value letters c.args.back c.requires.back) c.has_turn.ensures

pub returns-clause-formula : goal.returns-clause-formula
returns-clause-formula c =
    let automaton = c.args.automaton.now in
    let letters = c.args.letters.now in
    IfOk-weaker c.has_turn.result
    (λ answer. (answer ≡ true) ↔ TurnFrom (product_step (length c.deref.result.now) (row_lists c.deref.result.now) letters c.args.back) 0)
    (λ answer. (f : LtlTree) (states : List StateTree) → IsAutomaton f states (edge_trees automaton.edges)
    → ((answer ≡ true) ↔ (holds (loop_of letters c.args.back) f 0 ≡ true)))
    (judged_formula automaton.edges automaton.states automaton.between automaton.starts c.in_ok-rows.rows.items c.deref.result.now
    c.in_ok-rows.ensures.states c.in_ok-rows.ensures.edges c.deref.ensures.value letters c.args.back c.requires.back
    (letters_fit letters c.args.back (λ i. let fit = c.type_inv.letters i in omega (arith, fit)))) c.has_turn.ensures
