use Rattle.std.proofs.Common.{map, sym, subst}
use Rattle.tsl_terms.specs.SpecView.{spec_tree}
use Rattle.tsl_terms.specs.WindowTree.{window_tree}
use Rattle.machines.specs.declared.side.Side.TheVariants.{Environment}
use Rattle.bounded_encoding.specs.QuestionView.{question_of}
use Rattle.refinement_loop.specs.declared.outcome.Bound.TheVariants.{Fixed}
use Rattle.refinement_loop.specs.internal.Turns.{HasFurtherCause}
use Rattle.refinement_loop.proofs.Answered.{asked_of, refused_environment}
use Rattle.refinement_loop.proofs.asking.environment_answer.Goals as goal

pub returns-in-Err-clause-cause : goal.returns-in-Err-clause-cause
returns-in-Err-clause-cause c =
    let spec = spec_tree c.args.spec.now in
    let windows = map window_tree c.args.windows.now in
    let search = c.args.search.now in
    let space = c.args.space.now in
    let automaton = c.in_ok-automaton.automaton in
    let made = c.in_ok-automaton.ensures in
    let asked = asked_of Environment spec windows space automaton search.env_states (Fixed search.env_bound) c.requires.space made.automaton
    made.few_states made.few_edges in
    subst (HasFurtherCause spec search windows) (sym c.refused_dual.ensures)
    (refused_environment spec search windows (question_of automaton space search.env_states search.env_bound) asked
    c.in-Err.cause c.in-Err.ensures.cause)
