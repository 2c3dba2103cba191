use Rattle.std.proofs.Common.{◌≡◌, ◌∙◌, ◌<◌, ◌++◌, [], map, length, sym, ap, subst, arith, IsTrue}
use Rattle.std.specs.List.{list_all}
use Rattle.tsl_terms.specs.Signals.{inputs_of, cells_of}
use Rattle.tsl_terms.specs.SpecView.{spec_tree}
use Rattle.tsl_terms.specs.WindowTree.{window_tree}
use Rattle.program_tree.specs.Fits.{window_fits}
use Rattle.machines.specs.MachineView.{round_tree}
use Rattle.machines.specs.Rounds.{windows_of}
use Rattle.program_check.proofs.ProgramNames.{spec_fits}
use Rattle.bounded_encoding.specs.QuestionView.{question_of}
use Rattle.refinement_loop.specs.Questions.{bound_under, HasNoSolution}
use Rattle.refinement_loop.proofs.Answered.{none_found}
use Rattle.refinement_loop.proofs.Chaining.{as_many_windows}
use Rattle.refinement_loop.proofs.RoundWindows.{each_known, known_fit}
use Rattle.refinement_loop.proofs.turning.next_turn.Goals as goal

pub program_of-requires-clause-windows_fit : goal.program_of-requires-clause-windows_fit
program_of-requires-clause-windows_fit c =
    let spec = spec_tree c.args.spec.now in
    let rounds = map round_tree c.args.rounds.now in
    subst (λ ws. IsTrue (list_all (window_fits (inputs_of spec ++ cells_of spec) (cells_of spec)) ws)) (sym c.in_ok-windows.ensures)
    (known_fit spec (spec_fits c.args.spec.now) (windows_of rounds) (each_known spec c.args.search.now [] rounds c.requires.chain))

pub environment_turn-requires-clause-goes_on : goal.environment_turn-requires-clause-goes_on
environment_turn-requires-clause-goes_on c =
    let spec = spec_tree c.args.spec.now in
    let search = c.args.search.now in
    let answer = c.in_ok-automaton.field-0 in
    let asked_under = map window_tree c.as_slice.result.now in
    let same : asked_under ≡ map window_tree c.as_slice-then-rounds-search.result.now =
    ap (map window_tree) (c.as_slice.ensures.value ∙ sym c.as_slice-then-rounds-search.ensures.value) in
    let are : map window_tree c.as_slice-then-rounds-search.result.now ≡ windows_of (map round_tree c.args.rounds.now) =
    ap (map window_tree) c.as_slice-then-rounds-search.ensures.value ∙ c.in_ok-windows.ensures in
    let count = as_many_windows c.args.rounds.now in
    record {
      none = subst (λ ws. HasNoSolution spec ws search.states search.bound) same
          (none_found spec asked_under search.states search.bound
          (question_of answer.automaton c.args.space.now search.states (bound_under search.bound search.states answer.automaton.states)) c.in_ok-automaton.ensures.asked search.budget
          answer.found c.in-None.field-0 c.in-None.field-1 c.in_ok-automaton.ensures.found c.in-None.is);
      fewer = subst (λ ws. length ws < search.rounds) (sym are) (omega (arith, count, c.if-rounds-search.true));
    }

pub returns-in-None-clause-turn : goal.returns-in-None-clause-turn
returns-in-None-clause-turn c =
    let spec = spec_tree c.args.spec.now in
    let search = c.args.search.now in
    let answer = c.in_ok-automaton.field-0 in
    let asked_under = map window_tree c.as_slice.result.now in
    let are : asked_under ≡ windows_of (map round_tree c.args.rounds.now) =
    ap (map window_tree) c.as_slice.ensures.value ∙ c.in_ok-windows.ensures in
    let count = as_many_windows c.args.rounds.now in (
      subst (λ ws. HasNoSolution spec ws search.states search.bound) are
          (none_found spec asked_under search.states search.bound
          (question_of answer.automaton c.args.space.now search.states (bound_under search.bound search.states answer.automaton.states)) c.in_ok-automaton.ensures.asked search.budget
          answer.found c.in-None.field-0 c.in-None.field-1 c.in_ok-automaton.ensures.found c.in-None.is),
      omega (arith, count, c.if-rounds-search.false, c.requires.few_rounds),
    )
