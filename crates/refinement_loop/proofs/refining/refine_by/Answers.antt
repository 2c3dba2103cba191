use Rattle.std.proofs.Common.{◌≡◌, ◌≤◌, List, [], map, length, sym, subst, arith}
use Rattle.base_library.proofs.Results.{handed_on}
use Rattle.tsl_terms.specs.SpecTree.{SpecTree}
use Rattle.tsl_terms.specs.SpecView.{spec_tree}
use Rattle.program_tree.specs.ProgramView.{program_tree}
use Rattle.machines.specs.declared.rounds.Round.{Round}
use Rattle.machines.specs.MachineView.{round_tree}
use Rattle.machines.specs.Rounds.{windows_of}
use Rattle.program_check.proofs.ProgramNames.{spec_fits, keeps}
use Rattle.refinement_loop.specs.declared.outcome.Search.{Search}
use Rattle.refinement_loop.specs.declared.turning.Turn.{Turn}
use Rattle.refinement_loop.specs.Questions.{IsItsBound}
use Rattle.refinement_loop.specs.Outcomes.{HasRefineCause}
use Rattle.refinement_loop.specs.internal.Turns.{IsTurn}
use Rattle.refinement_loop.proofs.Chaining.{as_many_windows, grown_by, refused_cause}
use Rattle.refinement_loop.proofs.RoundWindows.{each_known}
use Rattle.refinement_loop.proofs.WrittenPrograms.{is_accepted, is_realized}
use Rattle.refinement_loop.proofs.WritablePrograms.{is_writable}
use Rattle.refinement_loop.proofs.refining.refine_by.Goals as goal

-- what a turn says, by its case, under the windows of the rounds
turn_after : (spec : SpecTree) (search : Search) (rounds slice : List Round) (turn case : Turn) → slice ≡ rounds → turn ≡ case →
    IsTurn spec search (windows_of (map round_tree slice)) turn → IsTurn spec search (windows_of (map round_tree rounds)) case
turn_after spec search rounds slice turn case same is holds =
    subst (λ rs. IsTurn spec search (windows_of (map round_tree rs)) case) same
    (subst (IsTurn spec search (windows_of (map round_tree slice))) is holds)

pub returns-in_err-space-clause-cause : goal.returns-in_err-space-clause-cause
returns-in_err-space-clause-cause c =
    handed_on c.from_residual.result c.in_err-space.field-0.0 (HasRefineCause (spec_tree c.args.spec.now) c.args.search.now)
    c.from_residual.ensures.1 (c.in_err-space.ensures.cause c.args.search.now)

pub loop-turned-preserved : goal.loop-turned-preserved
loop-turned-preserved c =
    let further = rw c.in-Further.is at c.in-Ok.ensures.turn in
    let more = grown_by (spec_tree c.args.spec.now) c.args.search.now c.loop-turned.rounds.items c.as_slice.result.now
    c.push.new.self.items c.in-Further.round c.as_slice.ensures.value c.in_ok-push-in-Further.ensures.items c.loop-turned.invariant.chain
    further in
    record { chain = more.0; few_rounds = more.1 }

pub returns-in-Written-clause-accepted : goal.returns-in-Written-clause-accepted
returns-in-Written-clause-accepted c =
    let spec = spec_tree c.args.spec.now in
    let search = c.args.search.now in
    let rounds = map round_tree c.loop-turned.rounds.items in
    is_accepted spec (windows_of rounds) (each_known spec search [] rounds c.loop-turned.invariant.chain) search.states search.bound
    (program_tree c.in-Written.program)
    (turn_after spec search c.loop-turned.rounds.items c.as_slice.result.now c.in-Ok.turned.turn _ c.as_slice.ensures.value
    c.in-Written.is c.in-Ok.ensures.turn) c.in-Ok.turned.bound
    (subst (λ rs. IsItsBound spec (windows_of (map round_tree rs)) search.states search.bound c.in-Ok.turned.bound)
    c.as_slice.ensures.value c.in-Ok.ensures.bound)

pub returns-in-Written-clause-realized : goal.returns-in-Written-clause-realized
returns-in-Written-clause-realized c =
    let spec = spec_tree c.args.spec.now in
    let search = c.args.search.now in
    let rounds = map round_tree c.loop-turned.rounds.items in
    is_realized spec (windows_of rounds) (each_known spec search [] rounds c.loop-turned.invariant.chain) search.states search.bound
    (program_tree c.in-Written.program)
    (turn_after spec search c.loop-turned.rounds.items c.as_slice.result.now c.in-Ok.turned.turn _ c.as_slice.ensures.value
    c.in-Written.is c.in-Ok.ensures.turn) (spec_fits c.args.spec.now) (keeps c.in-Written.program)

pub returns-in-Written-clause-writable : goal.returns-in-Written-clause-writable
returns-in-Written-clause-writable c =
    let spec = spec_tree c.args.spec.now in
    let search = c.args.search.now in
    let rounds = map round_tree c.loop-turned.rounds.items in
    let few : length (windows_of rounds) ≤ 64 = omega (
      arith,
      as_many_windows c.loop-turned.rounds.items,
      c.loop-turned.invariant.few_rounds,
      c.requires.in_range.few_rounds,
    ) in
    λ fits. is_writable spec fits (windows_of rounds) (each_known spec search [] rounds c.loop-turned.invariant.chain) search.states
    search.bound (program_tree c.in-Written.program)
    (turn_after spec search c.loop-turned.rounds.items c.as_slice.result.now c.in-Ok.turned.turn _ c.as_slice.ensures.value
    c.in-Written.is c.in-Ok.ensures.turn) c.requires.in_range.few_states few (keeps c.in-Written.program)

pub returns-in-Err-clause-cause : goal.returns-in-Err-clause-cause
returns-in-Err-clause-cause c =
    let spec = spec_tree c.args.spec.now in
    let search = c.args.search.now in
    subst (HasRefineCause spec search) (sym c.refused.ensures)
    (refused_cause spec search c.loop-turned.rounds.items c.as_slice.result.now c.in-Err.error c.as_slice.ensures.value
    c.loop-turned.invariant.chain c.loop-turned.invariant.few_rounds c.in-Err.ensures.cause)
