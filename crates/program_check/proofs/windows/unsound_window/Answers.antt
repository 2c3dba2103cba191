use Rattle.std.proofs.Common.{◌∙◌, sym}
use Rattle.std.proofs.lemmas.Bool.{false≢true}
use Rattle.tsl_terms.specs.SpecView.{spec_tree}
use Rattle.program_check.proofs.SoundWindows.{of_cells, unsound_here, sound_next}
use Rattle.program_check.proofs.windows.unsound_window.Goals as goal

pub congruent-requires : goal.congruent-requires
congruent-requires c =
    of_cells (spec_tree c.args.spec.now) c.args.program.now c.as_slice-cells.result.now c.as_slice-cells.ensures c.as_slice-window-items.result.now
    c.as_slice-window-items.ensures c.loop-place.place c.window-item.result c.loop-place-test.true c.window-item.is

pub returns-then-not-is_congruent-clause-some : goal.returns-then-not-is_congruent-clause-some
returns-then-not-is_congruent-clause-some c =
    unsound_here (spec_tree c.args.spec.now) c.args.program.now c.as_slice-cells.result.now c.as_slice-cells.ensures c.as_slice-window-items.result.now
    c.as_slice-window-items.ensures c.loop-place.place c.window-item.result _ c.loop-place-test.true c.window-item.is
    c.equality_of-equality.ensures.number
    (λ holds. false≢true (sym c.if-not-is_congruent.true ∙ c.in_ok-is_congruent.ensures.1 holds)) c.loop-place.invariant

pub loop-place-preserved : goal.loop-place-preserved
loop-place-preserved c =
    sound_next c.args.spec.now.names c.as_slice-cells.result.now c.as_slice-window-items.result.now c.loop-place.place c.window-item.result _
    c.loop-place-test.true c.window-item.is c.equality_of-equality.ensures.number c.loop-place.invariant (c.in_ok-is_congruent.ensures.0 c.if-not-is_congruent.false)
