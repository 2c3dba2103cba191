use Rattle.std.proofs.Common.{◌≡◌, ◌<◌, not, length, sym, ap, ◌∙◌, arith}
use Rattle.tsl_terms.specs.declared.names.NameKind.TheVariants.{Signal}
use Rattle.tsl_terms.specs.Name.{is_name}
use Rattle.tsl_terms.specs.SpecTree.{whole_formula}
use Rattle.tsl_terms.specs.SpecView.{spec_tree}
use Rattle.tsl_terms.specs.Signals.{formula_updates, formula_reads, is_input, is_cell, is_output}
use Rattle.tsl_terms.proofs.MarkLemmas.{length-marks, mark_at}
use Rattle.base_library.proofs.Numbers.{numbers_passed_more}
use Rattle.base_library.proofs.Booleans.{and_then, and_else}
use Rattle.tsl_terms.proofs.signal_lists.signals.Goals as goal
use Rattle.tsl_terms.proofs.signal_lists.signals.Goals.{
  then-is_signal,
  else-is_signal,
  then-updated,
  else-updated,
  then-updated-2,
  else-updated-2,
}

pub index-updated-requires : goal.index-updated-requires
index-updated-requires c =
    omega (arith, length-marks _ _ _ c.in_ok-marks.ensures.updated)

pub index-read-requires : goal.index-read-requires
index-read-requires c =
    omega (arith, length-marks _ _ _ c.in_ok-marks.ensures.read)

pub loop-id-preserved : goal.loop-id-preserved
loop-id-preserved c =
    let spec = spec_tree c.args.spec.now in
    let id = c.loop-id.id in
    let within : id < length c.args.spec.now.names = omega arith in
    let updated : c.index-updated.result.now ≡ formula_updates id (whole_formula spec) =
    mark_at _ _ _ _ _ c.in_ok-marks.ensures.updated c.index-updated.ensures within in
    let read : c.index-read.result.now ≡ formula_reads id (whole_formula spec) =
    mark_at _ _ _ _ _ c.in_ok-marks.ensures.read c.index-read.ensures within in
    let input : c.if-is_signal.push_if ≡ is_input spec id =
    let signal = is_name spec.names id Signal 0 in
    let free = not (formula_updates id (whole_formula spec)) in
    elim c.if-is_signal.branch [
      | then-is_signal w ↦ and_then signal free _ (sym c.is_signal.ensures ∙ w.if-is_signal.true) (w.push_if-is ∙ ap not updated)
      | else-is_signal w ↦ and_else signal free _ (sym c.is_signal.ensures ∙ w.if-is_signal.false) (w.push_if-is ∙ w.if-is_signal.false)
    ] in
    let cell : c.if-updated.push_if ≡ is_cell spec id =
    elim c.if-updated.branch [
      | then-updated w ↦ and_then (formula_updates id (whole_formula spec)) (formula_reads id (whole_formula spec)) _ (sym updated
          ∙ w.if-updated.true) (w.push_if-is ∙ read)
      | else-updated w ↦ and_else (formula_updates id (whole_formula spec)) (formula_reads id (whole_formula spec)) _ (sym updated
          ∙ w.if-updated.false) (w.push_if-is ∙ w.if-updated.false)
    ] in
    let output : c.if-updated-2.push_if ≡ is_output spec id =
    elim c.if-updated-2.branch [
      | then-updated-2 w ↦ and_then (formula_updates id (whole_formula spec)) (not (formula_reads id (whole_formula spec))) _ (sym updated
          ∙ w.if-updated-2.true) (w.push_if-is ∙ ap not read)
      | else-updated-2 w ↦ and_else (formula_updates id (whole_formula spec)) (not (formula_reads id (whole_formula spec))) _ (sym updated
          ∙ w.if-updated-2.false) (w.push_if-is ∙ w.if-updated-2.false)
    ] in (
      numbers_passed_more (is_input spec) id _ _ _ c.loop-id.invariant.0 c.in_ok-push_if.ensures input,
      numbers_passed_more (is_cell spec) id _ _ _ c.loop-id.invariant.1 c.in_ok-push_if-2.ensures cell,
      numbers_passed_more (is_output spec) id _ _ _ c.loop-id.invariant.2 c.in_ok-push_if-3.ensures output,
    )
