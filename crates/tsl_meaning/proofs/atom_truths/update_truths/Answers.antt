use Rattle.std.proofs.Common.{◌≡◌, ◌∙◌, ◌++◌, false, List, map, ap, slice_get}
use Rattle.std.specs.Prelude.{option_and_then}
use Rattle.std.specs.Option.{option_map_or}
use Rattle.std.proofs.lemmas.Result.{IfOk-weaker}
use Rattle.tsl_terms.specs.TermTree.{TermTree, term_tree}
use Rattle.tsl_terms.specs.SameTree.{same_tree}
use Rattle.tsl_terms.specs.Value.{beside}
use Rattle.interp_core.proofs.Besides.{beside_place}
use Rattle.tsl_meaning.proofs.atom_truths.update_truths.Goals as goal

pub returns : goal.returns
returns g c =
    let signals : c.deref.result.now ≡ c.args.run.now.cells ++ c.args.run.now.outputs =
    c.deref.ensures.value ∙ c.in_ok-extend_from_slice.ensures.items
    ∙ (λ i. (c.in_ok-controlled.ensures.items ∙ c.as_slice.ensures) i ++ c.as_slice-2.ensures i) in
    let placed : (terms : List TermTree) → option_and_then (slice_get terms) c.place_of.result
    ≡ beside c.args.signal (c.args.run.now.cells ++ c.args.run.now.outputs) terms =
    λ terms. ap (option_and_then (slice_get terms)) c.place_of.ensures ∙ beside_place c.args.signal c.deref.result.now terms
    ∙ ap (λ rs. beside c.args.signal rs terms) signals in
    IfOk-weaker c.assigned_truths.result _ _ (λ truths are. are
    ∙ (λ i. map (λ p. option_map_or (λ assigned. same_tree assigned (term_tree c.args.term.now)) (placed (map term_tree p.updates) i) false)
    (c.as_slice-3.ensures i))) c.assigned_truths.ensures
