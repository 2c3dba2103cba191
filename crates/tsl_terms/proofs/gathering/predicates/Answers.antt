use Rattle.std.proofs.Common.{[], map, refl, sym, ap, ◌∙◌}
use Rattle.std.proofs.lemmas.List.Folds.{flat_map-map}
use Rattle.std.specs.List.{flat_map}
use Rattle.tsl_terms.specs.TermTree.{probe_tree}
use Rattle.tsl_terms.specs.AtomView.{atom_tree}
use Rattle.tsl_terms.specs.SameTree.{same_probe_tree}
use Rattle.tsl_terms.specs.Predicates.{probe_of}
use Rattle.base_library.specs.Kept.{with_new}
use Rattle.tsl_terms.specs.Distinct.{without_repeats}
use Rattle.tsl_terms.proofs.SameLemmas.{same_probe_is}
use Rattle.base_library.proofs.Kept.{with_new-from_none}
use Rattle.tsl_terms.proofs.AtomLoops.{with_new-next, with_new-all}
use Rattle.tsl_terms.proofs.gathering.predicates.Goals as goal

pub loop-atom-init : goal.loop-atom-init
loop-atom-init c = ap (map probe_tree) c.new-probes.ensures.items

pub loop-atom-preserved : goal.loop-atom-preserved
loop-atom-preserved c =
    with_new-next same_probe_tree (λ a. probe_of (atom_tree a)) c.deref-atom-items.result.now c.loop-atom.atom-index c.atom-item.result _ _
    c.loop-atom-test.true c.atom-item.is c.loop-atom.invariant c.in_ok-add_probe_of.ensures

pub returns : goal.returns
returns c =
    with_new-all same_probe_tree
    (λ a. probe_of (atom_tree a)) c.deref-atom-items.result.now c.loop-atom.atom-index _ c.loop-atom-test.false c.loop-atom.invariant
    ∙ ap (with_new same_probe_tree []) (sym (flat_map-map probe_of atom_tree c.deref-atom-items.result.now)
    ∙ ap (flat_map probe_of) (ap (map atom_tree) c.deref-atom-items.ensures.value ∙ c.in_ok-atoms.ensures))
    ∙ with_new-from_none same_probe_tree same_probe_is (without_repeats same_probe_tree) refl (λ _ _. refl) _
