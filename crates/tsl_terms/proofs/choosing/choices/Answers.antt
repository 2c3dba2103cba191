use Rattle.std.proofs.Common.{◌≡◌, ◌&&◌, cond, [], ◌∷◌, ◌++◌, map, refl, sym, ap, ◌∙◌}
use Rattle.std.specs.List.{flat_map, list_any}
use Rattle.tsl_terms.specs.TermTree.{signal, term_tree}
use Rattle.tsl_terms.specs.Atoms.{atoms}
use Rattle.tsl_terms.specs.AtomView.{atom_tree}
use Rattle.tsl_terms.specs.SameTree.{same_tree}
use Rattle.tsl_terms.specs.SpecTree.{whole_formula}
use Rattle.tsl_terms.specs.SpecView.{spec_tree}
use Rattle.tsl_terms.specs.Signals.{atom_reads, atom_updates, term_for, is_cell}
use Rattle.base_library.specs.Kept.{with_new}
use Rattle.tsl_terms.specs.Distinct.{without_repeats}
use Rattle.tsl_terms.proofs.SameLemmas.{same_tree_is}
use Rattle.base_library.proofs.Kept.{with_new-append, with_new-from_none}
use Rattle.base_library.proofs.Passes.{list_any-map}
use Rattle.tsl_terms.proofs.choosing.choices.Goals as goal

pub returns : goal.returns
returns c =
    let s = c.args.signal in
    let spec = spec_tree c.args.spec.now in
    let items = c.in_ok-atoms.atoms.items in
    let are : map atom_tree items ≡ atoms (whole_formula spec) = c.in_ok-atoms.ensures in
    let cell : c.is_cell.result ≡ is_cell spec s =
    rw c.deref-2.ensures.value at c.is_cell.ensures
    ∙ (λ i. (sym (list_any-map atom_tree (atom_updates s) items)
    ∙ ap (list_any (atom_updates s)) are) i && (sym (list_any-map atom_tree (atom_reads s) items)
    ∙ ap (list_any (atom_reads s)) are) i) in
    let terms = flat_map (term_for s) (atoms (whole_formula spec)) in
    let found : map term_tree c.in_ok-terms.terms.items ≡ with_new same_tree [] terms =
    rw (c.deref.ensures.value, are) at c.in_ok-terms.ensures in
    c.in_ok-add_cell.ensures
    ∙ (λ i. with_new same_tree (found i) (cond (cell i) (signal s ∷ []) []))
    ∙ with_new-append same_tree [] terms (cond (is_cell spec s) (signal s ∷ []) [])
    ∙ with_new-from_none same_tree same_tree_is (without_repeats same_tree) refl (λ _ _. refl)
    (terms ++ cond (is_cell spec s) (signal s ∷ []) [])
