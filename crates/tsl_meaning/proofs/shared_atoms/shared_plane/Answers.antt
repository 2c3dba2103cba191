use Rattle.std.proofs.Common.{◌≡◌, ◌∙◌, ap, refl, slice_get, subst, sym}
use Rattle.std.proofs.lemmas.Option.{slice_get_read}
use Rattle.base_library.proofs.Each.{each_at}
use Rattle.tsl_terms.specs.AtomView.{atom_tree}
use Rattle.position_planes.specs.Positions.{IsPlaneOf}
use Rattle.tsl_meaning.proofs.SharedAtoms.{same_atom_is}
use Rattle.tsl_meaning.proofs.shared_atoms.shared_plane.Goals as goal

pub returns-then-is_same : goal.returns-then-is_same
returns-then-is_same c = λ n holds shared.
    let found = c.in_ok-found.found.now in
    let same : atom_tree found.atom ≡ atom_tree c.args.atom =
    same_atom_is (atom_tree found.atom) (atom_tree c.args.atom) (sym c.is_same.ensures ∙ c.if-is_same.true) in
    let on = each_at (λ s. IsPlaneOf n (λ i. holds i (atom_tree s.atom)) s.plane.items) c.args.shared.now.atoms.items c.in_ok-place.place
    found shared (ap (λ xs. slice_get xs c.in_ok-place.place) (sym c.deref.ensures.value)
    ∙ slice_get_read _ _ _ _ refl c.in_ok-found.ensures.lookup.3.0 c.in_ok-found.ensures.lookup.1) in
    subst (λ a. IsPlaneOf n (λ i. holds i a) c.as_slice.result.now) same
    (subst (IsPlaneOf n (λ i. holds i (atom_tree found.atom))) (sym c.as_slice.ensures.value) on)
