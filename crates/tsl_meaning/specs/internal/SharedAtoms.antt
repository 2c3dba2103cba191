-- Internal: only private functions of this crate use these words.
-- Atoms with their planes.
use Rattle.std.specs.Prelude.{ℕ, Bool, false, ◌==◌, ◌&&◌, List}
use Rattle.std.specs.List.{AllByRecursion}
use Rattle.tsl_terms.specs.FormulaTree.{Atom, test, update}
use Rattle.tsl_terms.specs.SameTree.{same_tree, same_probe_tree}
use Rattle.tsl_terms.specs.AtomView.{atom_tree}
use Rattle.position_planes.specs.Positions.{IsPlaneOf}
use Rattle.tsl_meaning.specs.declared.shared_atoms.SharedAtom.{SharedAtom}

-- whether two atoms are equal
abbrev pub same_atom : Atom → Atom → Bool
same_atom (test p) (test q) = same_probe_tree p q
same_atom (update r t) (update s u) = (r == s) && same_tree t u
same_atom (test p) (update s u) = false
same_atom (update r t) (test q) = false

-- each plane is that of where its atom holds, among so many positions
abbrev pub HavePlanes : ℕ → (ℕ → Atom → Bool) → List SharedAtom → Type 0
HavePlanes n holds shared = AllByRecursion (λ s. IsPlaneOf n (λ i. holds i (atom_tree s.atom)) s.plane.items) shared
