-- What a spurious window tests is a predicate term of the space.
use Rattle.std.proofs.Common.{◌≡◌, ℕ, Bool, true, false, not, ◌∷◌, [], ◌++◌, map, Option, Some, None, slice_get}
use Rattle.std.specs.List.{AllByRecursion}
use Rattle.base_library.proofs.Each.{each_joined, each_map, each_weaker}
use Rattle.tsl_terms.specs.TermTree.{ProbeTree}
use Rattle.tsl_terms.specs.WindowTree.{EquatedTree, WindowTree, left_probes, window_probes}
use Rattle.letter_space.specs.SpaceTree.{SpaceTree}
use Rattle.machines.specs.MachineTree.{EnvironmentTree}
use Rattle.branch_finder.specs.Spurious.{IsTruthAt, SidesDiffer, IsSpurious}

module _ (space : SpaceTree) (P : ProbeTree → Type 0)
    (each : (bit : ℕ) (p : ProbeTree) → slice_get space.predicates bit ≡ Some p → P p) (e : EnvironmentTree) where
  with_truth : (s : ℕ) (p : ProbeTree) (b : Bool) → IsTruthAt space e s p b → P p
  with_truth s p b at = each at.bit p at.is_bit

  sides_pass : (state : ℕ → ℕ) (w : WindowTree) (left : Option ProbeTree) → SidesDiffer space e state w left →
      AllByRecursion P (left_probes left ++ w.right ∷ [])
  sides_pass state w None differ = (with_truth (state w.length) w.right false differ, tt)
  sides_pass state w (Some left) differ = (
    with_truth (state w.left_at) left differ.0 differ.1,
    (with_truth (state w.length) w.right (not differ.0) differ.2, tt),
  )

  -- what holds of each predicate term holds of each probe of a spurious window
  pub spurious_probes : (w : WindowTree) → IsSpurious space e w → AllByRecursion P (window_probes w)
  spurious_probes w h =
      each_joined P (map (λ (q : EquatedTree). q.probe) w.equalities) (left_probes w.left ++ w.right ∷ [])
      (each_map P (λ (q : EquatedTree). q.probe) w.equalities
      (each_weaker (λ (q : EquatedTree). IsTruthAt space e (h.state q.offset) q.probe true) (λ (q : EquatedTree). P q.probe)
      (λ q at. with_truth (h.state q.offset) q.probe true at) w.equalities h.equal))
      (sides_pass h.state w w.left h.differ)
