-- Internal: only private functions of this crate use these words.
-- The sides of a window and the pairs of its equalities, where a function says which term a signal takes at a step.
use Rattle.std.specs.Prelude.{◌≡◌, ◌↔◌, ℕ, List, length, get_or, Option, Some, None, flat_map}
use Rattle.std.specs.List.{AllByRecursion}
use Rattle.tsl_terms.specs.TermTree.{TermTree, ProbeTree}
use Rattle.tsl_terms.specs.WindowTree.{EquatedTree, WindowTree}
use Rattle.tsl_terms.specs.FreeTree.{FreeTree}
use Rattle.tsl_terms.specs.Unfolding.{all_with_leaves, signal_unfolded}
use Rattle.tsl_terms.specs.OneClass.{PairTree, AreInOneClass, AreInOneClasses, pair_of}
use Rattle.tsl_terms.specs.Congruence.{IsEquality}
use Rattle.term_congruence.specs.internal.Shapes.{ShapeTree, IsLabelOf}

-- what the two arguments of each equality unfold to at its offset
abbrev pub pairs_by : (ℕ → ℕ → Option TermTree) → List EquatedTree → List PairTree
pairs_by taken equalities = flat_map (λ e. pair_of (all_with_leaves (signal_unfolded taken e.offset) e.probe.arguments)) equalities

-- a left probe is as the right one
abbrev pub LeftIsAsRight : (ℕ → ℕ → Option TermTree) → WindowTree → ProbeTree → Type 0
LeftIsAsRight taken w left = (left.predicate ≡ w.right.predicate)
    × AreInOneClasses (pairs_by taken w.equalities) (all_with_leaves (signal_unfolded taken w.left_at) left.arguments)
    (all_with_leaves (signal_unfolded taken w.length) w.right.arguments)

-- the right probe is an equality whose arguments are in one class
abbrev pub RightIsOne : (ℕ → ℕ → Option TermTree) → Option ℕ → WindowTree → Type 0
RightIsOne taken equality w = IsEquality equality w.right
    × AllByRecursion (λ p. AreInOneClass (pairs_by taken w.equalities) p.left p.right)
    (pair_of (all_with_leaves (signal_unfolded taken w.length) w.right.arguments))

-- the sides of a window are one
abbrev pub SidesAreOneBy : (ℕ → ℕ → Option TermTree) → Option ℕ → WindowTree → Option ProbeTree → Type 0
SidesAreOneBy taken equality w (Some left) = LeftIsAsRight taken w left
SidesAreOneBy taken equality w None = RightIsOne taken equality w

-- labels have the same class exactly where these pairs put their free terms into one class
pub record AreExactClasses (shapes : List ShapeTree) (pairs : List PairTree) (classes : List ℕ) : Type 0 where
  pub long : length classes ≡ length shapes
  pub exact : (x y : FreeTree) (m n : ℕ) → IsLabelOf shapes x m → IsLabelOf shapes y n →
      AreInOneClass pairs x y ↔ (get_or classes m 0 ≡ get_or classes n 0)
