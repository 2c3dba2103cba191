-- Windows whose two sides are equal whatever the symbols mean, but for the predicate that is equality.
-- Source: Finkbeiner, Klein, Piskac, Santolucito: Temporal Stream Logic: Synthesis Beyond the Bools (CAV 2019), the refinement of
-- the underapproximation.
use Rattle.std.specs.Prelude.{◌≡◌, ℕ, true, List, [], Option, Some, None}
use Rattle.std.specs.List.{AllByRecursion}
use Rattle.base_library.specs.Numbers.{is_among}
use Rattle.tsl_terms.specs.TermTree.{TermTree, ProbeTree, count_of_terms}
use Rattle.tsl_terms.specs.WindowTree.{ListedTree, WindowTree}
use Rattle.tsl_terms.specs.Unfolding.{all_unfolded}
use Rattle.tsl_terms.specs.OneClass.{AreInOneClass, AreInOneClasses, pair_of, listed_pairs}

-- a probe of two arguments of the predicate that is equality
pub record IsEquality (equality : Option ℕ) (p : ProbeTree) : Type 0 where
  pub predicate : equality ≡ Some p.predicate
  pub two : count_of_terms p.arguments ≡ 2

-- Both probes have the same predicate, and what their arguments unfold to at their steps is pairwise in one class. Without a left
-- probe the right one is an equality, and what its two arguments unfold to is in one class.
abbrev pub SidesAreOne : List ℕ → Option ℕ → WindowTree → Option ProbeTree → Type 0
SidesAreOne cells equality w (Some left) = (left.predicate ≡ w.right.predicate)
    × AreInOneClasses (listed_pairs cells w.updates w.equalities) (all_unfolded cells w.updates w.left_at left.arguments)
    (all_unfolded cells w.updates w.length w.right.arguments)
SidesAreOne cells equality w None = IsEquality equality w.right
    × AllByRecursion (λ p. AreInOneClass (listed_pairs cells w.updates w.equalities) p.left p.right)
    (pair_of (all_unfolded cells w.updates w.length w.right.arguments))

-- each listed equality is one, and the sides are one by what is listed
pub record IsCongruent (cells : List ℕ) (equality : Option ℕ) (w : WindowTree) : Type 0 where
  pub equalities : AllByRecursion (λ e. IsEquality equality e.probe) w.equalities
  pub sides : SidesAreOne cells equality w w.left

-- A window with a left probe and no equality, whose sides are equal whatever the symbols mean: both probes have the same predicate,
-- and their arguments unfold to the same free terms at their steps.
pub record IsPlain (cells : List ℕ) (w : WindowTree) : Type 0 where
  pub left : ProbeTree
  pub is_left : w.left ≡ Some left
  pub none_listed : w.equalities ≡ []
  pub predicate : left.predicate ≡ w.right.predicate
  pub arguments : all_unfolded cells w.updates w.left_at left.arguments ≡ all_unfolded cells w.updates w.length w.right.arguments

-- what signals take by one function they take by another
abbrev pub Extends : (ℕ → ℕ → Option TermTree) → (ℕ → ℕ → Option TermTree) → Type 0
Extends few more = (t s : ℕ) (x : TermTree) → few t s ≡ Some x → more t s ≡ Some x

-- each listed update is one of a cell
abbrev pub UpdateCells : List ℕ → List ListedTree → Type 0
UpdateCells cells updates = AllByRecursion (λ u. is_among cells u.signal ≡ true) updates
