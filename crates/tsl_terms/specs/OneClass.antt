-- Free terms in one class, where equalities are listed: those that each equivalence puts together that has the listed pairs and that
-- has two applications of one function where it has their arguments pairwise.
-- Source: Nelson, Oppen: Fast Decision Procedures Based on Congruence Closure (JACM 1980).
use Rattle.std.specs.Prelude.{◌≡◌, ℕ, Bool, true, ⊤, List, [], ◌∷◌, flat_map}
use Rattle.std.specs.List.{AllByRecursion}
use Rattle.tsl_terms.specs.FreeTree.{FreeTree, applied, FreeTrees, no_free, more_free}
use Rattle.tsl_terms.specs.WindowTree.{ListedTree, EquatedTree}
use Rattle.tsl_terms.specs.Unfolding.{all_unfolded}

-- two free terms that are put together
pub record PairTree : Type 0 where
  pub left : FreeTree
  pub right : FreeTree

-- free terms pairwise in a relation, in lists of one length
abbrev pub AreAllIn : (FreeTree → FreeTree → Bool) → FreeTrees → FreeTrees → Type 0
AreAllIn R no_free no_free = ⊤
AreAllIn R (more_free x xs) (more_free y ys) = (R x y ≡ true) × AreAllIn R xs ys
AreAllIn R no_free (more_free y ys) = ⊥
AreAllIn R (more_free x xs) no_free = ⊥

-- an equivalence that has the listed pairs, and two applications of one function where it has their arguments pairwise
pub record IsCongruence (pairs : List PairTree) (R : FreeTree → FreeTree → Bool) : Type 0 where
  pub itself : (x : FreeTree) → R x x ≡ true
  pub turned : (x y : FreeTree) → R x y ≡ true → R y x ≡ true
  pub through : (x y z : FreeTree) → R x y ≡ true → R y z ≡ true → R x z ≡ true
  pub listed : AllByRecursion (λ p. R p.left p.right ≡ true) pairs
  pub applications : (f : ℕ) (xs ys : FreeTrees) → AreAllIn R xs ys → R (applied f xs) (applied f ys) ≡ true

-- the smallest such equivalence
abbrev pub AreInOneClass : List PairTree → FreeTree → FreeTree → Type 0
AreInOneClass pairs x y = (R : FreeTree → FreeTree → Bool) → IsCongruence pairs R → R x y ≡ true

-- free terms pairwise in one class, in lists of one length
abbrev pub AreInOneClasses : List PairTree → FreeTrees → FreeTrees → Type 0
AreInOneClasses pairs xs ys = (R : FreeTree → FreeTree → Bool) → IsCongruence pairs R → AreAllIn R xs ys

-- the pair of two free terms
abbrev pub pair_of : FreeTrees → List PairTree
pair_of (more_free x (more_free y no_free)) = record { left = x; right = y } ∷ []
pair_of no_free = []
pair_of (more_free x no_free) = []
pair_of (more_free x (more_free y (more_free z zs))) = []

-- what the two arguments of each listed equality unfold to at its offset
abbrev pub listed_pairs : List ℕ → List ListedTree → List EquatedTree → List PairTree
listed_pairs cells updates equalities = flat_map (λ e. pair_of (all_unfolded cells updates e.offset e.probe.arguments)) equalities
