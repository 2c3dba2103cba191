-- The order of trees is total, and equal trees alone are equal in it. A tree is read as a list of
-- numbers, so that the order is that of lists of numbers.
use Rattle.std.proofs.Common.{◌≡◌, ◌∙◌, ℕ, List, [], ◌∷◌, refl, sym, ap}
use Rattle.std.specs.declared.cmp.Ordering.{Ordering}
use Rattle.std.specs.declared.cmp.Ordering.TheVariants.{Less, Equal, Greater}
use Rattle.std.specs.Ordering.{nat_cmp, ordering_then, ordering_reverse, on}
use Rattle.std.specs.Cmp.{IsTotalOrder}
use Rattle.std.specs.Cmp.Lexicographic.{slice_cmp}
use Rattle.std.proofs.lemmas.Cmp.{on_total, nat_list_cmp_total, ranked}
use Rattle.ltl_formula.specs.LtlTree.{LtlTree, top, bottom, bit, not_bit, conjunction, disjunction, next, until, release, LtlTrees}
use Rattle.ltl_formula.specs.LtlTree.{no_formulas, more_formulas}
use Rattle.ltl_formula.specs.LtlOrder.{tree_cmp, trees_cmp}

abbrev mutual
  code : LtlTree → List ℕ → List ℕ
  code top t = 0 ∷ t
  code bottom t = 1 ∷ t
  code (bit b) t = 2 ∷ (b ∷ t)
  code (not_bit b) t = 3 ∷ (b ∷ t)
  code (conjunction fs) t = 4 ∷ list_code fs t
  code (disjunction fs) t = 5 ∷ list_code fs t
  code (next a) t = 6 ∷ code a t
  code (until a b) t = 7 ∷ code a (code b t)
  code (release a b) t = 8 ∷ code a (code b t)

  list_code : LtlTrees → List ℕ → List ℕ
  list_code no_formulas t = 0 ∷ t
  list_code (more_formulas f fs) t = 1 ∷ code f (list_code fs t)

assoc : (p q r : Ordering) → ordering_then p (ordering_then q r) ≡ ordering_then (ordering_then p q) r
assoc Less q r = refl
assoc Equal q r = refl
assoc Greater q r = refl

-- two formulas that stand before two rests are ordered first, and then the rests
mutual
  by_code : (f g : LtlTree) (s t : List ℕ) → slice_cmp nat_cmp (code f s) (code g t) ≡ ordering_then (tree_cmp f g) (slice_cmp nat_cmp s t)
  by_code top top s t = refl
  by_code bottom bottom s t = refl
  by_code (bit b) (bit c) s t = refl
  by_code (not_bit b) (not_bit c) s t = refl
  by_code (conjunction fs) (conjunction gs) s t = by_list_code fs gs s t
  by_code (disjunction fs) (disjunction gs) s t = by_list_code fs gs s t
  by_code (next a) (next b) s t = by_code a b s t
  by_code (until a b) (until c d) s t =
      by_code a c (code b s) (code d t) ∙ ap (ordering_then (tree_cmp a c)) (by_code b d s t)
      ∙ assoc (tree_cmp a c) (tree_cmp b d) (slice_cmp nat_cmp s t)
  by_code (release a b) (release c d) s t =
      by_code a c (code b s) (code d t) ∙ ap (ordering_then (tree_cmp a c)) (by_code b d s t)
      ∙ assoc (tree_cmp a c) (tree_cmp b d) (slice_cmp nat_cmp s t)
  by_code f g s t = refl

  by_list_code : (fs gs : LtlTrees) (s t : List ℕ) → slice_cmp nat_cmp (list_code fs s) (list_code gs t)
      ≡ ordering_then (trees_cmp fs gs) (slice_cmp nat_cmp s t)
  by_list_code no_formulas no_formulas s t = refl
  by_list_code (more_formulas f fs) (more_formulas g gs) s t =
      by_code f g (list_code fs s) (list_code gs t) ∙ ap (ordering_then (tree_cmp f g)) (by_list_code fs gs s t)
      ∙ assoc (tree_cmp f g) (trees_cmp fs gs) (slice_cmp nat_cmp s t)
  by_list_code fs gs s t = refl

then_equal : (p : Ordering) → ordering_then p Equal ≡ p
then_equal Less = refl
then_equal Equal = refl
then_equal Greater = refl

code_cmp : LtlTree → LtlTree → Ordering
code_cmp f g = on (λ h. code h []) (slice_cmp nat_cmp) f g

is_code_cmp : (f g : LtlTree) → on (λ h. code h []) (slice_cmp nat_cmp) f g ≡ tree_cmp f g
is_code_cmp f g = by_code f g [] [] ∙ then_equal (tree_cmp f g)

-- a total order by another name
same_total : {K : Type 0} (R S : K → K → Ordering) → ((x y : K) → R x y ≡ S x y) → IsTotalOrder R → IsTotalOrder S
same_total R S same total = record {
  antisymm = λ x y. sym (same x y) ∙ total.antisymm x y ∙ ap ordering_reverse (same y x);
  trans = λ x y z p q. sym (same x z) ∙ total.trans x y z (same x y ∙ p) (same y z ∙ q);
  congr = λ x y z p. sym (same x z) ∙ total.congr x y z (same x y ∙ p) ∙ same y z;
}

pub tree_cmp_total : IsTotalOrder tree_cmp
tree_cmp_total = same_total (on (λ h. code h []) (slice_cmp nat_cmp)) tree_cmp is_code_cmp (on_total (λ h. code h []) nat_list_cmp_total)

-- both parts are equal where their order is
both_equal : (p q : Ordering) → ordering_then p q ≡ Equal → (p ≡ Equal) × (q ≡ Equal)
both_equal Less q h = cc
both_equal Equal q h = (refl, h)
both_equal Greater q h = cc

same_number : (m n : ℕ) → nat_cmp m n ≡ Equal → m ≡ n
same_number m n h = rw h at (ranked m n (nat_cmp m n) refl)

mutual
  pub equal_trees : (f g : LtlTree) → tree_cmp f g ≡ Equal → f ≡ g
  equal_trees top top h = refl
  equal_trees bottom bottom h = refl
  equal_trees (bit b) (bit c) h = ap bit (same_number b c h)
  equal_trees (not_bit b) (not_bit c) h = ap not_bit (same_number b c h)
  equal_trees (conjunction fs) (conjunction gs) h = ap conjunction (equal_lists fs gs h)
  equal_trees (disjunction fs) (disjunction gs) h = ap disjunction (equal_lists fs gs h)
  equal_trees (next a) (next b) h = ap next (equal_trees a b h)
  equal_trees (until a b) (until c d) h =
      let both = both_equal (tree_cmp a c) (tree_cmp b d) h in λ i. until (equal_trees a c both.0 i) (equal_trees b d both.1 i)
  equal_trees (release a b) (release c d) h =
      let both = both_equal (tree_cmp a c) (tree_cmp b d) h in λ i. release (equal_trees a c both.0 i) (equal_trees b d both.1 i)
  equal_trees f g h = cc

  pub equal_lists : (fs gs : LtlTrees) → trees_cmp fs gs ≡ Equal → fs ≡ gs
  equal_lists no_formulas no_formulas h = refl
  equal_lists (more_formulas f fs) (more_formulas g gs) h =
      let both = both_equal (tree_cmp f g) (trees_cmp fs gs) h in λ i. more_formulas (equal_trees f g both.0 i) (equal_lists fs gs both.1 i)
  equal_lists fs gs h = cc
