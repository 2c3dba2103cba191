-- The test of free terms is equality.
use Rattle.std.proofs.Common.{◌≡◌, ◌↔◌, IsTrue, Bool, true, ◌==◌, refl, sym, ◌∙◌, eq-eqb}
use Rattle.std.proofs.lemmas.Bool.{and_parts, and_from, eqb-true, false≢true}
use Rattle.tsl_terms.specs.FreeTree.{FreeTree, leaf_at, applied, FreeTrees, no_free, more_free}
use Rattle.tsl_terms.specs.SameFree.{same_free, same_frees}

mutual
  pub same_free_is : (a b : FreeTree) → same_free a b ≡ true → a ≡ b
  same_free_is (leaf_at r i) (leaf_at s j) h =
      λ k. leaf_at (eqb-true r s (and_parts (r == s) (i == j) h).0 k) (eqb-true i j (and_parts (r == s) (i == j) h).1 k)
  same_free_is (applied f xs) (applied g ys) h =
      λ i. applied (eqb-true f g (and_parts (f == g) (same_frees xs ys) h).0 i)
      (same_frees_is xs ys (and_parts (f == g) (same_frees xs ys) h).1 i)
  same_free_is (leaf_at r i) (applied g ys) h = absurd (false≢true h)
  same_free_is (applied f xs) (leaf_at s j) h = absurd (false≢true h)

  pub same_frees_is : (xs ys : FreeTrees) → same_frees xs ys ≡ true → xs ≡ ys
  same_frees_is no_free no_free h = refl
  same_frees_is (more_free x xs) (more_free y ys) h =
      λ i. more_free (same_free_is x y (and_parts (same_free x y) (same_frees xs ys) h).0 i)
      (same_frees_is xs ys (and_parts (same_free x y) (same_frees xs ys) h).1 i)
  same_frees_is no_free (more_free y ys) h = absurd (false≢true h)
  same_frees_is (more_free x xs) no_free h = absurd (false≢true h)

mutual
  pub same_free_itself : (a : FreeTree) → same_free a a ≡ true
  same_free_itself (leaf_at r i) = and_from (r == r) (i == i) (eq-eqb r r refl) (eq-eqb i i refl)
  same_free_itself (applied f xs) = and_from (f == f) (same_frees xs xs) (eq-eqb f f refl) (same_frees_itself xs)

  pub same_frees_itself : (xs : FreeTrees) → same_frees xs xs ≡ true
  same_frees_itself no_free = refl
  same_frees_itself (more_free x xs) = and_from (same_free x x) (same_frees xs xs) (same_free_itself x) (same_frees_itself xs)

-- what an answer of the test says
pub equal_by_test : (answer : Bool) (a b : FreeTree) → answer ≡ same_free a b → IsTrue answer ↔ (a ≡ b)
equal_by_test answer a b is = (λ h. same_free_is a b (sym is ∙ h), λ e. is ∙ rw (← e) (same_free_itself a))
