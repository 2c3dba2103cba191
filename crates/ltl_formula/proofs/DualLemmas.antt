-- The dual of a formula holds exactly where the formula fails.
use Rattle.std.proofs.Common.{◌≡◌, ◌∙◌, ℕ, Bool, true, false, not, ◌&&◌, ◌||◌, refl, sym}
use Rattle.base_library.proofs.Booleans.{not_not}
use Rattle.loop_shape.specs.AlongLoop.{until_at, release_at}
use Rattle.loop_shape.proofs.Words.{not_until, not_release}
use Rattle.ltl_formula.specs.LtlTree.{LtlTree, LtlTrees, top, bottom, bit, not_bit, conjunction, disjunction, next, until, release}
use Rattle.ltl_formula.specs.LtlTree.{no_formulas, more_formulas}
use Rattle.ltl_formula.specs.LetterLoop.{LetterLoop, shape_of, bit_holds, holds, holds_all, holds_any}
use Rattle.ltl_formula.specs.Dual.{dual, duals}

pub not_and : (a b c d : Bool) → c ≡ not a → d ≡ not b → (c || d) ≡ not (a && b)
not_and true b c d p q = (λ i. p i || q i)
not_and false b c d p q = (λ i. p i || d)

pub not_or : (a b c d : Bool) → c ≡ not a → d ≡ not b → (c && d) ≡ not (a || b)
not_or true b c d p q = (λ i. p i && d)
not_or false b c d p q = (λ i. p i && q i)

mutual
  pub dual_fails : (loop : LetterLoop) (f : LtlTree) (i : ℕ) → holds loop (dual f) i ≡ not (holds loop f i)
  dual_fails loop top i = refl
  dual_fails loop bottom i = refl
  dual_fails loop (bit b) i = refl
  dual_fails loop (not_bit b) i = sym (not_not (bit_holds loop b i))
  dual_fails loop (conjunction fs) i = duals_fail_all loop fs i
  dual_fails loop (disjunction fs) i = duals_fail_any loop fs i
  dual_fails loop (next a) i = dual_fails loop a _
  dual_fails loop (until a b) i =
      (λ k. release_at (shape_of loop) (λ j. dual_fails loop a j k) (λ j. dual_fails loop b j k) i)
      ∙ sym (not_until (shape_of loop) (holds loop a) (holds loop b) i)
  dual_fails loop (release a b) i =
      (λ k. until_at (shape_of loop) (λ j. dual_fails loop a j k) (λ j. dual_fails loop b j k) i)
      ∙ sym (not_release (shape_of loop) (holds loop a) (holds loop b) i)

  pub duals_fail_all : (loop : LetterLoop) (fs : LtlTrees) (i : ℕ) → holds_any loop (duals fs) i ≡ not (holds_all loop fs i)
  duals_fail_all loop no_formulas i = refl
  duals_fail_all loop (more_formulas f fs) i =
      not_and (holds loop f i) (holds_all loop fs i) _ _ (dual_fails loop f i) (duals_fail_all loop fs i)

  pub duals_fail_any : (loop : LetterLoop) (fs : LtlTrees) (i : ℕ) → holds_all loop (duals fs) i ≡ not (holds_any loop fs i)
  duals_fail_any loop no_formulas i = refl
  duals_fail_any loop (more_formulas f fs) i =
      not_or (holds loop f i) (holds_any loop fs i) _ _ (dual_fails loop f i) (duals_fail_any loop fs i)
