-- Where no pair is listed, free terms of one class are equal.
use Rattle.std.proofs.Common.{◌≡◌, ◌∙◌, ◌↔◌, Bool, List, [], true, refl, subst}
use Rattle.tsl_terms.specs.FreeTree.{FreeTree, applied, FreeTrees, no_free, more_free}
use Rattle.tsl_terms.specs.SameFree.{same_free}
use Rattle.tsl_terms.specs.OneClass.{PairTree, AreAllIn, IsCongruence, AreInOneClass, AreInOneClasses}
use Rattle.tsl_terms.proofs.SameFrees.{same_free_is, same_free_itself}

all_in : (xs ys : FreeTrees) → AreAllIn same_free xs ys → xs ≡ ys
all_in no_free no_free are = refl
all_in no_free (more_free y ys) are = absurd are
all_in (more_free x xs) no_free are = absurd are
all_in (more_free x xs) (more_free y ys) are = λ i. more_free (same_free_is x y are.0 i) (all_in xs ys are.1 i)

equality_congruence : IsCongruence [] same_free
equality_congruence = record {
  itself = same_free_itself;
  turned = λ x y e. subst (λ z. same_free z x ≡ true) (same_free_is x y e) (same_free_itself x);
  through = λ x y z e f. subst (λ w. same_free x w ≡ true) (same_free_is x y e ∙ same_free_is y z f) (same_free_itself x);
  listed = tt;
  applications = λ f xs ys are.
      subst (λ zs. same_free (applied f xs) (applied f zs) ≡ true) (all_in xs ys are) (same_free_itself (applied f xs));
}

pub one_class_is_one : (x y : FreeTree) → AreInOneClass [] x y ↔ (x ≡ y)
one_class_is_one x y = (
  λ one. same_free_is x y (one same_free equality_congruence),
  λ same R congruence. subst (λ z. R x z ≡ true) same (congruence.itself x),
)

-- a congruence has each list of free terms with itself
pub all_in_itself : (pairs : List PairTree) (R : FreeTree → FreeTree → Bool) → IsCongruence pairs R → (xs : FreeTrees) → AreAllIn R xs xs
all_in_itself pairs R congruence no_free = tt
all_in_itself pairs R congruence (more_free x xs) = (congruence.itself x, all_in_itself pairs R congruence xs)

pub same_are_in_one : (pairs : List PairTree) (xs ys : FreeTrees) → xs ≡ ys → AreInOneClasses pairs xs ys
same_are_in_one pairs xs ys same R congruence = subst (λ zs. AreAllIn R xs zs) same (all_in_itself pairs R congruence xs)

pub one_classes_are_one : (xs ys : FreeTrees) → AreInOneClasses [] xs ys ↔ (xs ≡ ys)
one_classes_are_one xs ys = (λ one. all_in xs ys (one same_free equality_congruence), same_are_in_one [] xs ys)
