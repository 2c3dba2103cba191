-- Where no predicate is equality, a window is congruent exactly where it has a left probe, lists no equality, and both sides have the
-- same predicate and unfold to the same free terms. Such a window is congruent whatever predicate is equality.
use Rattle.std.proofs.Common.{◌≡◌, ℕ, List, [], ◌∷◌, Option, Some, None, refl, sym, subst}
use Rattle.std.specs.List.{AllByRecursion}
use Rattle.std.proofs.lemmas.Option.{none-some}
use Rattle.tsl_terms.specs.TermTree.{ProbeTree}
use Rattle.tsl_terms.specs.WindowTree.{EquatedTree, WindowTree}
use Rattle.tsl_terms.specs.Unfolding.{all_unfolded}
use Rattle.tsl_terms.specs.OneClass.{AreInOneClasses, listed_pairs}
use Rattle.tsl_terms.specs.Congruence.{IsCongruent, IsEquality, IsPlain, SidesAreOne}
use Rattle.tsl_terms.proofs.SingleClasses.{one_classes_are_one, same_are_in_one}

none_listed : (es : List EquatedTree) → AllByRecursion (λ e. IsEquality None e.probe) es → es ≡ []
none_listed [] are = refl
none_listed (e ∷ es) are = absurd (none-some e.probe.predicate are.0.predicate)

pub congruent_is_plain : (cells : List ℕ) (w : WindowTree) → IsCongruent cells None w → IsPlain cells w
congruent_is_plain cells w is = by w.left refl is.sides
  where
    without : w.equalities ≡ []
    without = none_listed w.equalities is.equalities

    by : (left : Option ProbeTree) → w.left ≡ left → SidesAreOne cells None w left → IsPlain cells w
    by None none sides = absurd (none-some w.right.predicate sides.0.predicate)
    by (Some left) some sides = record {
      left = left;
      is_left = some;
      none_listed = without;
      predicate = sides.0;
      arguments = (one_classes_are_one (all_unfolded cells w.updates w.left_at left.arguments)
          (all_unfolded cells w.updates w.length w.right.arguments)).0
          (subst (λ es. AreInOneClasses (listed_pairs cells w.updates es) (all_unfolded cells w.updates w.left_at left.arguments)
          (all_unfolded cells w.updates w.length w.right.arguments)) without sides.1);
    }

pub plain_is_congruent : (cells : List ℕ) (equality : Option ℕ) (w : WindowTree) → IsPlain cells w → IsCongruent cells equality w
plain_is_congruent cells equality w plain = record {
  equalities = subst (AllByRecursion (λ e. IsEquality equality e.probe)) (sym plain.none_listed) tt;
  sides = subst (SidesAreOne cells equality w) (sym plain.is_left) (
    plain.predicate,
    same_are_in_one (listed_pairs cells w.updates w.equalities) (all_unfolded cells w.updates w.left_at plain.left.arguments)
        (all_unfolded cells w.updates w.length w.right.arguments) plain.arguments,
  );
}

-- a window that is congruent where no predicate is equality is so whatever predicate is
pub congruent_whatever : (cells : List ℕ) (equality : Option ℕ) (w : WindowTree) → IsCongruent cells None w → IsCongruent cells equality w
congruent_whatever cells equality w is = plain_is_congruent cells equality w (congruent_is_plain cells w is)
