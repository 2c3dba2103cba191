-- Free terms of one class have one image, wherever each listed pair has one.
use Rattle.std.proofs.Common.{◌≡◌, ◌∙◌, ℕ, Bool, true, false, ◌==◌, List, [], ◌∷◌, Option, Some, None, refl, sym, ap, subst, eq-eqb}
use Rattle.std.specs.Prelude.{option_map, option_and_then}
use Rattle.std.specs.List.{AllByRecursion}
use Rattle.std.proofs.lemmas.Bool.{eqb-true, false≢true}
use Rattle.std.proofs.lemmas.Option.{none-some, same_Some}
use Rattle.tsl_terms.specs.FreeTree.{FreeTree, applied, FreeTrees, no_free, more_free}
use Rattle.tsl_terms.specs.Value.{Meanings}
use Rattle.interp_core.specs.Image.{image_of, images_of}
use Rattle.tsl_terms.specs.OneClass.{PairTree, AreAllIn, IsCongruence, AreInOneClass, AreInOneClasses, pair_of}

-- two values are the same, or both are not there
abbrev same_value : Option ℕ → Option ℕ → Bool
same_value None None = true
same_value None (Some b) = false
same_value (Some a) None = false
same_value (Some a) (Some b) = a == b

value_is : (a b : Option ℕ) → same_value a b ≡ true → a ≡ b
value_is None None e = refl
value_is None (Some b) e = absurd (false≢true e)
value_is (Some a) None e = absurd (false≢true e)
value_is (Some a) (Some b) e = ap Some (eqb-true a b e)

value_itself : (a : Option ℕ) → same_value a a ≡ true
value_itself None = refl
value_itself (Some a) = eq-eqb a a refl

module _ (meanings : Meanings ℕ) (at : ℕ → ℕ → Option ℕ) where
  abbrev image : FreeTree → Option ℕ
  image x = image_of meanings at x

  same_for : (x y : FreeTree) → image x ≡ image y → same_value (image x) (image y) ≡ true
  same_for x y e = subst (λ o. same_value (image x) o ≡ true) e (value_itself (image x))

  all_same : (xs ys : FreeTrees) → AreAllIn (λ x y. same_value (image x) (image y)) xs ys → images_of meanings at xs ≡ images_of meanings at ys
  all_same no_free no_free are = refl
  all_same no_free (more_free y ys) are = absurd are
  all_same (more_free x xs) no_free are = absurd are
  all_same (more_free x xs) (more_free y ys) are =
      let first = value_is (image x) (image y) are.0 in
      let rest = all_same xs ys are.1 in
      λ i. option_and_then (λ c. option_map (λ cs. c ∷ cs) (rest i)) (first i)

  each_listed : (ps : List PairTree) → AllByRecursion (λ p. image p.left ≡ image p.right) ps →
      AllByRecursion (λ p. same_value (image p.left) (image p.right) ≡ true) ps
  each_listed [] are = tt
  each_listed (p ∷ ps) are = (same_for p.left p.right are.0, each_listed ps are.1)

  images_congruence : (pairs : List PairTree) → AllByRecursion (λ p. image p.left ≡ image p.right) pairs →
      IsCongruence pairs (λ x y. same_value (image x) (image y))
  images_congruence pairs listed = record {
    itself = λ x. value_itself (image x);
    turned = λ x y e. same_for y x (sym (value_is (image x) (image y) e));
    through = λ x y z e f. same_for x z (value_is (image x) (image y) e ∙ value_is (image y) (image z) f);
    listed = each_listed pairs listed;
    applications = λ f xs ys are. same_for (applied f xs) (applied f ys) (ap (option_and_then (meanings.function f)) (all_same xs ys are));
  }

  pub one_image : (pairs : List PairTree) → AllByRecursion (λ p. image p.left ≡ image p.right) pairs → (x y : FreeTree) →
      AreInOneClass pairs x y → image x ≡ image y
  one_image pairs listed x y one = value_is (image x) (image y) (one _ (images_congruence pairs listed))

  pub same_images : (pairs : List PairTree) → AllByRecursion (λ p. image p.left ≡ image p.right) pairs → (xs ys : FreeTrees) →
      AreInOneClasses pairs xs ys → images_of meanings at xs ≡ images_of meanings at ys
  same_images pairs listed xs ys are = all_same xs ys (are _ (images_congruence pairs listed))

  -- where a predicate is equality of two values
  module _ (p : ℕ) (is_equality : (a b : ℕ) → meanings.predicate p (a ∷ b ∷ []) ≡ Some (a == b)) where
    -- what it holds of has one image
    pub equated : (xs : FreeTrees) → option_and_then (meanings.predicate p) (images_of meanings at xs) ≡ Some true →
        AllByRecursion (λ q. image q.left ≡ image q.right) (pair_of xs)
    equated no_free holds = tt
    equated (more_free x no_free) holds = tt
    equated (more_free x (more_free y (more_free z zs))) holds = tt
    equated (more_free x (more_free y no_free)) holds = (by (image x) (image y) holds, tt)
      where
        by : (a b : Option ℕ) →
            option_and_then (meanings.predicate p) (option_and_then (λ v. option_map (λ vs. v ∷ vs)
            (option_and_then (λ u. Some (u ∷ [])) b)) a) ≡ Some true → a ≡ b
        by None b e = cc
        by (Some a) None e = cc
        by (Some a) (Some b) e = ap Some (eqb-true a b (some_one (sym (is_equality a b) ∙ e)))
          where
            some_one : Some (a == b) ≡ Some true → (a == b) ≡ true
            some_one e = cc

    -- of two free terms with one image it holds, where it has a truth
    pub holds_of_one : (x y : FreeTree) → image x ≡ image y → (b : Bool) →
        option_and_then (meanings.predicate p) (images_of meanings at (more_free x (more_free y no_free))) ≡ Some b → b ≡ true
    holds_of_one x y one b there = by (image x) (image y) one there
      where
        by : (v w : Option ℕ) → v ≡ w →
            option_and_then (meanings.predicate p) (option_and_then (λ u. option_map (λ us. u ∷ us)
            (option_and_then (λ t. Some (t ∷ [])) w)) v) ≡ Some b → b ≡ true
        by None w same is = absurd (none-some b is)
        by (Some v) None same is = absurd (none-some v (sym same))
        by (Some v) (Some w) same is =
            let equal : v ≡ w = same_Some v w same in
            sym (same_Some (v == w) b (sym (is_equality v w) ∙ is)) ∙ eq-eqb v w equal
