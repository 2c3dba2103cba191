-- Values that were put at the end of a list, and those that stood before them.
use Rattle.std.proofs.Common.{◌≡◌, ◌∙◌, ℕ, List, [], ◌∷◌, ◌++◌, map, length, take, drop, Option, Some, None, refl, sym, ap, subst}
use Rattle.std.specs.Prelude.{option_map, option_and_then, IsSome}
use Rattle.std.proofs.lemmas.List.{length-map, drop-map, take-map}
use Rattle.std.proofs.lemmas.Option.{same_Some}
use Rattle.std.proofs.Math.Seq.{drop-append_seam, take-append_seam}

module _ {V S : Type 0} (seen : V → S) (old new : List V) where
  pub pushed : (values : Option (List S)) → option_map (λ vs. map seen old ++ vs) values ≡ Some (map seen new) →
      values ≡ Some (map seen (drop (length old) new))
  pushed None is = cc
  pushed (Some vs) is =
      let whole : map seen old ++ vs ≡ map seen new = same_Some _ _ is in
      ap (λ us. Some us)
      (sym (drop-append_seam (map seen old) vs) ∙ (λ i. drop (length-map old seen i) (whole i)) ∙ drop-map seen (length old) new)

  pub stood : (values : Option (List S)) → option_map (λ vs. map seen old ++ vs) values ≡ Some (map seen new) →
      map seen (take (length old) new) ≡ map seen old
  stood None is = cc
  stood (Some vs) is =
      let whole : map seen old ++ vs ≡ map seen new = same_Some _ _ is in
      sym (sym (take-append_seam (map seen old) vs) ∙ (λ i. take (length-map old seen i) (whole i)) ∙ take-map seen (length old) new)

  module _ (f : List S → Option S) (values : Option (List S)) (n : ℕ) (here : n ≡ length old)
      (is : option_map (λ vs. map seen old ++ vs) values ≡ Some (map seen new)) where
    -- a function has a value on what was put there
    pub last_there : IsSome (option_and_then f values) → IsSome (f (map seen (drop n new)))
    last_there some =
        subst (λ k. IsSome (f (map seen (drop k new)))) (sym here)
        (subst (λ o. IsSome (option_and_then f o)) (pushed values is) some)

    -- and it stands where the arguments stood
    pub last_replaced :
        option_map (λ v. map seen (take n new) ++ v ∷ []) (f (map seen (drop n new)))
        ≡ option_map (λ v. map seen old ++ v ∷ []) (option_and_then f values)
    last_replaced =
        (λ i. option_map (λ v. map seen (take (here i) new) ++ v ∷ []) (f (map seen (drop (here i) new))))
        ∙ (λ i. option_map (λ v. stood values is i ++ v ∷ []) (option_and_then f (sym (pushed values is) i)))
