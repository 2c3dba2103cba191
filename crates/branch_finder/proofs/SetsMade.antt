-- Loops that list masks and sets of vectors.
use Rattle.std.proofs.Common.{◌≡◌, ◌∙◌, ℕ, ◌+◌, ◌<◌, true, List, [], ◌∷◌, ◌++◌, length, map, Some, slice_get}
use Rattle.std.proofs.Common.{inl, inr, refl, sym, ap, subst, arith, add-one, length-append}
use Rattle.std.proofs.lemmas.List.{map-append}
use Rattle.std.proofs.lemmas.Option.{slice_get_within, get_or_from_slice_get}
use Rattle.base_library.specs.Numbers.{is_among, numbers_from}
use Rattle.base_library.proofs.Each.{each_weaker, each_joined}
use Rattle.base_library.proofs.Numbers.{among_place, numbers_more}
use Rattle.base_library.proofs.Places.{slice_get_mapped, slice_get_grown, slice_get-behind, slice_get_some}
use Rattle.letter_space.specs.SpaceTree.{SpaceTree}
use Rattle.branch_finder.specs.internal.Sets.{set_of, numbered_set, AreSets}
use Rattle.branch_finder.proofs.LoopFacts.{before_or_here}

-- one image more
pub images_more : (f : ℕ → ℕ) (n m : ℕ) (old new : List ℕ) → old ≡ map f (numbers_from 0 n) → new ≡ old ++ m ∷ [] → m ≡ f n →
    new ≡ map f (numbers_from 0 (n + 1))
images_more f n m old new so_far step is =
    step ∙ (λ i. so_far i ++ is i ∷ [])
    ∙ sym (map-append f (numbers_from 0 n) (n ∷ []))
    ∙ ap (map f) (sym (numbers_more 0 n n (omega arith)))
    ∙ ap (λ k. map f (numbers_from 0 k)) (sym (add-one n))

module _ (space : SpaceTree) (cells : List ℕ) where
  pub no_sets : (sets firsts : List ℕ) → sets ≡ [] → firsts ≡ [] → AreSets space cells 0 sets firsts
  no_sets sets firsts none none_too =
      subst (λ ss. AreSets space cells 0 ss firsts) (sym none) (subst (AreSets space cells 0 []) (sym none_too) (record {
        are_firsts = record { within = tt; few = omega arith; all = λ v below. absurd (omega (arith, below)) };
        are_sets = refl;
      }))

  number_of : (firsts : List ℕ) (n v : ℕ) → slice_get firsts n ≡ Some v → numbered_set space cells firsts n ≡ set_of space cells v
  number_of firsts n v at = ap (set_of space cells) (get_or_from_slice_get firsts n v 0 at)

  -- a vector whose set is there
  pub sets_same : (v : ℕ) (sets firsts : List ℕ) → is_among sets (set_of space cells v) ≡ true → AreSets space cells v sets firsts →
      AreSets space cells (v + 1) sets firsts
  sets_same v sets firsts among are = record {
    are_firsts = record {
      within = each_weaker (λ u. u < v) (λ u. u < v + 1) (λ u below. omega (arith, below)) firsts are.are_firsts.within;
      few = omega (arith, are.are_firsts.few);
      all = λ u below. elim (before_or_here u v below) [
        | inl before ↦ are.are_firsts.all u before
        | inr here ↦
            let place = among_place sets (set_of space cells v) among in
            let first = slice_get_mapped (set_of space cells) firsts place.0 (set_of space cells v)
            (ap (λ ss. slice_get ss place.0) (sym are.are_sets) ∙ place.1) in (
              place.0,
              slice_get_within firsts place.0 first.0 first.1,
              number_of firsts place.0 first.0 first.1 ∙ first.2 ∙ ap (set_of space cells) (sym here),
            )
      ];
    };
    are_sets = are.are_sets;
  }

  -- a vector whose set is new
  pub sets_more : (v : ℕ) (sets firsts more more_firsts : List ℕ) → more ≡ sets ++ set_of space cells v ∷ [] → more_firsts ≡ firsts ++ v ∷ [] →
      AreSets space cells v sets firsts → AreSets space cells (v + 1) more more_firsts
  sets_more v sets firsts more more_firsts longer longer_too are =
      subst (λ ss. AreSets space cells (v + 1) ss more_firsts) (sym longer)
      (subst (AreSets space cells (v + 1) (sets ++ set_of space cells v ∷ [])) (sym longer_too) (record {
        are_firsts = record {
          within = each_joined (λ u. u < v + 1) firsts (v ∷ [])
              (each_weaker (λ u. u < v) (λ u. u < v + 1) (λ u below. omega (arith, below)) firsts are.are_firsts.within)
              (omega arith, tt);
          few = omega (arith, are.are_firsts.few, length-append firsts (v ∷ []));
          all = λ u below. elim (before_or_here u v below) [
            | inl before ↦
                let old = are.are_firsts.all u before in
                let first = slice_get_some firsts old.0 old.1 in (
                  old.0,
                  omega (arith, old.1, length-append firsts (v ∷ [])),
                  number_of (firsts ++ v ∷ []) old.0 first.0 (slice_get_grown firsts (v ∷ []) old.0 first.0 first.1)
                      ∙ sym (number_of firsts old.0 first.0 first.1) ∙ old.2,
                )
            | inr here ↦ (
              length firsts,
              omega (arith, length-append firsts (v ∷ [])),
              number_of (firsts ++ v ∷ []) (length firsts) v (slice_get-behind firsts v []) ∙ ap (set_of space cells) (sym here),
            )
          ];
        };
        are_sets = (λ i. are.are_sets i ++ set_of space cells v ∷ []) ∙ sym (map-append (set_of space cells) firsts (v ∷ []));
      }))
