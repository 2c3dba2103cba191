-- Lists of updates, step by step, and the names of signals that are declared.
use Rattle.std.proofs.Common.{◌≡◌, ℕ, zero, suc, ◌+◌, ◌<◌, true, false, ◌&&◌, List, [], ◌∷◌, ◌++◌, length, map, get_or, drop}
use Rattle.std.proofs.Common.{take, refl, ap, sym, subst, ◌∙◌}
use Rattle.std.proofs.Common.{arith}
use Rattle.std.specs.Prelude.{Some, None, slice_get, IsSomeAnd, bytes_eq, option_map}
use Rattle.std.proofs.lemmas.List.{drop_all, map-append}
use Rattle.std.proofs.lemmas.Option.{slice_get-get_or, slice_get-map}
use Rattle.base_library.proofs.Lists.{map_map}
use Rattle.std.proofs.Math.Bool.{and-false}
use Rattle.base_library.proofs.Places.{slice_get_grown, slice_get-append}
use Rattle.std.specs.List.{take-map}
use Rattle.tsl_terms.specs.Name.{number_of, texts, AreDistinct, Name as NameEntry}
use Rattle.tsl_terms.proofs.NameLemmas.{absent_before}
use Rattle.program_listing.specs.declared.listing.Name.{Name}
use Rattle.program_listing.specs.declared.listing.SpelledListed.{SpelledListed}
use Rattle.program_listing.specs.Listing.{name_bytes, declared_entry, listed_line}
use Rattle.flow_program.specs.Rules.{are_texts, listed_rise}

-- ---- the texts of updates

pub other_lengths : {X Y : Type 0} (f : X → List ℕ) (g : Y → List ℕ) (xs : List X) (ys : List Y) → (length xs ≡ length ys → ⊥) →
    are_texts (map f xs) (map g ys) ≡ false
other_lengths f g [] [] apart = absurd (apart refl)
other_lengths f g [] (y ∷ ys) apart = refl
other_lengths f g (x ∷ xs) [] apart = refl
other_lengths f g (x ∷ xs) (y ∷ ys) apart =
    ap (λ b. bytes_eq (f x) (g y) && b) (other_lengths f g xs ys (λ e. apart (ap suc e))) ∙ and-false (bytes_eq (f x) (g y))

-- ---- updates of a window

last_rises : (text : List ℕ) (cells : List (List ℕ)) (us : List SpelledListed) (i : ℕ) → i + 1 ≡ length us →
    listed_rise text cells (map listed_line (drop i us)) ≡ true
last_rises text cells [] i last = absurd (omega (arith, last))
last_rises text cells (u ∷ []) zero last = refl
last_rises text cells (u ∷ v ∷ us) zero last = absurd (omega (arith, last))
last_rises text cells (u ∷ us) (suc i) last = last_rises text cells us i (omega (arith, last))

module _ (text : List ℕ) (cells : List (List ℕ)) (us : List SpelledListed) (i : ℕ) where
  pub rises_last : i + 1 ≡ length us →
      listed_rise text cells (map listed_line (drop i us)) ≡ listed_rise text cells (map listed_line (drop (i + 1) us))
  rises_last last =
      last_rises text cells us i last
      ∙ ap (λ vs. listed_rise text cells (map listed_line vs)) (sym (drop_all (i + 1) us (omega (arith, last))))

-- ---- names that are declared

pub texts_are : (text : List ℕ) (ds : List Name) → texts (map (declared_entry text) ds) ≡ map (name_bytes text) ds
texts_are text ds = map_map (λ (n : NameEntry). n.text) (declared_entry text) ds

pub declared_absent : (text : List ℕ) (ds : List Name) (i : ℕ) (d : Name) (bytes : List ℕ) (names : List NameEntry) →
    AreDistinct (map (declared_entry text) ds) → i < length ds → bytes ≡ name_bytes text (get_or ds i d) →
    names ≡ map (declared_entry text) (take i ds) → number_of names bytes ≡ None
declared_absent text ds i d bytes names distinct within is table =
    ap (λ ns. number_of ns bytes) (table ∙ sym (take-map (declared_entry text) i ds))
    ∙ absent_before (map (declared_entry text) ds) i bytes distinct
    (subst (λ found. IsSomeAnd found (λ name. bytes ≡ name.text)) (sym there) is)
  where
    there : slice_get (map (declared_entry text) ds) i ≡ Some (declared_entry text (get_or ds i d))
    there = slice_get-map (declared_entry text) ds i ∙ ap (option_map (declared_entry text)) (slice_get-get_or ds i d within)

-- names in two parts that are declared once are so in each part
pub parts_distinct : (text : List ℕ) (xs ys : List Name) → AreDistinct (map (declared_entry text) (xs ++ ys)) →
    AreDistinct (map (declared_entry text) xs) × AreDistinct (map (declared_entry text) ys)
parts_distinct text xs ys once =
    let a = map (declared_entry text) xs in
    let b = map (declared_entry text) ys in
    let both : AreDistinct (a ++ b) = subst AreDistinct (map-append (declared_entry text) xs ys) once in (
      λ i j m n at too. both i j m n (slice_get_grown a b i m at) (slice_get_grown a b j n too),
      λ i j m n at too same. let e = both (length a + i) (length a + j) m n (slice_get-append a b i _ refl ∙ at)
          (slice_get-append a b j _ refl ∙ too) same in omega (arith, e),
    )
