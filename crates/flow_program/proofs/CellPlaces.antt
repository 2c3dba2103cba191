-- The place of a cell among the texts of the cells is its place among their numbers, so listed updates break the same rules in lines and
-- with numbers.
use Rattle.std.proofs.Common.{◌≡◌, ℕ, zero, suc, ◌<◌, ◌==◌, true, ◌&&◌, ◌||◌, cond, List, [], ◌∷◌, ◌++◌, refl, ap}
use Rattle.std.proofs.Common.{sym, ◌∙◌, arith, length, map, get_or, inl, inr}
use Rattle.std.specs.Prelude.{Option, Some, None, option_map, nat_lt, slice_get, bytes_eq}
use Rattle.std.specs.List.{list_all, position_or_len}
use Rattle.std.specs.Option.{is_some}
use Rattle.std.proofs.lemmas.Bool.Decides.{nat_tests}
use Rattle.std.proofs.lemmas.Grind.{common_steps}
use Rattle.std.proofs.lemmas.Bool.{or_cases, and_parts, ltb-true, lt-ltb, eqb-true}
use Rattle.std.proofs.lemmas.Option.{slice_get-map, slice_get_within, get_or_from_slice_get}
use Rattle.std.proofs.lemmas.List.Sums.{fails_before_first}
use Rattle.base_library.proofs.Booleans.{same_tests}
use Rattle.base_library.proofs.Bytes.{bytes_same}
use Rattle.base_library.proofs.Numbers.{among_at, among_place, distinct_front, distinct_behind}
use Rattle.base_library.proofs.Options.{some_is}
use Rattle.base_library.proofs.Places.{slice_get_mapped}
use Rattle.base_library.specs.Numbers.{is_among, IsDistinct}
use Rattle.base_library.specs.Options.{all_there}
use Rattle.tsl_terms.specs.Name.{number_of, Name as NameEntry}
use Rattle.tsl_terms.specs.WindowTree.{ListedTree}
use Rattle.term_text.specs.TermText.{name_text}
use Rattle.program_listing.specs.declared.listing.Name.{Name}
use Rattle.program_tree.specs.Fits.{rises, stands_before as stands_among}
use Rattle.program_listing.specs.Listing.{name_bytes, ListedLine}
use Rattle.flow_program.specs.Rules.{places_rise, place_in, place_of_cell, listed_rise, is_cell_within}
use Rattle.flow_program.specs.internal.Numbering.{small, numbered, numbered_term, numbered_listed}
use Rattle.flow_program.proofs.NumberLemmas.{place_at, there_at, small_same, number_text, numbered_texts}
use Rattle.base_library.proofs.ValuesOfOptions.{held, map_holds, then_holds}
use Rattle.base_library.proofs.PairedLists.{Paired, none, next, paired_there, all_alike}

-- ---- places of texts

pub placed_some : (ts : List (List ℕ)) (i : ℕ) (t : List ℕ) → slice_get ts i ≡ Some t → (k : ℕ) × (place_in ts t ≡ Some k)
placed_some ts i t is =
    let within = slice_get_within ts i t is in
    let same : bytes_eq t (get_or ts i t) ≡ true = bytes_same t (get_or ts i t) (sym (get_or_from_slice_get ts i t t is)) in
    let before : position_or_len (bytes_eq t) ts < length ts = grind (arith, fails_before_first (bytes_eq t) ts i t) in
    (position_or_len (bytes_eq t) ts, ap (λ b. cond b (Some (position_or_len (bytes_eq t) ts)) None) (lt-ltb _ _ before))

-- one place stands before the other
record InOrder (cs : List ℕ) (r s : ℕ) : Type 0 where
  pub first : ℕ
  pub second : ℕ
  pub less : first < second
  pub at_first : slice_get cs first ≡ Some r
  pub at_second : slice_get cs second ≡ Some s

in_order : (cs : List ℕ) (r s : ℕ) → stands_among cs r s ≡ true → InOrder cs r s
in_order [] r s h = absurd (cc)
in_order (c ∷ cs) r s h = elim (or_cases ((c == r) && is_among cs s) (stands_among cs r s) h) [
  | inl here ↦ (let parts = and_parts (c == r) (is_among cs s) here in
      let place = among_place cs s parts.1 in
      record { first = 0; second = suc place.0; less = omega arith; at_first = ap Some (eqb-true c r parts.0); at_second = place.1 })
  | inr later ↦ (let o : InOrder cs r s = in_order cs r s later in
      record { first = suc o.first; second = suc o.second; less = omega (arith, o.less); at_first = o.at_first; at_second = o.at_second })
]

among_later : (cs : List ℕ) (i j r s : ℕ) → i < j → slice_get cs i ≡ Some r → slice_get cs j ≡ Some s → stands_among cs r s ≡ true
among_later [] i j r s less at too = absurd (cc)
among_later (c ∷ cs) zero zero r s less at too = absurd (omega (arith, less))
among_later (c ∷ cs) zero (suc j) r s less at too = grind (arith, common_steps, nat_tests, among_at cs j s)
among_later (c ∷ cs) (suc i) zero r s less at too = absurd (omega (arith, less))
among_later (c ∷ cs) (suc i) (suc j) r s less at too = grind (arith, common_steps, nat_tests, among_later cs i j r s)

-- the second of three lists without a repeat has none
pub second_once : (a b c : List ℕ) → IsDistinct ((a ++ b) ++ c) → IsDistinct b
second_once a b c once = distinct_behind a b (distinct_front (a ++ b) c once)

rising : (a b : Option ℕ) → places_rise a b ≡ true → (i : ℕ) × (j : ℕ) × (i < j) × (a ≡ Some i) × (b ≡ Some j)
rising None b h = absurd (cc)
rising (Some i) None h = absurd (cc)
rising (Some i) (Some j) h = (i, j, ltb-true i j h, refl, refl)

module _ (names : List NameEntry) (text : List ℕ) where
  -- what is known of listed updates: their numbers and their steps
  abbrev IsListed : ListedLine → ListedTree → Type 0
  IsListed u x = (numbered names text u.signal ≡ Some x.signal) × (u.offset ≡ x.offset)

  abbrev pub AreListed : List ListedLine → List ListedTree → Type 0
  AreListed = Paired IsListed

  pub are_listed : (us : List ListedLine) (xs : List ListedTree) → all_there (map (numbered_listed names text) us) ≡ Some xs →
      AreListed us xs
  are_listed =
      paired_there IsListed (numbered_listed names text) (λ u x is. held (IsListed u) _ x
      (then_holds _ _ (numbered names text u.signal) (λ s s_is. then_holds _ _ (numbered_term names text u.term) (λ t t_is.
      map_holds _ _ (small u.offset) (λ n n_is. (s_is, small_same u.offset n n_is))))) is)

  module _ (cell_names : List Name) (cells : List ℕ) (are : all_there (map (numbered names text) cell_names) ≡ Some cells) where
    abbrev texts_of_cells : List (List ℕ)
    texts_of_cells = map (name_bytes text) cell_names

    -- a place among the texts is that of the number
    pub place_of_number : (bytes : List ℕ) (s i : ℕ) → number_of names bytes ≡ Some s → place_in texts_of_cells bytes ≡ Some i →
        slice_get cells i ≡ Some s
    place_of_number bytes s i is placed =
        let at = slice_get_mapped (name_bytes text) cell_names i bytes (place_at texts_of_cells bytes i placed) in
        let found = there_at (numbered names text) cell_names cells i at.0 are at.1 in
        found.1 ∙ (sym found.2 ∙ ap (number_of names) at.2 ∙ is)

    module _ (once : IsDistinct cells) where
      -- and the other way round
      cell_place : (bytes : List ℕ) (s i : ℕ) → number_of names bytes ≡ Some s → slice_get cells i ≡ Some s →
          place_in texts_of_cells bytes ≡ Some i
      cell_place bytes s i is at =
          let there : slice_get texts_of_cells i ≡ Some bytes =
          ap (λ ts. slice_get ts i) (numbered_texts names text cell_names cells are) ∙ slice_get-map (name_text names) cells i
          ∙ ap (option_map (name_text names)) at ∙ ap Some (sym (number_text names text bytes s is)) in
          let found = placed_some texts_of_cells i bytes there in
          found.1 ∙ ap Some (once found.0 i s (place_of_number bytes s found.0 is found.1) at)

      is_cell : (u : ListedLine) (s : ℕ) → numbered names text u.signal ≡ Some s →
          is_some (place_of_cell text texts_of_cells u) ≡ is_among cells s
      is_cell u s is =
          same_tests (is_some (place_of_cell text texts_of_cells u)) (is_among cells s)
          (λ h. let found = some_is (place_of_cell text texts_of_cells u) h in
          among_at cells found.0 s (place_of_number (name_bytes text u.signal) s found.0 is found.1))
          (λ h. let place = among_place cells s h in ap is_some (cell_place (name_bytes text u.signal) s place.0 is place.1))

      rise : (u v : ListedLine) (r s : ℕ) → numbered names text u.signal ≡ Some r → numbered names text v.signal ≡ Some s →
          places_rise (place_of_cell text texts_of_cells u) (place_of_cell text texts_of_cells v) ≡ stands_among cells r s
      rise u v r s is too =
          same_tests (places_rise (place_of_cell text texts_of_cells u) (place_of_cell text texts_of_cells v)) (stands_among cells r s)
          (λ h. let places = rising (place_of_cell text texts_of_cells u) (place_of_cell text texts_of_cells v) h in
          among_later cells places.0 places.1 r s places.2 (place_of_number (name_bytes text u.signal) r places.0 is places.3)
          (place_of_number (name_bytes text v.signal) s places.1 too places.4))
          (λ h. let o : InOrder cells r s = in_order cells r s h in
          (λ i. places_rise (cell_place (name_bytes text u.signal) r o.first is o.at_first i)
          (cell_place (name_bytes text v.signal) s o.second too o.at_second i)) ∙ lt-ltb o.first o.second o.less)

      pub within_alike : (n : ℕ) (us : List ListedLine) (xs : List ListedTree) → AreListed us xs →
          list_all (is_cell_within text texts_of_cells n) us ≡ list_all (λ x. nat_lt x.offset n && is_among cells x.signal) xs
      within_alike n us xs are_they =
          all_alike (is_cell_within text texts_of_cells n) (λ x. nat_lt x.offset n && is_among cells x.signal)
          (λ u x a. λ i. nat_lt (a.1 i) n && is_cell u x.signal a.0 i) are_they

      all_rise : {us : List ListedLine} {xs : List ListedTree} → AreListed us xs → listed_rise text texts_of_cells us ≡ rises cells xs
      all_rise none = refl
      all_rise (next a none) = refl
      all_rise (next {x = u} {y = x} a (next {x = v} {y = y} b rest)) =
          let others = all_rise (next {x = v} {y = y} b rest) in
          λ i. (nat_lt (a.1 i) (b.1 i) || ((a.1 i == b.1 i) && rise u v x.signal y.signal a.0 b.0 i)) && others i

      pub rise_alike : (us : List ListedLine) (xs : List ListedTree) → AreListed us xs →
          listed_rise text texts_of_cells us ≡ rises cells xs
      rise_alike us xs are_they = all_rise are_they
