-- A program text over two lists of names: its windows that are congruent over the first are congruent over the second.
use Rattle.std.proofs.Common.{◌≡◌, ℕ, ◌+◌, List, length, map, ap, sym, ◌∙◌, subst, refl, arith, ◌⊎◌, inl, inr}
use Rattle.std.specs.Prelude.{Option, Some, None, option_map, option_and_then, slice_get}
use Rattle.std.specs.List.{AllByRecursion}
use Rattle.std.specs.Option.{option_map_or}
use Rattle.std.proofs.lemmas.Option.{slice_get_within}
use Rattle.base_library.proofs.Each.{each_map, each_unmapped, each_both}
use Rattle.base_library.proofs.Options.{one_value}
use Rattle.base_library.proofs.Places.{slice_get_mapped}
use Rattle.tsl_terms.specs.Name.{Name, number_of, texts, question, AreDistinct}
use Rattle.tsl_terms.specs.Equality.{equality_in}
use Rattle.tsl_terms.specs.Congruence.{IsCongruent}
use Rattle.program_listing.specs.declared.listing.Name.{Name as Place}
use Rattle.program_listing.specs.Listing.{SurfaceTermTree, bare, applied, SurfaceTermTrees, no_surfaces, more_surfaces, name_bytes}
use Rattle.program_listing.specs.Listing.{ListedLine, PlacedLine, WindowLine, left_step}
use Rattle.program_listing.proofs.OneListing.{one_listing}
use Rattle.program_tree.specs.ProgramTree.{ProgramTree}
use Rattle.program_tree.specs.Writable.{HasEqualities}
use Rattle.flow_program.specs.ProgramText.{ProgramText}
use Rattle.flow_program.specs.Reading.{IsReading}
use Rattle.flow_program.specs.internal.Numbering.{small, numbered, numbered_term, numbered_terms, numbered_test}
use Rattle.flow_program.specs.internal.Numbering.{numbered_listed, numbered_equated, numbered_left}
use Rattle.flow_program.specs.internal.Numbering.{numbered_window, Numbered}
use Rattle.flow_program.proofs.NumberLemmas.{place_at}
use Rattle.base_library.proofs.ValuesOfOptions.{Agree, agreed, itself_agrees, map_agrees, then_agrees, all_agree}
use Rattle.flow_program.proofs.WrittenIsRead.ListingOfProgram.{ListingOfProgram, listing_of_program}
use Rattle.flow_program.proofs.ReadingLaws.{is_listing_of, names_read_are_distinct}
use Rattle.flow_program.proofs.Renamed.{renamed, all_renamed, probe_renamed, listed_renamed, equated_renamed, window_renamed}
use Rattle.flow_program.proofs.Renamed.{congruent_renamed}

module _ (names more : List Name) where
  -- ---- the other numbers

  -- that of the same text, and a number behind them all where there is none
  abbrev stands_for : ℕ → ℕ
  stands_for s = option_map_or (λ n. n) (option_and_then (λ n. number_of more n.text) (slice_get names s)) (length (texts more) + s)

  number_agrees : (bytes : List ℕ) → Agree stands_for (number_of names bytes) (number_of more bytes)
  number_agrees bytes = by (number_of names bytes) (number_of more bytes) refl refl where
    by : (o p : Option ℕ) → number_of names bytes ≡ o → number_of more bytes ≡ p → Agree stands_for o p
    by None p is too = tt
    by (Some s) None is too = tt
    by (Some s) (Some k) is too =
        let found = slice_get_mapped (λ (n : Name). n.text) names s bytes (place_at (texts names) bytes s is) in
        sym (ap (λ o. option_map_or (λ n. n) (option_and_then (λ (n : Name). number_of more n.text) o) (length (texts more) + s)) found.1
        ∙ ap (λ o. option_map_or (λ n. n) o (length (texts more) + s)) (ap (number_of more) found.2 ∙ too))

  -- a number has a text among both, or becomes one behind them all
  abbrev HasText : ℕ → Type 0
  HasText s = (n : Name) × (slice_get names s ≡ Some n) × (slice_get (texts more) (stands_for s) ≡ Some n.text)

  has_text : (s : ℕ) → HasText s ⊎ (stands_for s ≡ length (texts more) + s)
  has_text s = by (slice_get names s) refl where
    at : (n : Name) → slice_get names s ≡ Some n → (k : Option ℕ) → number_of more n.text ≡ k →
        HasText s ⊎ (stands_for s ≡ length (texts more) + s)
    at n is None found = inr (rw (is, found) refl)
    at n is (Some k) found =
        let it : stands_for s ≡ k = rw (is, found) refl in
        inl (n, is, ap (slice_get (texts more)) it ∙ place_at (texts more) n.text k found)

    by : (o : Option Name) → slice_get names s ≡ o → HasText s ⊎ (stands_for s ≡ length (texts more) + s)
    by None is = inr (rw is refl)
    by (Some n) is = at n is (number_of more n.text) refl

  stands_apart : AreDistinct names → (s t : ℕ) → stands_for s ≡ stands_for t → s ≡ t
  stands_apart distinct s t same = by (has_text s) (has_text t) where
    by : HasText s ⊎ (stands_for s ≡ length (texts more) + s) → HasText t ⊎ (stands_for t ≡ length (texts more) + t) → s ≡ t
    by (inl a) (inl b) = distinct s t a.0 b.0 a.1 b.1 (one_value (slice_get (texts more) (stands_for t)) a.0.text b.0.text
        (ap (slice_get (texts more)) (sym same) ∙ a.2) b.2)
    by (inl a) (inr b) = absurd (omega (arith, same, b, slice_get_within (texts more) (stands_for s) a.0.text a.2))
    by (inr a) (inl b) = absurd (omega (arith, same, a, slice_get_within (texts more) (stands_for t) b.0.text b.2))
    by (inr a) (inr b) = omega (arith, same, a, b)

  module _ (text : List ℕ) where
    abbrev name_agrees : (at : Place) → Agree stands_for (numbered names text at) (numbered more text at)
    name_agrees at = number_agrees (name_bytes text at)

    mutual
      term_agrees : (p : SurfaceTermTree) → Agree (renamed stands_for) (numbered_term names text p) (numbered_term more text p)
      term_agrees (bare at) = map_agrees _ _ _ _ _ _ (λ s. refl) (name_agrees at)
      term_agrees (applied at ps) =
          let arguments = terms_agree ps in
          then_agrees _ _ _ _ _ _ (λ f. map_agrees _ _ _ _ _ _ (λ ts. refl) arguments) (name_agrees at)

      terms_agree : (ps : SurfaceTermTrees) → Agree (all_renamed stands_for) (numbered_terms names text ps) (numbered_terms more text ps)
      terms_agree no_surfaces = refl
      terms_agree (more_surfaces p ps) =
          let behind = terms_agree ps in
          then_agrees _ _ _ _ _ _ (λ t. map_agrees _ _ _ _ _ _ (λ ts. refl) behind) (term_agrees p)

    test_agrees : (p : SurfaceTermTree) → Agree (probe_renamed stands_for) (numbered_test names text p) (numbered_test more text p)
    test_agrees (bare at) =
        then_agrees _ _ _ _ _ _ (λ s. map_agrees _ _ _ _ _ _ (λ q. refl) (number_agrees question)) (name_agrees at)
    test_agrees (applied at ps) =
        then_agrees _ _ _ _ _ _ (λ f. map_agrees _ _ _ _ _ _ (λ ts. refl) (terms_agree ps)) (name_agrees at)

    listed_agrees : (u : ListedLine) → Agree (listed_renamed stands_for) (numbered_listed names text u) (numbered_listed more text u)
    listed_agrees u =
        then_agrees _ _ _ _ _ _ (λ s. then_agrees _ _ _ _ _ _ (λ t. map_agrees _ _ _ _ _ _ (λ n. refl) (itself_agrees (small u.offset)))
        (term_agrees u.term)) (name_agrees u.signal)

    equated_agrees : (e : PlacedLine) → Agree (equated_renamed stands_for) (numbered_equated names text e) (numbered_equated more text e)
    equated_agrees e =
        then_agrees _ _ _ _ _ _ (λ p. map_agrees _ _ _ _ _ _ (λ n. refl) (itself_agrees (small e.step))) (test_agrees e.test)

    left_agrees : (left : Option PlacedLine) →
        Agree (option_map (probe_renamed stands_for)) (numbered_left names text left) (numbered_left more text left)
    left_agrees None = refl
    left_agrees (Some t) = map_agrees _ _ _ _ _ _ (λ p. refl) (test_agrees t.test)

    window_agrees : (w : WindowLine) → Agree (window_renamed stands_for) (numbered_window names text w) (numbered_window more text w)
    window_agrees w =
        then_agrees _ _ _ _ _ _ (λ l. then_agrees _ _ _ _ _ _ (λ r. then_agrees _ _ _ _ _ _ (λ i. then_agrees _ _ _ _ _ _ (λ n.
        then_agrees _ _ _ _ _ _ (λ us. map_agrees _ _ _ _ _ _ (λ es. refl) (all_agree _ _ _ equated_agrees w.equalities))
        (all_agree _ _ _ listed_agrees w.updates)) (itself_agrees (small w.right.step))) (itself_agrees (small (left_step w.left))))
        (test_agrees w.right.test)) (left_agrees w.left)

-- whether the windows of a program text are congruent does not depend on the numbers of its names
pub congruent_over_others : (text : List ℕ) (names given more : List Name) (p q : ProgramTree) → AreDistinct names → AreDistinct given →
    ProgramText text names p → IsReading text given q more → AllByRecursion (IsCongruent p.cells (equality_in names)) p.windows →
    AllByRecursion (IsCongruent q.cells (equality_in more)) q.windows
congruent_over_others text names given more p q distinct given_distinct h k all =
    let r : ListingOfProgram text names p = listing_of_program text names distinct p h in
    let apart : AreDistinct more = names_read_are_distinct text given q more given_distinct k in
    let s : ListingOfProgram text more q = listing_of_program text more apart q k.spelled in
    let lines : r.listing ≡ s.listing =
    one_listing text r.listing s.listing (is_listing_of text names p r) (is_listing_of text more q s) in
    let numbers : Numbered names text s.listing p = subst (λ l. Numbered names text l p) lines r.numbers in
    let other = stands_for names more in
    let cells = agreed (map other) _ _ p.cells q.cells
    (all_agree other (numbered names text) (numbered more text) (name_agrees names more text) s.listing.cells) numbers.cells s.numbers.cells in
    let windows = agreed (map (window_renamed other)) _ _ p.windows q.windows
    (all_agree (window_renamed other) (numbered_window names text) (numbered_window more text) (window_agrees names more text)
    s.listing.windows) numbers.windows s.numbers.windows in
    let equal = each_unmapped (HasEqualities more) (window_renamed other) p.windows
    (subst (AllByRecursion (HasEqualities more)) windows k.spelled.is_writable.equalities) in
    rw (cells, windows) (each_map (IsCongruent (map other p.cells) (equality_in more)) (window_renamed other) p.windows (each_both
    (λ w. HasEqualities more (window_renamed other w)) (IsCongruent p.cells (equality_in names)) (λ w. IsCongruent (map other p.cells)
    (equality_in more) (window_renamed other w)) (congruent_renamed other (stands_apart names more distinct) p.cells (equality_in names)
    (equality_in more)) p.windows equal all))
