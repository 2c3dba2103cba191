-- The lines of a text that breaks no rule have their numbers, and are written as before.
use Rattle.std.proofs.Common.{◌≡◌, ℕ, ◌^◌, ◌<◌, ◌≤◌, ◌==◌, Bool, true, false, not, ◌&&◌, List, [], ◌∷◌, ◌++◌, refl, ap, sym, ◌∙◌, arith}
use Rattle.std.proofs.Common.{map, codes, decimal, eq-eqb, rules}
use Rattle.std.specs.Prelude.{Option, Some, None, option_map, nat_le, flat_map}
use Rattle.std.specs.List.{list_all, AllByRecursion}
use Rattle.std.proofs.lemmas.Bool.{and_from, and_parts, leb-true, ltb-true, not-false}
use Rattle.std.proofs.lemmas.List.Folds.{flat_map-map}
use Rattle.std.proofs.lemmas.Option.{slice_get-map}
use Rattle.base_library.proofs.Each.{each_at, each_left, each_right, each_joined, each_weaker, each_map}
use Rattle.base_library.proofs.Passes.{list_all_joined, list_all_from_each}
use Rattle.base_library.proofs.Places.{slice_get_mapped}
use Rattle.base_library.specs.Numbers.{IsDistinct}
use Rattle.base_library.specs.Options.{all_there}
use Rattle.tsl_terms.specs.Name.{AreDistinct, Name as NameEntry}
use Rattle.tsl_terms.specs.TermTree.{ProbeTree, count_of_terms}
use Rattle.tsl_terms.specs.WindowTree.{WindowTree, ListedTree, EquatedTree, left_probes, right_alone, window_probes, equality_probes}
use Rattle.tsl_terms.specs.Equality.{equality_in}
use Rattle.tsl_terms.specs.Congruence.{IsEquality}
use Rattle.tsl_terms.specs.OnlyThese.{reads_only, read_only}
use Rattle.term_text.specs.TermText.{name_text, term_text, probe_text, update_text}
use Rattle.term_text.specs.WindowText.{left_text, listed_text, equated_text, window_text}
use Rattle.program_listing.specs.declared.listing.Name.{Name}
use Rattle.program_tree.specs.Fits.{longest, left_is_shaped, window_fits}
use Rattle.program_tree.specs.Writable.{signal_fits, probe_is_writable, listed_is_writable, window_is_writable, HasEqualities}
use Rattle.program_listing.specs.Listing.{name_bytes, declared_entry, ListedLine, PlacedLine, WindowLine, left_step}
use Rattle.program_listing.specs.internal.NamesStand.{listed_line_stands, placed_line_stands, left_line_stands, window_line_stands}
use Rattle.program_listing.specs.LineText.{word, named, LineTree, window, listed_pieces, placed_pieces, equated_pieces, left_pieces}
use Rattle.program_listing.specs.LineText.{line_pieces, ended_pieces}
use Rattle.program_listing.proofs.ListingFacts.{pieces_text}
use Rattle.flow_program.specs.ProgramText.{declarations}
use Rattle.flow_program.specs.Uses.{ProgramUse, listed_uses, placed_uses, left_uses, window_uses}
use Rattle.flow_program.specs.Rules.{is_cell_within, is_equality_test, is_equality_within, listed_rise, are_in_order, right_fits, breaks_window}
use Rattle.flow_program.specs.internal.Numbering.{numbered, numbered_listed, numbered_equated, numbered_left}
use Rattle.flow_program.specs.internal.Numbering.{numbered_window, listed_of, equated_of, window_of}
use Rattle.flow_program.proofs.NumberLemmas.{listed_numbered, equated_numbered, window_numbered, small_is}
pub use Rattle.flow_program.proofs.NumberLemmas.{place_at}
use Rattle.base_library.proofs.MadeLists.{all_made, each_made, all_pass}
use Rattle.flow_program.proofs.EachLine.{each_good, all_spelled}
use Rattle.flow_program.proofs.EquatedLines.{equality_of_test, are_equated, in_order_alike, tests_within, offsets_within}
use Rattle.flow_program.proofs.CellPlaces.{are_listed, within_alike, rise_alike}
use Rattle.flow_program.proofs.SpelledLines.{pieces_append, update_spelled, listed_spelled, placed_spelled, equated_spelled}
use Rattle.flow_program.proofs.SpelledLines.{window_spelled, declaration_spelled}
use Rattle.flow_program.proofs.ResolvedTerms.{HasNumber, IsUsed, number_at, term_of, test_of, good_term, term_writable, GoodTest, good_test}
use Rattle.flow_program.proofs.ResolvedTerms.{test_writable}

-- what a window's line keeps, part by part
window_parts : (a b c d e f g : Bool) → not (((a && b) && (c && d)) && (e && (f && g))) ≡ false →
    (a ≡ true) × (b ≡ true) × (c ≡ true) × (d ≡ true) × (e ≡ true) × (f ≡ true) × (g ≡ true)
window_parts a b c d e f g h =
    let whole : (((a && b) && (c && d)) && (e && (f && g))) ≡ true = not-false _ h in
    search rules

module _ (names : List NameEntry) (text : List ℕ) where
  -- ---- declarations

  abbrev pub numbers_at : List Name → List ℕ
  numbers_at = map (number_at names text)

  -- a name that is declared has a number
  abbrev pub IsDeclared : Name → Type 0
  IsDeclared at = HasNumber names (declared_entry text at) × (signal_fits names (number_at names text at) ≡ true)

  pub numbers_spelled : (ds : List Name) → AllByRecursion IsDeclared ds → map (name_text names) (numbers_at ds) ≡ map (name_bytes text) ds
  numbers_spelled [] all = refl
  numbers_spelled (at ∷ ds) all = λ i. all.0.0.spelled i ∷ numbers_spelled ds all.1 i

  pub all_numbered : (ds : List Name) → AllByRecursion IsDeclared ds → all_there (map (numbered names text) ds) ≡ Some (numbers_at ds)
  all_numbered = all_made IsDeclared (number_at names text) (numbered names text) (λ at is. is.0.number)

  pub numbers_fit : (ds : List Name) → AllByRecursion IsDeclared ds → list_all (signal_fits names) (numbers_at ds) ≡ true
  numbers_fit = all_pass IsDeclared (number_at names text) (signal_fits names) (λ at is. is.1)

  pub declared_text : (w : List ℕ) (make : Name → LineTree) → ((n : Name) → line_pieces (make n) ≡ word w ∷ named n ∷ []) →
      (ds : List Name) → AllByRecursion IsDeclared ds →
      pieces_text text (flat_map ended_pieces (map make ds)) ≡ declarations w names (numbers_at ds)
  declared_text w make form ds all =
      ap (pieces_text text) (flat_map-map ended_pieces make ds)
      ∙ all_spelled IsDeclared (number_at names text) text (λ at. ended_pieces (make at)) (λ id. w ++ name_text names id ++ codes "\n")
      (λ at is. declaration_spelled text w make form at (name_text names (number_at names text at)) (sym is.0.spelled)) ds all

  pub distinct_numbers : (ds : List Name) → AllByRecursion IsDeclared ds → AreDistinct (map (declared_entry text) ds) →
      IsDistinct (numbers_at ds)
  distinct_numbers ds all distinct i j n is too =
      let a = slice_get_mapped (number_at names text) ds i n is in
      let b = slice_get_mapped (number_at names text) ds j n too in
      distinct i j (declared_entry text a.0) (declared_entry text b.0)
      (slice_get-map (declared_entry text) ds i ∙ ap (option_map (declared_entry text)) a.1)
      (slice_get-map (declared_entry text) ds j ∙ ap (option_map (declared_entry text)) b.1)
      (sym (each_at IsDeclared ds i a.0 all a.1).0.spelled ∙ ap (name_text names) (a.2 ∙ sym b.2)
      ∙ (each_at IsDeclared ds j b.0 all b.1).0.spelled)

  -- ---- what windows list, with numbers

  abbrev listed_with : ListedLine → ListedTree
  listed_with u = listed_of (number_at names text u.signal) (term_of names text u.term) u.offset

  abbrev equated_with : PlacedLine → EquatedTree
  equated_with e = equated_of (test_of names text e.test) e.step

  abbrev left_with : Option PlacedLine → Option ProbeTree
  left_with = option_map (λ t. test_of names text t.test)

  abbrev pub window_with : WindowLine → WindowTree
  window_with w =
      window_of (left_with w.left) (test_of names text w.right.test) (left_step w.left) w.right.step (map listed_with w.updates)
      (map equated_with w.equalities)

module _ (names : List NameEntry) (readable : List ℕ) (text : List ℕ) where
  abbrev Used : List ProgramUse → Type 0
  Used = AllByRecursion (IsUsed names readable text)

  record GoodListed (u : ListedLine) : Type 0 where
    numbered : numbered_listed names text u ≡ Some (listed_with names text u)
    writable : listed_is_writable names (listed_with names text u) ≡ true
    spelled : pieces_text text (listed_pieces u) ≡ listed_text names (listed_with names text u)
    reads : reads_only readable (listed_with names text u).term ≡ true

  record GoodPlaced (t : PlacedLine) : Type 0 where
    test : GoodTest names readable text t.test
    numbered : numbered_equated names text t ≡ Some (equated_with names text t)
    writable : probe_is_writable names (equated_with names text t).probe ≡ true
    spelled : pieces_text text (placed_pieces t) ≡ probe_text names (equated_with names text t).probe ++ codes " at " ++ decimal t.step
    reads : read_only readable (equated_with names text t).probe.arguments ≡ true
    equal : is_equality_test text t.test ≡ true → IsEquality (equality_in names) (equated_with names text t).probe

  -- the left test, where there is one
  record GoodLeft (left : Option PlacedLine) : Type 0 where
    numbered : numbered_left names text left ≡ Some (left_with names text left)
    writable : list_all (probe_is_writable names) (left_probes (left_with names text left)) ≡ true
    spelled : pieces_text text (left_pieces left) ≡ left_text names (left_with names text left) (left_step left) ++ codes " is "
    reads : list_all (λ p. read_only readable p.arguments) (left_probes (left_with names text left)) ≡ true
    shaped : left_is_shaped (left_with names text left) (left_step left) ≡ true
    alone : (right : PlacedLine) → GoodPlaced right → right_fits text left right ≡ true →
        AllByRecursion (IsEquality (equality_in names)) (right_alone (left_with names text left) (equated_with names text right).probe)

  pub record GoodWindow (cells : List Name) (w : WindowLine) : Type 0 where
    pub numbered : numbered_window names text w ≡ Some (window_with names text w)
    pub writable : window_is_writable names (window_with names text w) ≡ true
    pub spelled : pieces_text text (ended_pieces (window w)) ≡ window_text names (window_with names text w)
    pub fits : window_fits readable (numbers_at names text cells) (window_with names text w) ≡ true
    pub equal : HasEqualities names (window_with names text w)

  module _ (distinct : AreDistinct names) (cells : List Name) (are : AllByRecursion (IsDeclared names text) cells) (once : IsDistinct (numbers_at names text cells))
      (line : ℕ) where
    abbrev texts_of_cells : List (List ℕ)
    texts_of_cells = map (name_bytes text) cells

    good_listed : (n : ℕ) → n ≤ 2 ^ 32 → (u : ListedLine) → Used (listed_uses text line u) → listed_line_stands text u ≡ true →
        is_cell_within text texts_of_cells n u ≡ true → GoodListed u
    good_listed n short u k stands within =
        let g = good_term names readable text line u.term k.1 in
        let below : u.offset < n = ltb-true u.offset n (and_parts _ _ within).0 in
        record {
          numbered = listed_numbered names text u _ _ k.0.name.number g.numbered (small_is u.offset (omega (arith, below, short)));
          writable = and_from _ _ k.0.fits (term_writable names readable text line u.term g (and_parts _ _ stands).1);
          spelled = listed_spelled text u (update_text names (listed_with names text u).signal (listed_with names text u).term)
              (update_spelled text u.signal u.term (name_text names (listed_with names text u).signal) (term_text names (listed_with names text u).term)
              (sym k.0.name.spelled) g.spelled);
          reads = g.reads;
        }

    good_placed : (t : PlacedLine) → Used (placed_uses text line t) → placed_line_stands text t ≡ true → t.step < 2 ^ 32 → GoodPlaced t
    good_placed t k stands short =
        let g = good_test names readable text line t.test k in
        record {
          test = g;
          numbered = equated_numbered names text t _ g.numbered (small_is t.step short);
          writable = test_writable names readable text line t.test g stands;
          spelled = placed_spelled text t (probe_text names (equated_with names text t).probe) g.spelled;
          reads = g.reads;
          equal = equality_of_test names text distinct t.test (equated_with names text t).probe g.numbered g.fits;
        }

    good_left : (left : Option PlacedLine) → Used (left_uses text line left) → left_line_stands text left ≡ true →
        left_step left < 2 ^ 32 → GoodLeft left
    good_left None k stands short =
        record { numbered = refl; writable = refl; spelled = refl; reads = refl; shaped = refl; alone = λ right g is. (g.equal is, tt) }
    good_left (Some t) k stands short =
        let g : GoodPlaced t = good_placed t k stands short in
        record {
          numbered = ap (option_map Some) g.test.numbered;
          writable = and_from _ _ g.writable refl;
          spelled = pieces_append text (placed_pieces t) (word (codes " is ") ∷ []) ∙ ap (λ zs. zs ++ codes " is ") g.spelled;
          reads = and_from _ _ g.reads refl;
          shaped = refl;
          alone = λ right g is. tt;
        }

    -- an equality that a window lists
    abbrev GoodEquality : PlacedLine → Type 0
    GoodEquality e = GoodPlaced e × IsEquality (equality_in names) (equated_with names text e).probe

    good_equality : (n : ℕ) → n < 2 ^ 32 → (e : PlacedLine) → Used (placed_uses text line e) → placed_line_stands text e ≡ true →
        is_equality_within text n e ≡ true → GoodEquality e
    good_equality n short e k stands within =
        let parts = and_parts (nat_le e.step n) _ within in
        let below : e.step ≤ n = leb-true e.step n parts.0 in
        let g : GoodPlaced e = good_placed e k stands (omega (arith, below, short)) in
        (g, g.equal parts.1)

    each_probe : (P : ProbeTree → Type 0) → ((e : PlacedLine) → GoodEquality e → P (equated_with names text e).probe) → (es : List PlacedLine) →
        AllByRecursion GoodEquality es → AllByRecursion P (map (λ x. x.probe) (map (equated_with names text) es))
    each_probe P is es all =
        each_map P (λ x. x.probe) (map (equated_with names text) es) (each_made GoodEquality (equated_with names text) (λ x. P x.probe) is es all)

    -- ---- a window

    pub good_window : (w : WindowLine) → Used (window_uses text line w) → window_line_stands text w ≡ true →
        breaks_window text texts_of_cells 0 w ≡ false → GoodWindow cells w
    good_window w k stands keeps =
        let U = IsUsed names readable text in
        let left = left_uses text line w.left in
        let right = placed_uses text line w.right in
        let listed = flat_map (listed_uses text line) w.updates in
        let equated = flat_map (placed_uses text line) w.equalities in
        let known = each_left U ((left ++ right) ++ listed) equated k in
        let known_tests = each_left U (left ++ right) listed known in
        let stand = and_parts (left_line_stands text w.left && placed_line_stands text w.right) _ stands in
        let tests = and_parts (left_line_stands text w.left) (placed_line_stands text w.right) stand.0 in
        let lists = and_parts (list_all (listed_line_stands text) w.updates) _ stand.1 in
        let kept = window_parts (nat_le w.right.step longest) (nat_le (left_step w.left) w.right.step)
        (list_all (is_cell_within text texts_of_cells w.right.step) w.updates) (listed_rise text texts_of_cells w.updates)
        (right_fits text w.left w.right) (list_all (is_equality_within text w.right.step) w.equalities) (are_in_order text w.equalities)
        keeps in
        let short : w.right.step ≤ longest = leb-true w.right.step longest kept.0 in
        let left_short : left_step w.left ≤ w.right.step = leb-true (left_step w.left) w.right.step kept.1 in
        let l : GoodLeft w.left = good_left w.left (each_left U left right known_tests) tests.0 (omega (arith, short, left_short)) in
        let r : GoodPlaced w.right = good_placed w.right (each_right U left right known_tests) tests.1 (omega (arith, short)) in
        let us : AllByRecursion GoodListed w.updates =
        each_good U (listed_uses text line) (listed_line_stands text) (is_cell_within text texts_of_cells w.right.step) GoodListed
        (good_listed w.right.step (omega (arith, short))) w.updates (each_right U (left ++ right) listed known) lists.0 kept.2 in
        let es : AllByRecursion GoodEquality w.equalities =
        each_good U (placed_uses text line) (placed_line_stands text) (is_equality_within text w.right.step) GoodEquality
        (good_equality w.right.step (omega (arith, short))) w.equalities (each_right U ((left ++ right) ++ listed) equated k) lists.1
        kept.5 in
        let updates_are : all_there (map (numbered_listed names text) w.updates) ≡ Some (map (listed_with names text) w.updates) =
        all_made GoodListed (listed_with names text) (numbered_listed names text) (λ u g. g.numbered) w.updates us in
        let equalities_are : all_there (map (numbered_equated names text) w.equalities) ≡ Some (map (equated_with names text) w.equalities) =
        all_made GoodEquality (equated_with names text) (numbered_equated names text) (λ e g. g.0.numbered) w.equalities es in
        let listed_are = are_listed names text w.updates (map (listed_with names text) w.updates) updates_are in
        let equal_are = are_equated names text w.equalities (map (equated_with names text) w.equalities) equalities_are in
        let cells_are = all_numbered names text cells are in
        let probes = map (λ (x : EquatedTree). x.probe) (map (equated_with names text) w.equalities) in
        let p = test_of names text w.right.test in
        let equalities : HasEqualities names (window_with names text w) =
        each_joined (IsEquality (equality_in names)) probes (right_alone (left_with names text w.left) p)
        (each_probe (IsEquality (equality_in names)) (λ e g. g.1) w.equalities es) (l.alone w.right r kept.4) in
        let all_probes : (q : ProbeTree → Bool) → ((e : PlacedLine) → GoodPlaced e → q (equated_with names text e).probe ≡ true) →
        list_all q (left_probes (left_with names text w.left)) ≡ true → list_all q (window_probes (window_with names text w)) ≡ true =
        λ q is left_is. list_all_joined q probes (left_probes (left_with names text w.left) ++ p ∷ [])
        (list_all_from_each q probes (each_probe (λ x. q x ≡ true) (λ e g. is e g.0) w.equalities es))
        (list_all_joined q (left_probes (left_with names text w.left)) (p ∷ []) left_is (and_from _ _ (is w.right r) refl)) in
        record {
          numbered = window_numbered names text w _ _ _ _ l.numbered r.test.numbered
              (small_is (left_step w.left) (omega (arith, short, left_short)))
              (small_is w.right.step (omega (arith, short))) updates_are equalities_are;
          writable = and_from _ _ (all_probes (probe_is_writable names) (λ e g. g.writable) l.writable)
              (all_pass GoodListed (listed_with names text) (listed_is_writable names) (λ u g. g.writable) w.updates us);
          spelled = window_spelled text w _ _ _ _ l.spelled r.spelled
              (all_spelled GoodListed (listed_with names text) text listed_pieces (listed_text names) (λ u g. g.spelled) w.updates us)
              (all_spelled GoodEquality (equated_with names text) text equated_pieces (equated_text names) (λ e g. equated_spelled text e
              (probe_text names (equated_with names text e).probe) (decimal e.step) g.0.spelled) w.equalities es);
          fits = and_from _ _ (and_from _ _
              (and_from _ _ (and_from _ _ kept.0 kept.1) (and_from _ _
              (sym (within_alike names text cells (numbers_at names text cells) cells_are once w.right.step w.updates _ listed_are) ∙ kept.2)
              (sym (rise_alike names text cells (numbers_at names text cells) cells_are once w.updates _ listed_are) ∙ kept.3)))
              (and_from _ _ l.shaped (and_from _ _ (and_from _ _
              (offsets_within names text w.right.step w.equalities _ equal_are kept.5)
              (sym (in_order_alike names text w.equalities _ equal_are (tests_within names text w.right.step w.equalities kept.5))
              ∙ kept.6))
              (list_all_from_each _ _ (each_weaker (IsEquality (equality_in names)) (λ x. (count_of_terms x.arguments == 2) ≡ true)
              (λ x e. eq-eqb (count_of_terms x.arguments) 2 e.two) (equality_probes (window_with names text w)) equalities)))))
              (and_from _ _ (all_probes (λ x. read_only readable x.arguments) (λ e g. g.reads) l.reads)
              (all_pass GoodListed (listed_with names text) (λ u. reads_only readable u.term) (λ u g. g.reads) w.updates us));
          equal = equalities;
        }
