-- The lines of a program stand in the text that spells it.
use Rattle.std.proofs.Common.{◌≡◌, ℕ, suc, ◌+◌, ◌<◌, ◌≤◌, true, false, not, ◌&&◌, List, [], ◌∷◌, ◌++◌, refl, ap, sym}
use Rattle.std.proofs.Common.{◌∙◌}
use Rattle.std.proofs.Common.{arith, rules, Bool, cond, length, map, flat_map}
use Rattle.std.proofs.Common.{append_assoc}
use Rattle.std.specs.Prelude.{Option, Some, None, option_map, nat_le, nat_lt, codes, decimal, slice_get, bytes_eq, IsTrue}
use Rattle.std.specs.List.{list_all, AllByRecursion}
use Rattle.std.proofs.lemmas.Bool.{and_from, and_parts, not-true, lt-ltb, ltb-true, leb-true, eqb-true}
use Rattle.std.proofs.lemmas.List.Folds.{list_all-map}
use Rattle.base_library.proofs.Bytes.{bytes_same}
use Rattle.base_library.proofs.Each.{each_joined, each_both, each_weaker}
use Rattle.base_library.proofs.Gathered.{all_there_next}
use Rattle.base_library.specs.Options.{all_there}
use Rattle.tsl_terms.specs.declared.names.NameKind.TheVariants.{Signal}
use Rattle.tsl_terms.specs.Name.{is_name, AreDistinct, Name as NameEntry}
use Rattle.tsl_terms.specs.TermTree.{TermTree, ProbeTree}
use Rattle.base_library.proofs.Passes.{list_all_parts, each_from_list_all}
use Rattle.base_library.specs.Numbers.{is_among}
use Rattle.tsl_terms.specs.WindowTree.{WindowTree, ListedTree, EquatedTree, left_probes, window_probes}
use Rattle.tsl_terms.specs.WellFormed.{is_usable_at, term_fits, brackets, deepest}
use Rattle.tsl_terms.specs.OnlyThese.{reads_only, read_only}
use Rattle.term_text.specs.TermText.{name_text, probe_text, update_text}
use Rattle.term_text.specs.WindowText.{left_text, listed_text, equated_text, window_text}
use Rattle.program_listing.specs.declared.listing.Name.{Name}
use Rattle.program_tree.specs.NodeTree.{NodeTree, branch, assign}
use Rattle.program_tree.specs.Fits.{left_is_shaped, longest, rises, window_fits}
use Rattle.program_tree.specs.Fits.{are_in_order as stand_in_order}
use Rattle.program_tree.specs.Writable.{signal_fits, term_is_writable}
use Rattle.flow_program.specs.ProgramText.{declarations, updates_text, node_text, nodes_text, states_text}
use Rattle.program_tree.specs.Writable.{probe_is_writable, listed_is_writable, window_is_writable, node_is_writable}
use Rattle.program_listing.specs.LineText.{word, named, LineTree, window as window_tree_line, node as node_tree_line}
use Rattle.program_listing.specs.LineText.{update_pieces, set_pieces, listed_pieces, placed_pieces, equated_pieces, left_pieces}
use Rattle.program_listing.specs.LineText.{ended_pieces, is_short, is_shallow, listed_is_within, placed_is_within}
use Rattle.program_listing.specs.LineText.{left_is_within, line_is_within, node_lines, state_lines}
use Rattle.program_listing.specs.Listing.{SurfaceTermTree, name_bytes, UpdateLine, ListedLine, PlacedLine, WindowLine, NodeLine}
use Rattle.program_listing.specs.Listing.{branch_line, assignment_line, left_step}
use Rattle.flow_program.specs.Uses.{ProgramUse, signal_use, term_uses, update_uses, listed_uses, placed_uses, left_uses, window_uses}
use Rattle.flow_program.specs.Uses.{node_uses, test_uses}
use Rattle.flow_program.specs.Uses.{line_uses, nodes_uses}
use Rattle.flow_program.specs.Rules.{first_place, are_texts, breaks_order, goes_nowhere, breaks_updates}
use Rattle.flow_program.proofs.WrittenIsRead.Runs.{Part, nothing, exactly, beside, made}
use Rattle.flow_program.specs.internal.Numbering.{small, numbered, numbered_term, numbered_listed, numbered_equated}
use Rattle.flow_program.specs.internal.Numbering.{numbered_left, numbered_window, numbered_node, window_of}
use Rattle.flow_program.proofs.NumberLemmas.{small_is, listed_numbered, equated_numbered, window_numbered, branch_numbered, assignment_numbered}
use Rattle.flow_program.proofs.WrittenIsRead.ListingOfTerms.{HeldUse, Kind, PartOf, Reads, name_part, number_at, applied_held, tests}
use Rattle.flow_program.proofs.WrittenIsRead.ListingOfTerms.{surface_of, as_deep, term_numbered, term_held, term_part, test_part}

pub short_is : (n : ℕ) → n ≤ 65536 → is_short n ≡ true
short_is n h = lt-ltb n 1000000000000000000 (omega (arith, h))

-- no first place of a test goes on over one more that fails it
next_place : {X : Type 0} (test : ℕ → X → Bool) (k : ℕ) (x : X) (xs : List X) → test k x ≡ false → first_place test (suc k) xs ≡ None →
    first_place test k (x ∷ xs) ≡ None
next_place test k x xs here rest = ap (λ b. cond b (Some k) (first_place test (suc k) xs)) here ∙ rest

-- nor is there one where all fail it, whatever their place
pub none_place : {X : Type 0} (test : ℕ → X → Bool) (xs : List X) → ((k i : ℕ) (x : X) → slice_get xs i ≡ Some x → test k x ≡ false) →
    (k : ℕ) → first_place test k xs ≡ None
none_place test [] h k = refl
none_place test (x ∷ xs) h k = next_place test k x xs (h k 0 x refl) (none_place test xs (λ n i. h n (suc i)) (suc k))

-- what a window of a program keeps
pub record KeptWindow (readable cells : List ℕ) (x : WindowTree) : Type 0 where
  pub short : (nat_le x.length longest && nat_le x.left_at x.length) ≡ true
  pub updates : list_all (λ u. nat_lt u.offset x.length && is_among cells u.signal) x.updates ≡ true
  pub rise : rises cells x.updates ≡ true
  pub left : left_is_shaped x.left x.left_at ≡ true
  pub offsets : list_all (λ e. nat_le e.offset x.length) x.equalities ≡ true
  pub order : stand_in_order x.equalities ≡ true
  pub probes_read : list_all (λ p. read_only readable p.arguments) (window_probes x) ≡ true
  pub terms_read : list_all (λ u. reads_only readable u.term) x.updates ≡ true

pub kept_window : (readable cells : List ℕ) (x : WindowTree) → window_fits readable cells x ≡ true → KeptWindow readable cells x
kept_window readable cells x fits = search rules

-- what all probes of a window pass
probes_pass : (test : ProbeTree → Bool) (x : WindowTree) → list_all test (window_probes x) ≡ true →
    (list_all test (left_probes x.left) ≡ true) × (test x.right ≡ true) × (list_all (λ e. test e.probe) x.equalities ≡ true)
probes_pass test x all =
    let parts = list_all_parts test (map (λ (e : EquatedTree). e.probe) x.equalities) (left_probes x.left ++ x.right ∷ []) all in
    let sides = list_all_parts test (left_probes x.left) (x.right ∷ []) parts.1 in
    (sides.0, (and_parts (test x.right) true sides.1).0, sym (list_all-map test (λ (e : EquatedTree). e.probe) x.equalities) ∙ parts.0)

-- three tests that all members pass, and what follows for each
all_pass : {X : Type 0} (p q r : X → Bool) (P : X → Type 0) → ((x : X) → p x ≡ true → q x ≡ true → r x ≡ true → P x) → (xs : List X) →
    list_all p xs ≡ true → list_all q xs ≡ true → list_all r xs ≡ true → AllByRecursion P xs
all_pass p q r P each [] first second third = tt
all_pass p q r P each (x ∷ xs) first second third =
    (each x (search rules) (search rules) (search rules), all_pass p q r P each xs (search rules) (search rules) (search rules))

module _ (names : List NameEntry) (distinct : AreDistinct names) (readable : List ℕ) (text : List ℕ) where
  abbrev Held : List ProgramUse → Type 0
  Held us = AllByRecursion (HeldUse names readable) us

  abbrev joined_held : (us vs : List ProgramUse) → Held us → Held vs → Held (us ++ vs)
  joined_held = each_joined (HeldUse names readable)

  abbrev pub ReadAs : {X Y : Type 0} → Kind X Y → Y → List ℕ → Type 0
  ReadAs = Reads names distinct readable text

  -- ---- parts of one kind, one after another

  -- on one line
  abbrev many : {X Y : Type 0} → Kind X Y → Kind (List X) (List Y)
  many k = record {
    numbered_as = λ xs. all_there (map k.numbered_as xs);
    pieces = flat_map k.pieces;
    is_within = list_all k.is_within;
    uses = λ n. flat_map (k.uses n);
  }

  many_read : {X Y : Type 0} (k : Kind X Y) (spelled : Y → List ℕ) (ys : List Y) → AllByRecursion (λ y. ReadAs k y (spelled y)) ys →
      ReadAs (many k) ys (flat_map spelled ys)
  many_read k spelled [] each = made nothing refl
      (λ u. record { line = []; numbered_is = refl; within = refl; held = λ n. tt }) (λ u. refl)
  many_read k spelled (y ∷ ys) each = made (beside each.0 (many_read k spelled ys each.1)) refl (λ x. record {
    line = x.0.line ∷ x.1.line;
    numbered_is = all_there_next k.numbered_as x.0.line x.1.line y ys x.0.numbered_is x.1.numbered_is;
    within = and_from (k.is_within x.0.line) (list_all k.is_within x.1.line) x.0.within x.1.within;
    held = λ n. joined_held (k.uses n x.0.line) (flat_map (k.uses n) x.1.line) (x.0.held n) (x.1.held n);
  }) (λ x. refl)

  -- on lines of their own, which are made so
  module _ {X Y : Type 0} (make : X → LineTree) (numbered_as : X → Option Y) (uses : ℕ → X → List ProgramUse) where
    abbrev pub one_line : Kind X Y
    one_line = record {
      numbered_as = numbered_as;
      pieces = λ x. ended_pieces (make x);
      is_within = λ x. line_is_within (make x);
      uses = uses;
    }

    abbrev pub all_lines : Kind (List X) (List Y)
    all_lines = record {
      numbered_as = λ xs. all_there (map numbered_as xs);
      pieces = λ xs. flat_map ended_pieces (map make xs);
      is_within = λ xs. list_all line_is_within (map make xs);
      uses = line_uses uses;
    }

    lines_read : (spelled : Y → List ℕ) (ys : List Y) → AllByRecursion (λ y. ReadAs one_line y (spelled y)) ys →
        ReadAs all_lines ys (flat_map spelled ys)
    lines_read spelled [] each = made nothing refl
        (λ u. record { line = []; numbered_is = refl; within = refl; held = λ n. tt }) (λ u. refl)
    lines_read spelled (y ∷ ys) each = made (beside each.0 (lines_read spelled ys each.1)) refl (λ x. record {
      line = x.0.line ∷ x.1.line;
      numbered_is = all_there_next numbered_as x.0.line x.1.line y ys x.0.numbered_is x.1.numbered_is;
      within = and_from (line_is_within (make x.0.line)) (list_all line_is_within (map make x.1.line)) x.0.within x.1.within;
      held = λ n. joined_held (uses n x.0.line) (line_uses uses (suc n) x.1.line) (x.0.held n) (x.1.held (suc n));
    }) (λ x. refl)

  -- ---- an update, `[s <- t]`

  record ListingOfUpdate (s : ℕ) (t : TermTree) : Type 0 where
    pub signal : Name
    pub term : SurfaceTermTree
    pub signal_is : numbered names text signal ≡ Some s
    pub numbered_is : numbered_term names text term ≡ Some t
    pub text_is : name_bytes text signal ≡ name_text names s
    pub flat : is_shallow term ≡ true
    pub held : (line : ℕ) → Held (signal_use text line signal ∷ term_uses text line term)

  update_part : (s : ℕ) (t : TermTree) → signal_fits names s ≡ true → term_is_writable names t ≡ true → reads_only readable t ≡ true →
      Part text (λ (u : ListingOfUpdate s t). update_pieces u.signal u.term) (update_text names s t)
  update_part s t fits writable reads =
      let signal = and_parts (is_name names s Signal 0) (is_usable_at names s) fits in
      let term = and_parts (term_fits names t) (nat_le (brackets t) deepest) writable in
      made (beside (beside (beside (beside (exactly (codes "[")) (name_part names distinct readable text s signal.1))
      (exactly (codes " <- "))) (term_part names distinct readable text t term.0)) (exactly (codes "]"))) refl (λ x.
      let n = x.0.0.0.1 in let p = x.0.1 in let held = term_held names distinct readable text t p term.0 reads in record {
        signal = n.at;
        term = surface_of names distinct readable text t p;
        signal_is = number_at names distinct readable text s Signal 0 signal.0 n;
        numbered_is = term_numbered names distinct readable text t p term.0;
        text_is = n.bytes_are;
        flat = ap (λ n. nat_le n deepest) (as_deep names distinct readable text t p) ∙ term.1;
        held = λ line. (applied_held names distinct readable text line Signal s 0 signal.0 n, held line);
      }) (λ x. refl)

  -- ---- the updates of an assignment

  record ListingOfSet (ids : List ℕ) (ts : List TermTree) : Type 0 where
    pub updates : List UpdateLine
    pub numbered_are : all_there (map (λ u. numbered_term names text u.term) updates) ≡ Some ts
    pub texts_are : map (λ u. name_bytes text u.signal) updates ≡ map (name_text names) ids
    pub flat : list_all (λ u. is_shallow u.term) updates ≡ true
    pub held : (line : ℕ) → Held (flat_map (update_uses text line) updates)

  set_part : (ids : List ℕ) (ts : List TermTree) → length ts ≡ length ids → list_all (signal_fits names) ids ≡ true →
      list_all (term_is_writable names) ts ≡ true → list_all (reads_only readable) ts ≡ true →
      Part text (λ (l : ListingOfSet ids ts). flat_map set_pieces l.updates) (updates_text names ids ts)
  set_part [] [] count fits writable reads =
      made nothing refl
      (λ u. record { updates = []; numbered_are = refl; texts_are = refl; flat = refl; held = λ line. tt }) (λ u. refl)
  set_part [] (t ∷ ts) count fits writable reads = absurd (omega (arith, count))
  set_part (s ∷ ids) [] count fits writable reads = absurd (omega (arith, count))
  set_part (s ∷ ids) (t ∷ ts) count fits writable reads =
      made (beside (beside (exactly (codes " ")) (update_part s t (search rules) (search rules) (search rules)))
      (set_part ids ts (omega (arith, count)) (search rules) (search rules) (search rules))) refl (λ x.
      let u = x.0.1 in let rest = x.1 in let line : UpdateLine = record { signal = u.signal; term = u.term } in record {
        updates = line ∷ rest.updates;
        numbered_are = all_there_next (λ v. numbered_term names text v.term) line rest.updates t ts u.numbered_is rest.numbered_are;
        texts_are = λ i. u.text_is i ∷ rest.texts_are i;
        flat = and_from (is_shallow u.term) (list_all (λ v. is_shallow v.term) rest.updates) u.flat rest.flat;
        held = λ n. joined_held (update_uses text n line) (flat_map (update_uses text n) rest.updates) (u.held n) (rest.held n);
      }) (λ x. refl)

  -- ---- what a window lists

  abbrev listed : Kind ListedLine ListedTree
  listed = record {
    numbered_as = numbered_listed names text;
    pieces = listed_pieces;
    is_within = listed_is_within;
    uses = listed_uses text;
  }

  listed_part : (x : ListedTree) → listed_is_writable names x ≡ true → reads_only readable x.term ≡ true → x.offset ≤ 3 →
      ReadAs listed x (listed_text names x)
  listed_part x writable reads few =
      made (beside (beside (exactly (codes " when ")) (update_part x.signal x.term (search rules) (search rules) reads))
      (beside (exactly (codes " at ")) (exactly (decimal x.offset)))) (simp append_assoc) (λ y.
      let u = y.0.1 in let line : ListedLine = record { signal = u.signal; term = u.term; offset = x.offset } in record {
        line = line;
        numbered_is = listed_numbered names text line x.signal x.term u.signal_is u.numbered_is (small_is x.offset (omega (arith, few)));
        within = and_from (is_shallow u.term) (is_short x.offset) u.flat (short_is x.offset (omega (arith, few)));
        held = u.held;
      }) (λ y. refl)

  -- ---- a test and its step

  abbrev OneTest : ProbeTree → Type 0
  OneTest = PartOf names readable (tests names distinct readable text)

  abbrev placed_at : {p : ProbeTree} → ℕ → OneTest p → PlacedLine
  placed_at step t = record { test = t.line; step = step }

  placed_part : (p : ProbeTree) (step : ℕ) → probe_is_writable names p ≡ true → read_only readable p.arguments ≡ true →
      Part text (λ (t : OneTest p). placed_pieces (placed_at step t)) (probe_text names p ++ codes " at " ++ decimal step)
  placed_part p step writable reads =
      made (beside (test_part names distinct readable text p writable reads) (beside (exactly (codes " at ")) (exactly (decimal step))))
      (simp append_assoc) (λ x. x.0) (λ x. refl)

  placed_within : (step : ℕ) → step ≤ 3 → {p : ProbeTree} (t : OneTest p) → placed_is_within (placed_at step t) ≡ true
  placed_within step few t = and_from (is_shallow t.line) (is_short step) t.within (short_is step (omega (arith, few)))

  -- ---- the equalities that a window lists

  abbrev equalities : Kind PlacedLine EquatedTree
  equalities = record {
    numbered_as = numbered_equated names text;
    pieces = equated_pieces;
    is_within = placed_is_within;
    uses = placed_uses text;
  }

  equality_part : (x : EquatedTree) → probe_is_writable names x.probe ≡ true → read_only readable x.probe.arguments ≡ true → x.offset ≤ 3 →
      ReadAs equalities x (equated_text names x)
  equality_part x writable reads few =
      made (beside (exactly (codes " when ")) (placed_part x.probe x.offset writable reads)) (simp append_assoc) (λ y. record {
        line = placed_at x.offset y.1;
        numbered_is = equated_numbered names text (placed_at x.offset y.1) x.probe y.1.numbered_is (small_is x.offset (omega (arith, few)));
        within = placed_within x.offset few y.1;
        held = y.1.held;
      }) (λ y. refl)

  -- ---- the left test

  abbrev left_tests : Kind (Option PlacedLine) (Option ProbeTree)
  left_tests = record {
    numbered_as = numbered_left names text;
    pieces = left_pieces;
    is_within = left_is_within;
    uses = left_uses text;
  }

  record ListingOfLeft (left : Option ProbeTree) (left_at : ℕ) : Type 0 where
    pub part : PartOf names readable left_tests left
    pub step_is : left_step part.line ≡ left_at

  left_part : (left : Option ProbeTree) (left_at : ℕ) → list_all (probe_is_writable names) (left_probes left) ≡ true →
      list_all (λ p. read_only readable p.arguments) (left_probes left) ≡ true → left_is_shaped left left_at ≡ true → left_at ≤ 3 →
      Part text (λ (l : ListingOfLeft left left_at). left_pieces l.part.line) (left_text names left left_at ++ codes " is ")
  left_part None left_at writable reads shaped few = made (exactly (codes "true is ")) refl (λ u. record {
    part = record { line = None; numbered_is = refl; within = refl; held = λ n. tt };
    step_is = sym (eqb-true left_at 0 shaped);
  }) (λ u. refl)
  left_part (Some p) left_at writable reads shaped few =
      let placed = placed_part p left_at (and_parts _ true writable).0 (and_parts _ true reads).0 in
      made (beside placed (exactly (codes " is "))) refl (λ x. record {
        part = record {
          line = Some (placed_at left_at x.0);
          numbered_is = ap (option_map Some) x.0.numbered_is;
          within = placed_within left_at few x.0;
          held = x.0.held;
        };
        step_is = refl;
      }) (λ x. refl)

  -- ---- a window

  abbrev one_window : Kind WindowLine WindowTree
  one_window = one_line window_tree_line (numbered_window names text) (window_uses text)

  abbrev pub all_windows : Kind (List WindowLine) (List WindowTree)
  all_windows = all_lines window_tree_line (numbered_window names text) (window_uses text)

  window_part : (cells : List ℕ) (x : WindowTree) → window_is_writable names x ≡ true → window_fits readable cells x ≡ true →
      ReadAs one_window x (window_text names x)
  window_part cells x writable fits =
      let k : KeptWindow readable cells x = kept_window readable cells x fits in
      let parts = and_parts (list_all (probe_is_writable names) (window_probes x)) _ writable in
      let write = probes_pass (probe_is_writable names) x parts.0 in
      let read = probes_pass (λ p. read_only readable p.arguments) x k.probes_read in
      let both = and_parts (nat_le x.length longest) (nat_le x.left_at x.length) k.short in
      let short : x.length ≤ 3 = leb-true x.length longest both.0 in
      let left_short : x.left_at ≤ 3 = omega (arith, short, leb-true x.left_at x.length both.1) in
      let all_listed = all_pass (listed_is_writable names) (λ u. reads_only readable u.term)
      (λ u. nat_lt u.offset x.length && is_among cells u.signal) (λ u. ReadAs listed u (listed_text names u)) (λ u written reads within.
      let below : nat_lt u.offset x.length ≡ true = search rules in
      listed_part u written reads (omega (arith, ltb-true u.offset x.length below, short))) x.updates parts.1 k.terms_read k.updates in
      let all_equal = all_pass (λ e. probe_is_writable names e.probe) (λ e. read_only readable e.probe.arguments)
      (λ e. nat_le e.offset x.length) (λ e. ReadAs equalities e (equated_text names e)) (λ e written reads within.
      equality_part e written reads (omega (arith, leb-true e.offset x.length within, short))) x.equalities write.2 read.2 k.offsets in
      made (beside (beside (exactly (codes "window ")) (beside (left_part x.left x.left_at write.0 read.0 k.left left_short)
      (beside (placed_part x.right x.length write.1 read.1) (beside (many_read listed (listed_text names) x.updates all_listed)
      (many_read equalities (equated_text names) x.equalities all_equal))))) (exactly (codes "\n"))) (simp append_assoc) (λ y.
      let l = y.0.1.0 in let r = y.0.1.1.0 in let us = y.0.1.1.1.0 in let es = y.0.1.1.1.1 in
      let line : WindowLine =
      record { left = l.part.line; right = placed_at x.length r; updates = us.line; equalities = es.line } in
      record {
        line = line;
        numbered_is = window_numbered names text line x.left x.right x.updates x.equalities l.part.numbered_is r.numbered_is
            (small_is (left_step l.part.line) (omega (arith, l.step_is, left_short))) (small_is x.length (omega (arith, short)))
            us.numbered_is es.numbered_is
            ∙ (λ i. Some (window_of x.left x.right (l.step_is i) x.length x.updates x.equalities));
        within = simp (l.part.within, r.within, short_is x.length (omega (arith, short)), us.within, es.within);
        held = λ n.
            let left = left_uses text n l.part.line in
            let right = test_uses text n r.line in
            joined_held ((left ++ right) ++ flat_map (listed_uses text n) us.line) (flat_map (placed_uses text n) es.line)
            (joined_held (left ++ right) (flat_map (listed_uses text n) us.line)
            (joined_held left right (l.part.held n) (r.held n)) (us.held n)) (es.held n);
      }) (λ y. refl)

  pub windows_part : (cells : List ℕ) (xs : List WindowTree) → list_all (window_is_writable names) xs ≡ true →
      list_all (window_fits readable cells) xs ≡ true → ReadAs all_windows xs (flat_map (window_text names) xs)
  windows_part cells xs writable fits =
      lines_read window_tree_line (numbered_window names text) (window_uses text) (window_text names) xs
      (each_both (λ x. window_is_writable names x ≡ true) (λ x. window_fits readable cells x ≡ true)
      (λ x. ReadAs one_window x (window_text names x)) (window_part cells) xs (each_from_list_all (window_is_writable names) xs writable)
      (each_from_list_all (window_fits readable cells) xs fits))

  -- ---- a node

  module _ (controlled : List ℕ) (controlled_fit : list_all (signal_fits names) controlled ≡ true) (states : ℕ)
      (few_states : states ≤ 64) where
    abbrev pub controlled_texts : List (List ℕ)
    controlled_texts = map (name_text names) controlled

    -- what a node of a program keeps that stands at this place
    abbrev pub KeptNode : ℕ → NodeTree → Type 0
    KeptNode number (branch t a b) = (a < number) × (b < number) × IsTrue (read_only readable t.arguments)
    KeptNode number (assign ts go) = (length ts ≡ length controlled) × (go < states) × IsTrue (list_all (reads_only readable) ts)

    -- the line of a node with this number, which breaks no rule
    abbrev node_at : ℕ → Kind NodeLine NodeTree
    node_at number = record {
      numbered_as = numbered_node names text;
      pieces = λ n. ended_pieces (node_tree_line number n);
      is_within = λ n. (line_is_within (node_tree_line number n) && not (breaks_order number n))
          && (not (goes_nowhere states number n) && not (breaks_updates text controlled_texts number n));
      uses = node_uses text;
    }

    same_texts : (xs ys : List (List ℕ)) → xs ≡ ys → are_texts xs ys ≡ true
    same_texts xs ys is = ap (are_texts xs) (sym is) ∙ itself xs where
      itself : (zs : List (List ℕ)) → are_texts zs zs ≡ true
      itself [] = refl
      itself (z ∷ zs) = and_from (bytes_eq z z) (are_texts zs zs) (bytes_same z z refl) (itself zs)

    node_part : (number : ℕ) → number ≤ 65536 → (x : NodeTree) → node_is_writable names x ≡ true → KeptNode number x →
        ReadAs (node_at number) x (node_text names controlled number x)
    node_part number few (branch t a b) writable keeps =
        let a_few : a ≤ 65536 = omega (arith, few, keeps.0) in
        let b_few : b ≤ 65536 = omega (arith, few, keeps.1) in
        made (beside (beside (exactly (codes "node ")) (beside (exactly (decimal number)) (beside (exactly (codes " if "))
        (beside (test_part names distinct readable text t writable keeps.2) (beside (exactly (codes " then ")) (beside (exactly (decimal a))
        (beside (exactly (codes " else ")) (exactly (decimal b))))))))) (exactly (codes "\n")))
        (simp append_assoc) (λ x.
        let p = x.0.1.1.1.0 in
        record {
          line = branch_line p.line a b;
          numbered_is = branch_numbered names text p.line t a b p.numbered_is (small_is a (omega (arith, a_few)))
              (small_is b (omega (arith, b_few)));
          within =
              let before = lt-ltb a number keeps.0 in
              simp (short_is number few, p.within, short_is a a_few, short_is b b_few, before, lt-ltb b number keeps.1);
          held = p.held;
        }) (λ x. refl)
    node_part number few (assign ts go) writable keeps =
        let go_few : go ≤ 65536 = omega (arith, few_states, keeps.1) in
        made (beside (beside (exactly (codes "node ")) (beside (exactly (decimal number)) (beside (exactly (codes " set"))
        (beside (set_part controlled ts keeps.0 controlled_fit writable keeps.2) (beside (exactly (codes " go "))
        (exactly (decimal go)))))))
        (exactly (codes "\n")))
        (simp append_assoc) (λ x.
        let p = x.0.1.1.1.0 in
        record {
          line = assignment_line p.updates go;
          numbered_is = assignment_numbered names text p.updates ts go p.numbered_are (small_is go (omega (arith, go_few)));
          within =
              let same = same_texts (map (λ u. name_bytes text u.signal) p.updates) controlled_texts p.texts_are in
              simp (short_is number few, p.flat, short_is go go_few, lt-ltb go states keeps.1, same);
          held = p.held;
        }) (λ x. refl)

    pub record ListingOfNodes (first : ℕ) (xs : List NodeTree) : Type 0 where
      pub lines : List NodeLine
      pub numbered_are : all_there (map (numbered_node names text) lines) ≡ Some xs
      pub within : list_all line_is_within (node_lines first lines) ≡ true
      pub order : first_place breaks_order first lines ≡ None
      pub go : first_place (goes_nowhere states) first lines ≡ None
      pub updates : first_place (breaks_updates text controlled_texts) first lines ≡ None
      pub held : (line : ℕ) → Held (nodes_uses text line lines)

    pub nodes_part : (first : ℕ) (xs : List NodeTree) → first + length xs ≤ 65536 → list_all (node_is_writable names) xs ≡ true →
        ((k i : ℕ) (x : NodeTree) → k ≡ first + i → slice_get xs i ≡ Some x → KeptNode k x) →
        Part text (λ (l : ListingOfNodes first xs). flat_map ended_pieces (node_lines first l.lines)) (nodes_text names controlled first xs)
    nodes_part first [] few writable keep =
        made nothing refl (λ u. record {
          lines = [];
          numbered_are = refl;
          within = refl;
          order = refl;
          go = refl;
          updates = refl;
          held = λ line. tt;
        }) (λ u. refl)
    nodes_part first (x ∷ xs) few writable keep =
        let write = and_parts (node_is_writable names x) (list_all (node_is_writable names) xs) writable in
        made (beside (node_part first (omega (arith, few)) x write.0 (keep first 0 x (omega arith) refl))
        (nodes_part (suc first) xs (omega (arith, few)) write.1 (λ k i y place is. keep k (suc i) y (omega (arith, place)) is))) refl (λ y.
        let head = y.0 in
        let rest = y.1 in
        let parts = and_parts _ _ head.within in
        let both = and_parts _ _ parts.0 in
        let rules_kept = and_parts _ _ parts.1 in
        record {
          lines = head.line ∷ rest.lines;
          numbered_are = all_there_next (numbered_node names text) head.line rest.lines x xs head.numbered_is rest.numbered_are;
          within = and_from _ _ both.0 rest.within;
          order = next_place breaks_order first head.line rest.lines (not-true _ both.1) rest.order;
          go = next_place (goes_nowhere states) first head.line rest.lines (not-true _ rules_kept.0) rest.go;
          updates = next_place (breaks_updates text controlled_texts) first head.line rest.lines (not-true _ rules_kept.1) rest.updates;
          held = λ line. joined_held (node_uses text line head.line) (nodes_uses text (suc line) rest.lines)
              (head.held line) (rest.held (suc line));
        }) (λ y. refl)

  -- ---- declarations

  abbrev declared_use : ℕ → Name → List ProgramUse
  declared_use n at = signal_use text n at ∷ []

  abbrev pub all_declared : (Name → LineTree) → Kind (List Name) (List ℕ)
  all_declared make = all_lines make (numbered names text) declared_use

  pub declared_part : (w : List ℕ) (make : Name → LineTree) →
      ((n : Name) → word w ∷ named n ∷ word (codes "\n") ∷ [] ≡ ended_pieces (make n)) → ((n : Name) → line_is_within (make n) ≡ true) →
      (ids : List ℕ) → list_all (signal_fits names) ids ≡ true → ReadAs (all_declared make) ids (declarations w names ids)
  declared_part w make pieces within ids fits =
      let line_text = λ (id : ℕ). w ++ name_text names id ++ codes "\n" in
      lines_read make (numbered names text) declared_use line_text ids (each_weaker (λ s. signal_fits names s ≡ true)
      (λ s. ReadAs (one_line make (numbered names text) declared_use) s (line_text s)) (λ s fit.
      let parts = and_parts (is_name names s Signal 0) (is_usable_at names s) fit in
      made (beside (beside (exactly w) (name_part names distinct readable text s parts.1)) (exactly (codes "\n"))) refl (λ x. record {
        line = x.0.1.at;
        numbered_is = number_at names distinct readable text s Signal 0 parts.0 x.0.1;
        within = within x.0.1.at;
        held = λ n. (applied_held names distinct readable text n Signal s 0 parts.0 x.0.1, tt);
      }) (λ x. pieces x.0.1.at)) ids (each_from_list_all (signal_fits names) ids fits))

pub states_part : {text : List ℕ} (s : ℕ) (is : List ℕ) →
    Part text (λ (u : Unit {0}). flat_map ended_pieces (state_lines s is)) (states_text s is)
states_part s [] = nothing
states_part s (n ∷ is) =
    made (beside (beside (beside (beside (beside (exactly (codes "state ")) (exactly (decimal s))) (exactly (codes " at ")))
    (exactly (decimal n))) (exactly (codes "\n"))) (states_part (suc s) is)) refl (λ x. tt) (λ x. refl)

pub states_numbered : (is : List ℕ) → ((i n : ℕ) → slice_get is i ≡ Some n → n < 65536) → all_there (map small is) ≡ Some is
states_numbered [] below = refl
states_numbered (n ∷ is) below =
    all_there_next small n is n is (small_is n (omega (arith, below 0 n refl))) (states_numbered is (λ i. below (suc i)))

pub states_within : (s : ℕ) (is : List ℕ) → s + length is ≤ 64 → ((i n : ℕ) → slice_get is i ≡ Some n → n < 65536) →
    list_all line_is_within (state_lines s is) ≡ true
states_within s [] few below = refl
states_within s (n ∷ is) few below =
    and_from (is_short s && is_short n) (list_all line_is_within (state_lines (suc s) is))
    (and_from (is_short s) (is_short n) (short_is s (omega (arith, few))) (short_is n (omega (arith, below 0 n refl))))
    (states_within (suc s) is (omega (arith, few)) (λ i. below (suc i)))
