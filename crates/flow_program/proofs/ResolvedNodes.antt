-- The nodes and states of a text that breaks no rule have their numbers, and are written as before.
use Rattle.std.proofs.Common.{◌≡◌, ℕ, suc, ◌^◌, ◌<◌, ◌≤◌, true, false, List, [], ◌∷◌, ◌++◌, refl, ap, sym, subst, ◌∙◌}
use Rattle.std.proofs.Common.{arith, length, map}
use Rattle.std.specs.Prelude.{Some, nat_lt, codes, flat_map, slice_get, IsTrue}
use Rattle.std.specs.List.{list_all, AllByRecursion}
use Rattle.std.proofs.lemmas.Bool.{and_parts, ltb-true, not-false}
use Rattle.std.proofs.lemmas.Grind.{common_steps}
use Rattle.std.proofs.lemmas.List.{length-map}
use Rattle.base_library.proofs.Bytes.{same_bytes}
use Rattle.base_library.proofs.Places.{slice_get_mapped}
use Rattle.base_library.specs.Options.{all_there}
use Rattle.base_library.proofs.Gathered.{all_there_next}
use Rattle.tsl_terms.specs.Name.{Name as NameEntry}
use Rattle.tsl_terms.specs.TermTree.{TermTree}
use Rattle.tsl_terms.specs.OnlyThese.{reads_only, read_only}
use Rattle.term_text.specs.TermText.{name_text, term_text, probe_text}
use Rattle.program_tree.specs.NodeTree.{NodeTree, branch, assign}
use Rattle.program_tree.specs.Writable.{term_is_writable, node_is_writable}
use Rattle.program_listing.specs.Listing.{name_bytes, UpdateLine, NodeLine, branch_line, assignment_line}
use Rattle.program_listing.specs.internal.NamesStand.{update_line_stands, node_line_stands}
use Rattle.program_listing.specs.LineText.{node, set_pieces, ended_pieces, node_lines}
use Rattle.program_listing.proofs.ListingFacts.{pieces_text}
use Rattle.flow_program.specs.ProgramText.{updates_text, node_text, nodes_text}
use Rattle.flow_program.specs.Uses.{update_uses, node_uses}
use Rattle.flow_program.specs.Rules.{are_texts, breaks_order, goes_nowhere, breaks_updates}
use Rattle.flow_program.specs.internal.Numbering.{small, numbered_term, numbered_node}
use Rattle.base_library.proofs.MadeLists.{all_made, all_pass}
use Rattle.flow_program.proofs.EachLine.{each_good}
use Rattle.flow_program.proofs.NumberLemmas.{branch_numbered, assignment_numbered, small_is}
use Rattle.flow_program.proofs.ResolvedTerms.{IsUsed, term_of, test_of, GoodTerm, good_term, term_writable, good_test, test_writable}
use Rattle.flow_program.proofs.SpelledLines.{pieces_append, update_spelled, branch_spelled, assignment_spelled}

-- texts that are the same one by one
same_texts : (xs ys : List (List ℕ)) → are_texts xs ys ≡ true → xs ≡ ys
same_texts [] [] h = refl
same_texts [] (y ∷ ys) h = absurd (cc)
same_texts (x ∷ xs) [] h = absurd (cc)
same_texts (x ∷ xs) (y ∷ ys) h = grind (arith, common_steps, same_bytes x y, same_texts xs ys)

module _ (names : List NameEntry) (text : List ℕ) where
  abbrev term_with : UpdateLine → TermTree
  term_with u = term_of names text u.term

  abbrev pub node_with : NodeLine → NodeTree
  node_with (branch_line test a b) = branch (test_of names text test) a b
  node_with (assignment_line us go) = assign (map term_with us) go

module _ (names : List NameEntry) (readable : List ℕ) (text : List ℕ) where
  record GoodUpdate (line : ℕ) (u : UpdateLine) : Type 0 where
    term : GoodTerm names readable text u.term
    writable : term_is_writable names (term_with names text u) ≡ true

  good_update : (line : ℕ) (u : UpdateLine) → AllByRecursion (IsUsed names readable text) (update_uses text line u) →
      update_line_stands text u ≡ true → update_line_stands text u ≡ true → GoodUpdate line u
  good_update line u k stands too =
      let g = good_term names readable text line u.term k.1 in
      record { term = g; writable = term_writable names readable text line u.term g (and_parts _ _ stands).1 }

  updates_spelled : (line : ℕ) (ids : List ℕ) (us : List UpdateLine) → map (name_text names) ids ≡ map (λ u. name_bytes text u.signal) us →
      AllByRecursion (GoodUpdate line) us → pieces_text text (flat_map set_pieces us) ≡ updates_text names ids (map (term_with names text) us)
  updates_spelled line [] [] same all = refl
  updates_spelled line [] (u ∷ us) same all = absurd (cc)
  updates_spelled line (id ∷ ids) [] same all = absurd (cc)
  updates_spelled line (id ∷ ids) (u ∷ us) same all =
      let first : name_text names id ≡ name_bytes text u.signal = cc in
      let more : map (name_text names) ids ≡ map (λ v. name_bytes text v.signal) us = cc in
      pieces_append text (set_pieces u) (flat_map set_pieces us)
      ∙ (λ i. (codes " " ++ update_spelled text u.signal u.term (name_text names id) (term_text names (term_with names text u))
      (sym first) all.0.term.spelled i) ++ updates_spelled line ids us more all.1 i)

  module _ (controlled : List ℕ) (states : ℕ) where
    -- what a node keeps that stands at this place
    abbrev pub NodeFits : ℕ → NodeTree → Type 0
    NodeFits i (branch t a b) = (a < i) × (b < i) × IsTrue (read_only readable t.arguments)
    NodeFits i (assign ts go) = (length ts ≡ length controlled) × (go < states) × IsTrue (list_all (reads_only readable) ts)

    pub record GoodNode (i : ℕ) (n : NodeLine) : Type 0 where
      pub numbered : numbered_node names text n ≡ Some (node_with names text n)
      pub writable : node_is_writable names (node_with names text n) ≡ true
      pub spelled : (number : ℕ) → pieces_text text (ended_pieces (node number n)) ≡ node_text names controlled number (node_with names text n)
      pub fits : NodeFits i (node_with names text n)

    pub good_node : (texts : List (List ℕ)) → map (name_text names) controlled ≡ texts → states ≤ 2 ^ 32 → (line i : ℕ) → i < 2 ^ 32 →
        (n : NodeLine) → AllByRecursion (IsUsed names readable text) (node_uses text line n) → node_line_stands text n ≡ true →
        breaks_order i n ≡ false → goes_nowhere states i n ≡ false → breaks_updates text texts i n ≡ false → GoodNode i n
    good_node texts are few line i short (branch_line test a b) k stands order target same =
        let g = good_test names readable text line test k in
        let parts = and_parts (nat_lt a i) (nat_lt b i) (not-false _ order) in
        let a_below : a < i = ltb-true a i parts.0 in
        let b_below : b < i = ltb-true b i parts.1 in
        record {
          numbered = branch_numbered names text test _ a b g.numbered (small_is a (omega (arith, a_below, short)))
              (small_is b (omega (arith, b_below, short)));
          writable = test_writable names readable text line test g stands;
          spelled = λ number. branch_spelled text number test a b (probe_text names (test_of names text test)) g.spelled;
          fits = (a_below, b_below, g.reads);
        }
    good_node texts are few line i short (assignment_line us go) k stands order target same =
        let same_are = same_texts (map (λ u. name_bytes text u.signal) us) texts (not-false _ same) in
        let go_below : go < states = ltb-true go states (not-false _ target) in
        let all : AllByRecursion (GoodUpdate line) us =
        each_good (IsUsed names readable text) (update_uses text line) (update_line_stands text) (update_line_stands text) (GoodUpdate line)
        (good_update line) us k stands stands in
        record {
          numbered = assignment_numbered names text us _ go
              (all_made (GoodUpdate line) (term_with names text) (λ u. numbered_term names text u.term) (λ u g. g.term.numbered) us all)
              (small_is go (omega (arith, go_below, few)));
          writable = all_pass (GoodUpdate line) (term_with names text) (term_is_writable names) (λ u g. g.writable) us all;
          spelled = λ number. assignment_spelled text number us go (updates_text names controlled (map (term_with names text) us))
              (updates_spelled line controlled us (are ∙ sym same_are) all);
          fits = (
            length-map us (term_with names text) ∙ sym (length-map us (λ u. name_bytes text u.signal)) ∙ ap length (same_are ∙ sym are)
                ∙ length-map controlled (name_text names),
            go_below,
            all_pass (GoodUpdate line) (term_with names text) (reads_only readable) (λ u g. g.term.reads) us all,
          );
        }

    -- ---- all nodes

    abbrev pub IsGood : NodeLine → Type 0
    IsGood n = (i : ℕ) × GoodNode i n

    pub nodes_spelled : (first : ℕ) (ns : List NodeLine) → AllByRecursion IsGood ns →
        pieces_text text (flat_map ended_pieces (node_lines first ns)) ≡ nodes_text names controlled first (map (node_with names text) ns)
    nodes_spelled first [] all = refl
    nodes_spelled first (n ∷ ns) all =
        pieces_append text (ended_pieces (node first n)) (flat_map ended_pieces (node_lines (suc first) ns))
        ∙ (λ i. all.0.1.spelled first i ++ nodes_spelled (suc first) ns all.1 i)

    pub nodes_fit : (ns : List NodeLine) → ((i : ℕ) (n : NodeLine) → slice_get ns i ≡ Some n → GoodNode i n) →
        (i : ℕ) (tree : NodeTree) → slice_get (map (node_with names text) ns) i ≡ Some tree → NodeFits i tree
    nodes_fit ns good i tree at =
        let line = slice_get_mapped (node_with names text) ns i tree at in
        subst (NodeFits i) line.2 (good i line.0 line.1).fits

-- states
pub states_numbered : (is : List ℕ) → AllByRecursion (λ i. i < 2 ^ 32) is → all_there (map small is) ≡ Some is
states_numbered [] short = refl
states_numbered (i ∷ is) short = all_there_next small i is i is (small_is i short.0) (states_numbered is short.1)
