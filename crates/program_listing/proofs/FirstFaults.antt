-- The first line at fault.
use Rattle.std.proofs.Common.{◌≡◌, ℕ, suc, ◌+◌, ◌<◌, true, List, [], ◌∷◌, ◌++◌, length, map, codes, Some, Err, ◌⊎◌, inl, inr, refl, sym, ap}
use Rattle.std.proofs.Common.{subst, ◌∙◌, append_assoc, arith}
use Rattle.std.proofs.lemmas.Bool.{false≢true}
use Rattle.tsl_text.specs.Lines.{lines_from}
use Rattle.tsl_text.specs.Written.{is_line, text_of_lines}
use Rattle.line_formats.specs.Machine.{read_from, IsText, IsFirstWrong, IsLive}
use Rattle.line_formats.proofs.MachineLaws.{Goes, ends_by, all_front, fault_is_first, lines_begin, one_more_line, text_append}
use Rattle.program_listing.specs.declared.listing.Name.{Name}
use Rattle.program_listing.specs.Listing.{IsListing, BeginAlike, FormFault}
use Rattle.program_listing.specs.ListingTree.{NodeLine, assignment_line, ListingTree, empty_listing}
use Rattle.program_listing.specs.LineText.{LineTree, head_line, node, state, end_line}
use Rattle.program_listing.specs.internal.LineReading.{repeat, repeat_most, read_line}
use Rattle.program_listing.specs.internal.LineOrder.{Progress, fresh, going, done, is_nil, is_done, add, declares, entry_in, are_new}
use Rattle.program_listing.specs.internal.LineOrder.{state_after, ListingState, start, whole, step}
use Rattle.program_listing.proofs.OrderOfLines.{IsInOrder, grown}
use Rattle.program_listing.proofs.TextLines.{stepped, step_is, listing_of_lines, listing_leads}

-- ---- a line that goes on

abbrev Reached : ListingState → Type 0
Reached s = IsInOrder s.progress

kept : (s t : ListingState) (l : List ℕ) → Reached s → step s l ≡ Some t → Reached t
kept s t l r h =
    let st = stepped s t l h in subst Reached st.is ((grown s.progress st.tree st.progress st.added).in_order r)

abbrev nothing_to_do : NodeLine
nothing_to_do = assignment_line [] 0

-- how much is left to do
abbrev missing : {A : Type 0} → List A → ℕ
missing [] = 1
missing (x ∷ xs) = 0

abbrev left_to_do : Progress → ℕ
left_to_do fresh = 4
left_to_do (going l) = 1 + (missing l.nodes + missing l.states)
left_to_do (done l) = 0

abbrev measure : ListingState → ℕ
measure s = left_to_do s.progress

-- a line that declares no name, and what it adds
by_line : (s : ListingState) (p q : Progress) (bytes : List ℕ) (tree : LineTree) → s.progress ≡ p → is_line bytes ≡ true →
    read_line (record { at = s.at; bytes = bytes }) ≡ Some tree → declares tree ≡ [] → add p tree ≡ Some q →
    left_to_do q < left_to_do p → Goes step whole Reached measure s
by_line s p q bytes tree e lined read none added less = record {
  line = bytes;
  next = state_after s (record { at = s.at; bytes = bytes }) tree q;
  is = lined;
  steps_to =
      step_is s bytes tree q read (ap (λ (ns : List Name). are_new s.names (map (entry_in (record { at = s.at; bytes = bytes })) ns)) none)
      (ap (λ (x : Progress). add x tree) e ∙ added);
  less = subst (λ (n : ℕ). left_to_do q < n) (sym (ap left_to_do e)) less;
}

node_read : (at : ℕ) → read_line (record { at = at; bytes = codes "node 0 set go 0" }) ≡ Some (node 0 nothing_to_do)
unfolding repeat repeat_most
node_read at = refl

goes : (s : ListingState) → Reached s → (whole s ≡ true) ⊎ Goes step whole Reached measure s
goes s r = by s.progress refl r where
  by_lists : (l : ListingTree) (nodes : List NodeLine) (states : List ℕ) →
      s.progress ≡ going (record l { nodes = nodes; states = states }) →
      (is_nil nodes ≡ true → is_nil states ≡ true) → Goes step whole Reached measure s
  by_lists l [] [] e valid =
      by_line s _ (going (record l { nodes = nothing_to_do ∷ []; states = [] })) (codes "node 0 set go 0") (node 0 nothing_to_do) e refl
      (node_read s.at) refl refl (omega arith)
  by_lists l [] (k ∷ states) e valid = absurd (false≢true (valid refl))
  by_lists l (n ∷ nodes) [] e valid =
      by_line s _ (going (record l { nodes = n ∷ nodes; states = 0 ∷ [] })) (codes "state 0 at 0") (state 0 0) e refl refl refl
      refl (omega arith)
  by_lists l (n ∷ nodes) (k ∷ states) e valid =
      by_line s _ (done (record l { nodes = n ∷ nodes; states = k ∷ states })) (codes "end") end_line e refl refl refl refl
      (omega arith)

  by : (p : Progress) → s.progress ≡ p → IsInOrder p → (whole s ≡ true) ⊎ Goes step whole Reached measure s
  by fresh e valid =
      inr (by_line s fresh (going empty_listing) (codes "tslprogram 1") head_line e refl refl refl refl (omega arith))
  by (done l) e valid = inl (ap is_done e)
  by (going l) e valid = inr (by_lists l l.nodes l.states e valid)

live : IsLive step whole start Reached
live = record {
  first = tt;
  kept = kept;
  ends = λ s r. ends_by step whole Reached measure kept goes (suc (measure s)) s (omega arith) r;
}

-- a whole text has a listing
listing_in : (s : ListingState) → whole s ≡ true → (l : ListingTree) × (s.progress ≡ done l)
listing_in s h = by s.progress refl h where
  by : (p : Progress) → s.progress ≡ p → is_done p ≡ true → (l : ListingTree) × (s.progress ≡ done l)
  by fresh e k = absurd (false≢true k)
  by (going l) e k = absurd (false≢true k)
  by (done l) e k = (l, e)

pub first_fault : (text : List ℕ) (number : ℕ) → read_from step whole start 1 (lines_from 1 text) ≡ Err number → FormFault text number
first_fault text number h =
    let w = fault_is_first step whole start Reached live text number h in
    let l = listing_in w.end w.goes_on.done in
    record {
      count = length w.before;
      next = w.number;
      other = text_of_lines (w.before ++ w.ending);
      listing = l.0;
      is_listing = listing_of_lines (w.before ++ w.ending) w.end l.0 w.goes_on.says l.1;
      before = record {
        lines = w.before;
        are_lines = all_front is_line w.before w.ending w.goes_on.lines;
        number = refl;
        after_text = w.after;
        text_is = w.split;
        after_other = text_of_lines w.ending;
        other_is = text_append w.before w.ending;
      };
      here = λ another m is b. here w another m is b;
      none = λ m is. let r = listing_leads text m is in w.none r.lines r.end r.is_text r.split;
    }
  where
    here : (w : IsFirstWrong step whole start text number) (another : List ℕ) (m : ListingTree) → IsListing another m →
        BeginAlike number text another → ⊥
    here w another m is b =
        let r = listing_leads another m is in
        let front = all_front is_line w.before w.ending w.goes_on.lines in
        let next = one_more_line w.before b.lines b.after_text w.after front b.are_lines (b.number ∙ w.number) (sym b.text_is ∙ w.split) in
        let more = lines_begin b.lines r.lines b.after_other b.are_lines r.is_text.lines (sym r.split ∙ b.other_is) in
        let order : r.lines ≡ w.before ++ next.0 ∷ more.0 =
        more.1 ∙ ap (λ (ls : List (List ℕ)). ls ++ more.0) next.2 ∙ append_assoc w.before (next.0 ∷ []) more.0 in
        let P : List (List ℕ) → Type 0 = λ ls. IsText step whole start ls r.end in
        w.here next.0 b.after_text more.0 r.end next.3 next.1 (subst P order r.is_text)
