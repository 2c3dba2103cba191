-- The order of lines: the lines of a listing are those that may stand one after another.
use Rattle.std.proofs.Common.{◌≡◌, ℕ, suc, ◌+◌, ◌<◌, true, not, ◌&&◌, eqb, List, [], ◌∷◌, ◌++◌, length, map, flat_map, Some, None}
use Rattle.std.proofs.Common.{option_and_then, refl, sym, ap, subst, ◌∙◌, append_assoc, arith, length-append}
use Rattle.std.proofs.lemmas.Bool.{and_parts, and_from, cond-true, eqb-true, eq-eqb, not-true, false≢true}
use Rattle.std.proofs.lemmas.List.{append-nil, map-append}
use Rattle.std.proofs.lemmas.Option.{none-some, same_Some, cond_some}
use Rattle.line_formats.proofs.FormatLaws.{and_then_some}
use Rattle.program_listing.specs.declared.listing.Name.{Name}
use Rattle.program_listing.specs.ListingTree.{NodeLine, ListingTree, empty_listing}
use Rattle.program_listing.specs.Listing.{declared}
use Rattle.program_listing.specs.LineText.{LineTree, head_line, input, cell, output, window, node, state, end_line, node_lines, state_lines}
use Rattle.program_listing.specs.LineText.{listing_lines}
use Rattle.program_listing.specs.internal.LineOrder.{Progress, fresh, going, done, is_nil, no_node, no_window, no_output, no_cell}
use Rattle.program_listing.specs.internal.LineOrder.{may_stand, progress_with, add, add_all, from_states, from_nodes, from_windows}
use Rattle.program_listing.specs.internal.LineOrder.{from_outputs, from_cells, lines_with, lines_so_far, listing_of, declares}

pub after_lines : (xs ys : List LineTree) (p q : Progress) → add_all xs p ≡ Some q → add_all (xs ++ ys) p ≡ add_all ys q
after_lines [] ys p q e = ap (add_all ys) (same_Some p q e)
after_lines (x ∷ xs) ys p q e =
    let first = and_then_some (add p x) (add_all xs) q e in
    ap (option_and_then (add_all (xs ++ ys))) first.1 ∙ after_lines xs ys first.0 q first.2

-- ---- a section: lines that make a list grow, one after another, each with its number

module _ {A : Type 0} (line : ℕ → A → LineTree) (lines : ℕ → List A → List LineTree) (none : (i : ℕ) → lines i [] ≡ [])
    (more : (i : ℕ) (x : A) (xs : List A) → lines i (x ∷ xs) ≡ line i x ∷ lines (suc i) xs) where
  section_push : (i k : ℕ) (xs : List A) (y : A) → k ≡ i + length xs → lines i (xs ++ y ∷ []) ≡ lines i xs ++ line k y ∷ []
  section_push i k [] y e =
      let same : i ≡ k = omega arith in
      more i y [] ∙ (λ j. line (same j) y ∷ none (suc i) j) ∙ ap (λ (ts : List LineTree). ts ++ line k y ∷ []) (sym (none i))
  section_push i k (x ∷ xs) y e =
      more i x (xs ++ y ∷ []) ∙ ap (λ (ts : List LineTree). line i x ∷ ts) (section_push (suc i) k xs y (omega (arith, e)))
      ∙ ap (λ (ts : List LineTree). ts ++ line k y ∷ []) (sym (more i x xs))

  module _ (grow : List A → Progress) (one : (xs : List A) (x : A) → add (grow xs) (line (length xs) x) ≡ Some (grow (xs ++ x ∷ []))) where
    section_grows : (xs ys : List A) → add_all (lines (length xs) ys) (grow xs) ≡ Some (grow (xs ++ ys))
    section_grows xs [] =
        ap (λ (ts : List LineTree). add_all ts (grow xs)) (none (length xs)) ∙ ap (λ (zs : List A). Some (grow zs)) (sym (append-nil xs))
    section_grows xs (y ∷ ys) =
        let next : length (xs ++ y ∷ []) ≡ suc (length xs) = length-append xs (y ∷ []) ∙ omega arith in
        ap (λ (ts : List LineTree). add_all ts (grow xs)) (more (length xs) y ys)
        ∙ ap (option_and_then (add_all (lines (suc (length xs)) ys))) (one xs y)
        ∙ ap (λ (i : ℕ). add_all (lines i ys) (grow (xs ++ y ∷ []))) (sym next)
        ∙ section_grows (xs ++ y ∷ []) ys
        ∙ ap (λ (zs : List A). Some (grow zs)) (append_assoc xs (y ∷ []) ys)

    section : (ys : List A) (rest : List LineTree) → add_all (lines 0 ys ++ rest) (grow []) ≡ add_all rest (grow ys)
    section ys rest = after_lines (lines 0 ys) rest (grow []) (grow ys) (section_grows [] ys)

-- ---- the lines of a listing may stand one after another

some_member : {A : Type 0} (xs : List A) → 0 < length xs → not (is_nil xs) ≡ true
some_member [] h = absurd (omega arith)
some_member (x ∷ xs) h = refl

same_length : {A : Type 0} (xs : List A) → eqb (length xs) (length xs) ≡ true
same_length xs = eq-eqb (length xs) (length xs) refl

pub listing_adds : (l : ListingTree) → 0 < length l.nodes → 0 < length l.states → add_all (listing_lines l) fresh ≡ Some (done l)
listing_adds l some_node some_state =
    let nodes : not (is_nil l.nodes) ≡ true = some_member l.nodes some_node in
    section (λ i. input) (λ i. map input) (λ i. refl) (λ i x xs. refl) (λ xs. going (record empty_listing { inputs = xs })) (λ xs x. refl)
    l.inputs (from_cells l (end_line ∷ []))
    ∙ section (λ i. cell) (λ i. map cell) (λ i. refl) (λ i x xs. refl)
    (λ xs. going (record empty_listing { inputs = l.inputs; cells = xs })) (λ xs x. refl) l.cells (from_outputs l (end_line ∷ []))
    ∙ section (λ i. output) (λ i. map output) (λ i. refl) (λ i x xs. refl)
    (λ xs. going (record empty_listing { inputs = l.inputs; cells = l.cells; outputs = xs })) (λ xs x. refl) l.outputs
    (from_windows l (end_line ∷ []))
    ∙ section (λ i. window) (λ i. map window) (λ i. refl) (λ i x xs. refl)
    (λ xs. going (record l { windows = xs; nodes = []; states = [] })) (λ xs x. refl) l.windows (from_nodes l (end_line ∷ []))
    ∙ section node node_lines (λ i. refl) (λ i x xs. refl) (λ xs. going (record l { nodes = xs; states = [] }))
    (λ xs x. cond-true (eqb (length xs) (length xs) && true) _ None (and_from (eqb (length xs) (length xs)) true (same_length xs) refl))
    l.nodes (from_states l (end_line ∷ []))
    ∙ section state state_lines (λ i. refl) (λ i x xs. refl) (λ xs. going (record l { states = xs }))
    (λ xs x. cond-true (eqb (length xs) (length xs) && not (is_nil l.nodes)) _ None
    (and_from (eqb (length xs) (length xs)) (not (is_nil l.nodes)) (same_length xs) nodes)) l.states (end_line ∷ [])
    ∙ ap (option_and_then (add_all [])) (cond-true (not (is_nil l.nodes) && not (is_nil l.states)) (Some (done l)) None
    (and_from (not (is_nil l.nodes)) (not (is_nil l.states)) nodes (some_member l.states some_state)))

-- ---- and only those may

nil_is : {A : Type 0} (xs : List A) → is_nil xs ≡ true → xs ≡ []
nil_is [] h = refl
nil_is (x ∷ xs) h = absurd (false≢true h)

-- sections that are empty
module _ (l : ListingTree) (tail : List LineTree) where
  no_states : is_nil l.states ≡ true → from_states l tail ≡ tail
  no_states h = ap (λ (ns : List ℕ). state_lines 0 ns ++ tail) (nil_is l.states h)

  no_nodes : no_node l ≡ true → from_nodes l tail ≡ tail
  no_nodes h =
      let parts = and_parts (is_nil l.nodes) (is_nil l.states) h in
      ap (λ (ns : List NodeLine). node_lines 0 ns ++ from_states l tail) (nil_is l.nodes parts.0) ∙ no_states parts.1

  no_windows : no_window l ≡ true → from_windows l tail ≡ tail
  no_windows h = let parts = and_parts (is_nil l.windows) (no_node l) h in rw (nil_is l.windows parts.0) (no_nodes parts.1)

  no_outputs : no_output l ≡ true → from_outputs l tail ≡ tail
  no_outputs h = let parts = and_parts (is_nil l.outputs) (no_window l) h in rw (nil_is l.outputs parts.0) (no_windows parts.1)

  no_cells : no_cell l ≡ true → from_cells l tail ≡ tail
  no_cells h = let parts = and_parts (is_nil l.cells) (no_output l) h in rw (nil_is l.cells parts.0) (no_outputs parts.1)

-- one line more in a section, where those after it are empty
section_end : {A : Type 0} (lines : List A → List LineTree) (xs : List A) (x : A) (t : LineTree) (rest : List LineTree → List LineTree) →
    lines (xs ++ x ∷ []) ≡ lines xs ++ t ∷ [] → ((ts : List LineTree) → rest ts ≡ ts) →
    lines (xs ++ x ∷ []) ++ rest [] ≡ lines xs ++ rest (t ∷ [])
section_end lines xs x t rest push none =
    (λ i. push i ++ none [] i) ∙ append-nil (lines xs ++ t ∷ []) ∙ (λ i. lines xs ++ sym (none (t ∷ [])) i)

lines_end : (l : ListingTree) (tail : List LineTree) → lines_with l [] ++ tail ≡ lines_with l tail
lines_end l tail = simp (append_assoc, append-nil)

-- what is done has a node and a state, and before that a state stands only after a node
abbrev pub IsInOrder : Progress → Type 0
IsInOrder fresh = Unit {0}
IsInOrder (going l) = is_nil l.nodes ≡ true → is_nil l.states ≡ true
IsInOrder (done l) = (0 < length l.nodes) × (0 < length l.states)

-- what a line changes
pub record Grown (p : Progress) (t : LineTree) (q : Progress) : Type 0 where
  pub lines : lines_so_far q ≡ lines_so_far p ++ t ∷ []
  pub names : declared (listing_of q) ≡ declared (listing_of p) ++ declares t
  pub in_order : IsInOrder p → IsInOrder q

pushed : {A : Type 0} (xs : List A) (x : A) → is_nil (xs ++ x ∷ []) ≡ true → ⊥
pushed [] x h = false≢true h
pushed (y ∷ xs) x h = false≢true h

some_length : {A : Type 0} (xs : List A) → not (is_nil xs) ≡ true → 0 < length xs
some_length [] h = absurd (false≢true h)
some_length (x ∷ xs) h = omega arith

grows_by : (l : ListingTree) (t : LineTree) → lines_so_far (progress_with l t) ≡ lines_with l (t ∷ []) →
    declared (listing_of (progress_with l t)) ≡ declared l ++ declares t → (IsInOrder (going l) → IsInOrder (progress_with l t)) →
    Grown (going l) t (progress_with l t)
grows_by l t lines names in_order = record { lines = lines ∙ sym (lines_end l (t ∷ [])); names = names; in_order = in_order }

grows : (l : ListingTree) (t : LineTree) → may_stand l t ≡ true → Grown (going l) t (progress_with l t)
grows l head_line h = absurd (false≢true h)
grows l (input n) h =
    let parts = and_parts (is_nil l.cells) (no_output l) h in
    grows_by l (input n)
    (rw (section_end (map input) l.inputs n (input n) (from_cells l) (map-append input l.inputs (n ∷ [])) (λ ts. no_cells l ts h)))
    (rw (nil_is l.cells parts.0, nil_is l.outputs (and_parts (is_nil l.outputs) (no_window l) parts.1).0) (simp append-nil))
    (λ valid. valid)
grows l (cell n) h =
    grows_by l (cell n)
    (rw (section_end (map cell) l.cells n (cell n) (from_outputs l) (map-append cell l.cells (n ∷ [])) (λ ts. no_outputs l ts h)))
    (rw (nil_is l.outputs (and_parts (is_nil l.outputs) (no_window l) h).0) (simp (append-nil, append_assoc)))
    (λ valid. valid)
grows l (output n) h =
    grows_by l (output n)
    (rw (section_end (map output) l.outputs n (output n) (from_windows l) (map-append output l.outputs (n ∷ [])) (λ ts. no_windows l ts h)))
    (simp append_assoc) (λ valid. valid)
grows l (window w) h =
    grows_by l (window w)
    (rw (section_end (map window) l.windows w (window w) (from_nodes l) (map-append window l.windows (w ∷ [])) (λ ts. no_nodes l ts h)))
    (sym (append-nil (declared l))) (λ valid. valid)
grows l (node i n) h =
    let parts = and_parts (eqb i (length l.nodes)) (is_nil l.states) h in
    let next : i ≡ length l.nodes = eqb-true i (length l.nodes) parts.0 in
    let push = section_push node node_lines (λ i. refl) (λ i x xs. refl) 0 i l.nodes n (omega (arith, next)) in
    grows_by l (node i n)
    (rw (section_end (node_lines 0) l.nodes n (node i n) (from_states l) push (λ ts. no_states l ts parts.1)))
    (sym (append-nil (declared l))) (λ valid k. absurd (pushed l.nodes n k))
grows l (state i n) h =
    let parts = and_parts (eqb i (length l.states)) (not (is_nil l.nodes)) h in
    let next : i ≡ length l.states = eqb-true i (length l.states) parts.0 in
    let push = section_push state state_lines (λ i. refl) (λ i x xs. refl) 0 i l.states n (omega (arith, next)) in
    grows_by l (state i n)
    (rw (section_end (state_lines 0) l.states n (state i n) (λ ts. ts) push (λ ts. refl)))
    (sym (append-nil (declared l))) (λ valid k. absurd (false≢true (sym (not-true (is_nil l.nodes) parts.1) ∙ k)))
grows l end_line h =
    let parts = and_parts (not (is_nil l.nodes)) (not (is_nil l.states)) h in
    grows_by l end_line refl (sym (append-nil (declared l))) (λ valid. (some_length l.nodes parts.0, some_length l.states parts.1))

pub grown : (p : Progress) (t : LineTree) (q : Progress) → add p t ≡ Some q → Grown p t q
grown fresh head_line q e =
    subst (Grown fresh head_line) (same_Some (going empty_listing) q e) (record { lines = refl; names = refl; in_order = λ h k. refl })
grown fresh _ q e = absurd (none-some q e)
grown (going l) t q e =
    let found = cond_some (may_stand l t) (progress_with l t) q e in subst (Grown (going l) t) found.1 (grows l t found.0)
grown (done l) t q e = absurd (none-some q e)

-- what lines one after another change
pub grown_all : (ts : List LineTree) (p q : Progress) → add_all ts p ≡ Some q →
    (lines_so_far q ≡ lines_so_far p ++ ts) × (declared (listing_of q) ≡ declared (listing_of p) ++ flat_map declares ts)
    × (IsInOrder p → IsInOrder q)
grown_all [] p q e = subst (λ (r : Progress). (lines_so_far r ≡ lines_so_far p ++ [])
    × (declared (listing_of r) ≡ declared (listing_of p) ++ []) × (IsInOrder p → IsInOrder r)) (same_Some p q e)
    (sym (append-nil (lines_so_far p)), sym (append-nil (declared (listing_of p))), λ h. h)
grown_all (t ∷ ts) p q e =
    let found = and_then_some (add p t) (add_all ts) q e in
    let one = grown p t found.0 found.1 in
    let more = grown_all ts found.0 q found.2 in (
      more.0 ∙ ap (λ (xs : List LineTree). xs ++ ts) one.lines ∙ append_assoc (lines_so_far p) (t ∷ []) ts,
      more.1 ∙ ap (λ (ns : List Name). ns ++ flat_map declares ts) one.names
          ∙ append_assoc (declared (listing_of p)) (declares t) (flat_map declares ts),
      λ h. more.2 (one.in_order h),
    )
