-- The lines of program texts are read exactly.
use Rattle.std.proofs.Common.{◌≡◌, ℕ, ◌+◌, ◌<◌, ◌^◌, Bool, true, false, not, ◌&&◌, List, [], ◌∷◌, ◌++◌, flat_map, codes, cond, decimal}
use Rattle.std.proofs.Common.{Option, Some, None, option_and_then, IfSome, IsTrue, refl, sym, ap, subst, ◌∙◌, arith}
use Rattle.std.specs.Char.{is_ascii_digit}
use Rattle.std.specs.List.{list_all}
use Rattle.std.specs.Option.{is_some}
use Rattle.std.proofs.lemmas.Bool.{and_parts, ne_eqb, false≢true}
use Rattle.std.proofs.lemmas.Option.{none-some, same_Some}
use Rattle.tsl_text.specs.Lines.{has_bytes}
use Rattle.tsl_text.specs.Names.{is_name_start, is_name_byte}
use Rattle.line_formats.proofs.FormatLaws.{and_then_some}
use Rattle.program_listing.specs.ListingTree.{SurfaceTermTree, UpdateLine, ListedLine, PlacedLine, WindowLine, NodeLine, branch_line}
use Rattle.program_listing.specs.ListingTree.{assignment_line}
use Rattle.program_listing.specs.LineText.{Piece, word, Place, Stand, surface_pieces, LineTree, head_line, input, cell, output, window}
use Rattle.program_listing.specs.LineText.{node, state, end_line, update_pieces, set_pieces, listed_pieces, placed_pieces, equated_pieces}
use Rattle.program_listing.specs.LineText.{left_pieces, window_pieces, node_pieces, line_pieces, is_short, is_shallow, listed_is_within}
use Rattle.program_listing.specs.LineText.{placed_is_within, left_is_within, window_is_within, node_is_within, line_is_within}
use Rattle.program_listing.specs.internal.LineReading.{Shrinks, mapped, nothing, closed, either, value_at_end, begins, update, is_square}
use Rattle.program_listing.specs.internal.LineReading.{update_follows, as_update, set_update, as_listed, listed, listed_follows, as_placed}
use Rattle.program_listing.specs.internal.LineReading.{placed, equated, left_side, as_window, window_rest, as_branch, branch_parts}
use Rattle.program_listing.specs.internal.LineReading.{as_assignment, assignment_parts, node_rest, as_node, as_state, numbered_node}
use Rattle.program_listing.specs.internal.LineReading.{numbered_state, line, read_line}
use Rattle.program_listing.proofs.Strips.{past_none}
use Rattle.program_listing.proofs.Standing.{stand_split}
use Rattle.program_listing.proofs.Exactly.{ReadAt, Reads, Any, if_mapped, at_front, nothing_reads, prefixed_reads, closed_reads}
use Rattle.program_listing.proofs.Exactly.{mapped_reads, either_sound, shrinks, pair_reads, repeat_reads}
use Rattle.program_listing.proofs.Numbers.{FirstDigit, first_digit}
use Rattle.program_listing.proofs.WordsRead.{NoDigit, number_pieces, short_below, name_reads, number_reads}
use Rattle.program_listing.proofs.SurfaceTermsRead.{EndsSurfaceTerm, surface_letter, surface_reads}

-- ---- what follows a test

-- a word with a space before and after it, and a number
number_ends : (w : List ℕ) → ((d : ℕ) (rest : List ℕ) → is_ascii_digit d ≡ true → EndsSurfaceTerm (w ++ d ∷ rest)) → (n : ℕ) (p q : Place) →
    Stand (word w ∷ number_pieces n) p q → IsTrue (is_short n) → EndsSurfaceTerm p.bytes
number_ends w ends n p q s good =
    let below : n < 10 ^ 18 = short_below n good in
    let digit : FirstDigit (decimal n) = first_digit n (omega (arith, below)) in
    subst EndsSurfaceTerm
    (sym (s.1 ∙ ap (λ (zs : List ℕ). w ++ zs) (s.2.1 ∙ ap (λ (zs : List ℕ). zs ++ s.2.0) digit.is)))
    (ends digit.first (digit.rest ++ s.2.0) digit.digit)

at_ends : (n : ℕ) (p q : Place) → Stand (word (codes " at ") ∷ number_pieces n) p q → IsTrue (is_short n) → EndsSurfaceTerm p.bytes
at_ends = number_ends (codes " at ") (λ d rest h. (ap not h, record { no_letter = refl; no_open = refl; no_number = refl }))

then_ends : (n : ℕ) (p q : Place) → Stand (word (codes " then ") ∷ number_pieces n) p q → IsTrue (is_short n) → EndsSurfaceTerm p.bytes
then_ends = number_ends (codes " then ") (λ d rest h. (ap not h, record { no_letter = refl; no_open = refl; no_number = refl }))

-- ---- updates

update_reads : Reads update (λ u. update_pieces u.0 u.1) (λ u. is_shallow u.1) Any
update_reads =
    closed_reads (codes "]") (λ rest. (refl, record { no_letter = refl; no_open = refl; no_number = refl }))
    (pair_reads (λ t p q s good ends. ap (begins is_name_byte) s.1) (prefixed_reads (codes "[") name_reads)
    (prefixed_reads (codes " <- ") surface_reads))

set_reads : Reads set_update set_pieces (λ u. is_shallow u.term) Any
set_reads =
    mapped_reads as_update (λ (u : UpdateLine). (u.signal, u.term)) (λ u. refl) (λ u good. refl) (λ u. refl)
    (prefixed_reads (codes " ") update_reads)

pub set_shrinks : Shrinks set_update
set_shrinks = shrinks 32 [] (λ u. update_pieces u.signal u.term) set_reads

listed_reads : Reads listed listed_pieces listed_is_within NoDigit
listed_reads =
    mapped_reads as_listed (λ (u : ListedLine). ((u.signal, u.term), u.offset)) (λ u. refl) (λ u good. refl) (λ u. refl)
    (prefixed_reads (codes " when ") (pair_reads (λ n p q s good ends. tt) update_reads (prefixed_reads (codes " at ") number_reads)))

pub listed_shrinks : Shrinks listed
listed_shrinks =
    shrinks 32 (codes "when ") (λ u. update_pieces u.signal u.term ++ word (codes " at ") ∷ number_pieces u.offset) listed_reads

-- ---- windows

abbrev pub AtEnd : List ℕ → Type 0
AtEnd bytes = bytes ≡ []

placed_reads : Reads placed placed_pieces placed_is_within NoDigit
placed_reads =
    mapped_reads as_placed (λ (t : PlacedLine). (t.test, t.step)) (λ t. refl) (λ t good. refl) (λ t. refl)
    (pair_reads (λ n p q s good ends. at_ends n p q s good) surface_reads (prefixed_reads (codes " at ") number_reads))

equated_reads : Reads equated equated_pieces placed_is_within NoDigit
equated_reads = prefixed_reads (codes " when ") placed_reads

pub equated_shrinks : Shrinks equated
equated_shrinks = shrinks 32 (codes "when ") placed_pieces equated_reads

-- `true` is no test
true_is_no_test : (at : ℕ) (rest : List ℕ) → closed (codes " is ") placed (record { at = at; bytes = codes "true is " ++ rest }) ≡ None
true_is_no_test at rest = refl

left_reads : Reads left_side left_pieces left_is_within Any
left_reads = record { sound = sound; complete = complete } where
  before_right : Reads (closed (codes " is ") placed) (λ t. placed_pieces t ++ word (codes " is ") ∷ []) placed_is_within Any
  before_right = closed_reads (codes " is ") (λ rest. refl) placed_reads

  sound : (p : Place) → IfSome (left_side p) (ReadAt left_pieces left_is_within p)
  sound p =
      either_sound _ _ (codes "true is ") nothing_reads (λ u. None) (λ u. refl) (λ u. refl) p _
      (if_mapped _ (closed (codes " is ") placed p) _ (before_right.sound p) (λ r s. s))

  complete : (p : Place) (v : Option PlacedLine) (q : Place) → Stand (left_pieces v) p q → IsTrue (left_is_within v) → Any q.bytes →
      left_side p ≡ Some (v, q)
  complete p None q s good ends = at_front left_side p (codes "true is " ++ s.0) _ s.1 (ap (λ (x : Place). Some (None, x)) s.2)
  complete p (Some t) q s good ends =
      ap (λ (o : Option Place). either o (nothing None) (mapped Some (closed (codes " is ") placed p)))
      (past_none (codes "true is ") p (λ rest e. none-some (t, q)
      (sym (at_front (closed (codes " is ") placed) p _ _ e (true_is_no_test p.at rest)) ∙ read)))
      ∙ ap (mapped Some) read
    where
      read : closed (codes " is ") placed p ≡ Some (t, q)
      read = before_right.complete p t q s good tt

-- what follows the updates that a window lists: no other one
abbrev AfterUpdates : List ℕ → Type 0
AfterUpdates bytes = (listed_follows bytes ≡ false) × NoDigit bytes

letter_no_square : (c : ℕ) (cs : List ℕ) → IsTrue (is_name_start c) → listed_follows (codes " when " ++ c ∷ cs) ≡ false
letter_no_square c cs letter =
    ap (λ (b : Bool). is_some (cond b (Some cs) None)) (ne_eqb 91 c (λ e. false≢true (ap is_name_start e ∙ letter)))

equated_follow : (es : List PlacedLine) (p q : Place) → Stand (flat_map equated_pieces es) p q → AtEnd q.bytes → AfterUpdates p.bytes
equated_follow [] p q s ends =
    let nothing : p.bytes ≡ [] = ap (λ (x : Place). x.bytes) s ∙ ends in
    (ap listed_follows nothing, ap (begins is_ascii_digit) nothing)
equated_follow (e ∷ es) p q s ends =
    let m : Place = record { at = p.at + 6; bytes = s.0 } in
    let first = stand_split (placed_pieces e) (flat_map equated_pieces es) m q s.2 in
    let test = stand_split (surface_pieces e.test) (word (codes " at ") ∷ number_pieces e.step) m first.0 first.1 in
    let letter = surface_letter e.test m test.0 test.1 in (
      ap listed_follows (s.1 ∙ ap (λ (zs : List ℕ). codes " when " ++ zs) letter.2) ∙ letter_no_square letter.0 letter.1 letter.3,
      ap (begins is_ascii_digit) s.1,
    )

updates_follow : (us : List ListedLine) (es : List PlacedLine) (p q : Place) →
    Stand (flat_map listed_pieces us ++ flat_map equated_pieces es) p q → AtEnd q.bytes → NoDigit p.bytes
updates_follow [] es p q s ends = (equated_follow es p q s ends).1
updates_follow (u ∷ us) es p q s ends = ap (begins is_ascii_digit) s.1

window_reads : Reads window_rest window_pieces window_is_within AtEnd
window_reads =
    mapped_reads as_window (λ (w : WindowLine). (w.left, (w.right, (w.updates, w.equalities)))) (λ w. refl) (λ w good. refl) (λ w. refl)
    (pair_reads (λ v p q s good ends. tt) left_reads
    (pair_reads (λ v p q s good ends. updates_follow v.0 v.1 p q s ends) placed_reads
    (pair_reads {Between = AfterUpdates} (λ es p q s good ends. equated_follow es p q s ends)
    (repeat_reads listed_follows listed_reads listed_shrinks
    (λ u p q s good ends. (
      ap listed_follows s.1 ∙ ap (λ (zs : List ℕ). listed_follows (codes " when " ++ zs)) s.2.1,
      ap (begins is_ascii_digit) s.1,
    ))
    (λ bytes ends. ends))
    (repeat_reads has_bytes equated_reads equated_shrinks
    (λ e p q s good ends. (ap has_bytes s.1, ap (begins is_ascii_digit) s.1))
    (λ bytes ends. (ap has_bytes ends, ap (begins is_ascii_digit) ends))))))

-- ---- nodes

abbrev branch_pieces : SurfaceTermTree × (ℕ × ℕ) → List Piece
branch_pieces b = surface_pieces b.0 ++ word (codes " then ") ∷ word (decimal b.1.0) ∷ word (codes " else ") ∷ number_pieces b.1.1

branch_reads : Reads branch_parts branch_pieces (λ b. is_shallow b.0 && (is_short b.1.0 && is_short b.1.1)) NoDigit
branch_reads =
    pair_reads then_first surface_reads
    (pair_reads (λ n p q s good ends. ap (begins is_ascii_digit) s.1) (prefixed_reads (codes " then ") number_reads)
    (prefixed_reads (codes " else ") number_reads))
  where
    then_first : (v : ℕ × ℕ) (p q : Place) →
        Stand (word (codes " then ") ∷ word (decimal v.0) ∷ word (codes " else ") ∷ number_pieces v.1) p q →
        IsTrue (is_short v.0 && is_short v.1) → NoDigit q.bytes → EndsSurfaceTerm p.bytes
    then_first v p q s good ends =
        let parts = stand_split (word (codes " then ") ∷ number_pieces v.0) (word (codes " else ") ∷ number_pieces v.1) p q s in
        then_ends v.0 p parts.0 parts.1 (and_parts (is_short v.0) (is_short v.1) good).0

abbrev assignment_pieces : List UpdateLine × ℕ → List Piece
assignment_pieces a = flat_map set_pieces a.0 ++ word (codes " go ") ∷ number_pieces a.1

abbrev NoUpdate : List ℕ → Type 0
NoUpdate bytes = update_follows bytes ≡ false

assignment_reads : Reads assignment_parts assignment_pieces (λ a. list_all (λ u. is_shallow u.term) a.0 && is_short a.1) NoDigit
assignment_reads =
    pair_reads {Between = NoUpdate} (λ n p q s good ends. ap update_follows s.1)
    (repeat_reads update_follows set_reads set_shrinks
    (λ u p q s good ends. (ap update_follows s.1 ∙ ap (begins is_square) s.2.1, tt))
    (λ bytes ends. (ends, tt)))
    (prefixed_reads (codes " go ") number_reads)

node_reads : Reads node_rest node_pieces node_is_within NoDigit
node_reads = record { sound = sound; complete = complete } where
  sound : (p : Place) → IfSome (node_rest p) (ReadAt node_pieces node_is_within p)
  sound p =
      either_sound _ _ (codes " if ") branch_reads as_branch (λ b. refl) (λ b. refl) p _
      (either_sound _ _ (codes " set") assignment_reads as_assignment (λ a. refl) (λ a. refl) p _ tt)

  complete : (p : Place) (n : NodeLine) (q : Place) → Stand (node_pieces n) p q → IsTrue (node_is_within n) → NoDigit q.bytes →
      node_rest p ≡ Some (n, q)
  complete p (branch_line test then_node else_node) q s good ends =
      at_front node_rest p (codes " if " ++ s.0) _ s.1
      (ap (mapped as_branch) (branch_reads.complete (record { at = p.at + 4; bytes = s.0 }) (test, (then_node, else_node)) q s.2 good ends))
  complete p (assignment_line updates go) q s good ends =
      at_front node_rest p (codes " set" ++ s.0) _ s.1
      (ap (mapped as_assignment) (assignment_reads.complete (record { at = p.at + 4; bytes = s.0 }) (updates, go) q s.2 good ends))

numbered_node_reads : Reads numbered_node (λ n. word (decimal n.0) ∷ node_pieces n.1) (λ n. is_short n.0 && node_is_within n.1) NoDigit
numbered_node_reads = pair_reads follows number_reads node_reads where
  follows : (n : NodeLine) (p q : Place) → Stand (node_pieces n) p q → IsTrue (node_is_within n) → NoDigit q.bytes → NoDigit p.bytes
  follows (branch_line test then_node else_node) p q s good ends = ap (begins is_ascii_digit) s.1
  follows (assignment_line updates go) p q s good ends = ap (begins is_ascii_digit) s.1

numbered_state_reads : Reads numbered_state (λ n. word (decimal n.0) ∷ word (codes " at ") ∷ number_pieces n.1)
    (λ n. is_short n.0 && is_short n.1) NoDigit
numbered_state_reads =
    pair_reads (λ n p q s good ends. ap (begins is_ascii_digit) s.1) number_reads (prefixed_reads (codes " at ") number_reads)

-- ---- whole lines

line_reads : Reads line line_pieces line_is_within AtEnd
line_reads = record { sound = sound; complete = complete } where
  sound : (p : Place) → IfSome (line p) (ReadAt line_pieces line_is_within p)
  sound p =
      either_sound _ _ (codes "input ") name_reads input (λ n. refl) (λ n. refl) p _
      (either_sound _ _ (codes "cell ") name_reads cell (λ n. refl) (λ n. refl) p _
      (either_sound _ _ (codes "output ") name_reads output (λ n. refl) (λ n. refl) p _
      (either_sound _ _ (codes "window ") window_reads window (λ w. refl) (λ w. refl) p _
      (either_sound _ _ (codes "node ") numbered_node_reads as_node (λ n. refl) (λ n. refl) p _
      (either_sound _ _ (codes "state ") numbered_state_reads as_state (λ n. refl) (λ n. refl) p _
      (either_sound _ _ (codes "tslprogram 1") nothing_reads (λ u. head_line) (λ u. refl) (λ u. refl) p _
      (either_sound _ _ (codes "end") nothing_reads (λ u. end_line) (λ u. refl) (λ u. refl) p _ tt)))))))

  complete : (p : Place) (t : LineTree) (q : Place) → Stand (line_pieces t) p q → IsTrue (line_is_within t) → AtEnd q.bytes →
      line p ≡ Some (t, q)
  complete p (input n) q s good ends =
      at_front line p (codes "input " ++ s.0) _ s.1 (ap (mapped input) (name_reads.complete _ n q s.2 refl (ap (begins is_name_byte) ends)))
  complete p (cell n) q s good ends =
      at_front line p (codes "cell " ++ s.0) _ s.1 (ap (mapped cell) (name_reads.complete _ n q s.2 refl (ap (begins is_name_byte) ends)))
  complete p (output n) q s good ends =
      at_front line p (codes "output " ++ s.0) _ s.1
      (ap (mapped output) (name_reads.complete _ n q s.2 refl (ap (begins is_name_byte) ends)))
  complete p (window w) q s good ends =
      at_front line p (codes "window " ++ s.0) _ s.1 (ap (mapped window) (window_reads.complete _ w q s.2 good ends))
  complete p (node i n) q s good ends =
      at_front line p (codes "node " ++ s.0) _ s.1
      (ap (mapped as_node) (numbered_node_reads.complete _ (i, n) q s.2 good (ap (begins is_ascii_digit) ends)))
  complete p (state i n) q s good ends =
      at_front line p (codes "state " ++ s.0) _ s.1
      (ap (mapped as_state) (numbered_state_reads.complete _ (i, n) q s.2 good (ap (begins is_ascii_digit) ends)))
  complete p head_line q s good ends =
      at_front line p (codes "tslprogram 1" ++ s.0) _ s.1 (ap (λ (x : Place). Some (head_line, x)) s.2)
  complete p end_line q s good ends = at_front line p (codes "end" ++ s.0) _ s.1 (ap (λ (x : Place). Some (end_line, x)) s.2)

-- the place is the beginning of this line, and nothing is left after it
pub record IsLineAt (p : Place) (t : LineTree) : Type 0 where
  pub end : Place
  pub stands : Stand (line_pieces t) p end
  pub ends : end.bytes ≡ []
  pub within : IsTrue (line_is_within t)

ended : (u t : LineTree) (bytes : List ℕ) → value_at_end u bytes ≡ Some t → (bytes ≡ []) × (u ≡ t)
ended u t [] e = (refl, same_Some u t e)
ended u t (b ∷ bs) e = absurd (none-some t e)

abbrev whole : LineTree × Place → Option LineTree
whole r = value_at_end r.0 r.1.bytes

-- what is read is the line
pub line_sound : (p : Place) (t : LineTree) → read_line p ≡ Some t → IsLineAt p t
line_sound p t e =
    let found = and_then_some (line p) whole t e in
    let read = found.0 in
    let is = subst (λ (o : Option (LineTree × Place)). IfSome o (ReadAt line_pieces line_is_within p)) found.1 (line_reads.sound p) in
    let last = ended read.0 t read.1.bytes found.2 in
    subst (IsLineAt p) last.1 (record { end = read.1; stands = is.0; ends = last.0; within = is.1 })

-- and the line is read
pub line_complete : (p : Place) (t : LineTree) → IsLineAt p t → read_line p ≡ Some t
line_complete p t l = ap (option_and_then whole) (line_reads.complete p t l.end l.stands l.within l.ends) ∙ ap (value_at_end t) l.ends
