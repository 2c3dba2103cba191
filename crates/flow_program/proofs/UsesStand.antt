-- Each use of a name in a listing is that of a name that stands in the text, and the text has two bytes for each, and one for each
-- line besides: one walk along the pieces of the lines.
use Rattle.std.proofs.Common.{◌≡◌, ℕ, suc, ◌+◌, ◌*◌, ◌≤◌, true, List, [], ◌∷◌, ◌++◌, length, map, refl, ap, sym, subst}
use Rattle.std.proofs.Common.{◌∙◌}
use Rattle.std.proofs.Common.{arith, rules, length-append, append_assoc}
use Rattle.std.specs.Prelude.{codes, decimal, flat_map, Option, Some, None}
use Rattle.std.specs.List.{list_all, AllByRecursion}
use Rattle.std.proofs.lemmas.Bool.{and_parts}
use Rattle.std.proofs.lemmas.Grind.{flat_map-append}
use Rattle.std.proofs.lemmas.List.{append-nil}
use Rattle.base_library.proofs.Each.{each_joined, each_weaker}
use Rattle.base_library.proofs.Passes.{list_all_parts, list_all_from_each}
use Rattle.tsl_text.specs.Names.{is_usable}
use Rattle.tsl_terms.specs.declared.names.NameKind.TheVariants.{Function, Predicate}
use Rattle.program_listing.specs.declared.listing.Name.{Name}
use Rattle.program_listing.specs.LineText.{Piece, word, named, argument_pieces, surface_pieces, surfaces_pieces, LineTree, input, cell}
use Rattle.program_listing.specs.LineText.{output}
use Rattle.program_listing.specs.LineText.{window, node, update_pieces, set_pieces, listed_pieces, placed_pieces, equated_pieces}
use Rattle.program_listing.specs.LineText.{left_pieces}
use Rattle.program_listing.specs.LineText.{line_pieces, ended_pieces, node_lines, state_lines, listing_lines}
use Rattle.program_listing.specs.Listing.{SurfaceTermTree, bare, applied, SurfaceTermTrees, no_surfaces, more_surfaces, count_of_surfaces, UpdateLine}
use Rattle.program_listing.specs.Listing.{ListedLine, PlacedLine, WindowLine, NodeLine, branch_line, assignment_line, ListingTree}
use Rattle.program_listing.specs.Listing.{name_bytes}
use Rattle.program_listing.specs.Listing.{IsListing}
use Rattle.program_listing.specs.internal.NamesStand.{name_stands}
use Rattle.program_listing.proofs.ListingFacts.{piece_stands, pieces_stand, pieces_text, pieces_in}
use Rattle.flow_program.specs.Uses.{ProgramUse, read_use, tested_use, applied_use, signal_use, term_uses, terms_uses, test_uses}
use Rattle.flow_program.specs.Uses.{update_uses}
use Rattle.flow_program.specs.Uses.{listed_uses, placed_uses, left_uses, window_uses, node_uses, line_uses, declared_uses}
use Rattle.flow_program.specs.Uses.{nodes_uses}
use Rattle.flow_program.specs.Uses.{first_declaration, first_window, first_node, first_state, uses_of}
use Rattle.flow_program.proofs.UseLemmas.{declared_append}

-- so many bytes at least are spelled by pieces whose names stand
abbrev pub least : List Piece → ℕ
least [] = 0
least (word w ∷ ps) = length w + least ps
least (named n ∷ ps) = suc (least ps)

least_append : (ps qs : List Piece) → least (ps ++ qs) ≡ least ps + least qs
least_append [] qs = omega arith
least_append (word w ∷ ps) qs = omega (arith, least_append ps qs)
least_append (named n ∷ ps) qs = omega (arith, least_append ps qs)

module _ (text : List ℕ) where
  -- a use is that of a name that stands in the text
  abbrev pub UseStands : ProgramUse → Type 0
  UseStands u = (name_stands text u.place ≡ true) × (u.name.text ≡ name_bytes text u.place)

  -- The uses are those of the pieces' names, and with so many more the pieces have two bytes for each use, if so many were left.
  record PiecesUse (us : List ProgramUse) (ps : List Piece) (more less : ℕ) : Type 0 where
    pub each : pieces_stand text ps ≡ true → AllByRecursion UseStands us
    pub enough : 2 * length us + more ≤ least ps + less

  no_piece : PiecesUse [] [] 0 0
  no_piece = record { each = λ h. tt; enough = omega arith }

  after_word : (w : List ℕ) {us : List ProgramUse} {ps : List Piece} {more less : ℕ} → PiecesUse us ps more less →
      PiecesUse us (word w ∷ ps) (length w + more) less
  after_word w r = record { each = λ h. r.each h; enough = omega (arith, r.enough) }

  after_name : (u : ProgramUse) → u.name.text ≡ name_bytes text u.place → {us : List ProgramUse} {ps : List Piece} {more less : ℕ} →
      PiecesUse us ps more less → PiecesUse (u ∷ us) (named u.place ∷ ps) more (suc less)
  after_name u is {ps = ps} r = record {
    each = λ h. let parts = and_parts (name_stands text u.place) (pieces_stand text ps) h in ((parts.0, is), r.each parts.1);
    enough = omega (arith, r.enough);
  }

  joined : {us vs : List ProgramUse} {ps qs : List Piece} {more less more' less' : ℕ} → PiecesUse us ps more less →
      PiecesUse vs qs more' less' → PiecesUse (us ++ vs) (ps ++ qs) (more + more') (less + less')
  joined {us = us} {vs = vs} {ps = ps} {qs = qs} r s = record {
    each = λ h. let parts = list_all_parts (piece_stands text) ps qs h in each_joined UseStands us vs (r.each parts.0) (s.each parts.1);
    enough = omega (arith, r.enough, s.enough, length-append us vs, least_append ps qs);
  }

  regrouped : {us vs : List ProgramUse} {ps : List Piece} {more less : ℕ} → PiecesUse us ps more less → us ≡ vs → PiecesUse vs ps more less
  regrouped {ps = ps} {more = more} {less = less} r same = subst (λ us. PiecesUse us ps more less) same r

  -- pieces without a name behind
  closed : {us : List ProgramUse} {ps qs : List Piece} {more less more' less' : ℕ} → PiecesUse us ps more less →
      PiecesUse [] qs more' less' → PiecesUse us (ps ++ qs) (more + more') (less + less')
  closed {us = us} r s = regrouped (joined r s) (append-nil us)

  weaker : {us : List ProgramUse} {ps : List Piece} {more less : ℕ} (more' less' : ℕ) → PiecesUse us ps more less →
      more' + less ≤ more + less' → PiecesUse us ps more' less'
  weaker more' less' r h = record { each = r.each; enough = omega (arith, r.enough, h) }

  many : {X : Type 0} (uses : X → List ProgramUse) (pieces : X → List Piece) → ((x : X) → PiecesUse (uses x) (pieces x) 0 0) →
      (xs : List X) → PiecesUse (flat_map uses xs) (flat_map pieces xs) 0 0
  many uses pieces each [] = no_piece
  many uses pieces each (x ∷ xs) = joined (each x) (many uses pieces each xs)

  module _ (line : ℕ) where
    -- ---- terms and tests

    argument_use : (p : SurfaceTermTree) → PiecesUse (term_uses text line p) (surface_pieces p) 0 1 →
        PiecesUse (term_uses text line p) (argument_pieces p (surface_pieces p)) 0 1
    argument_use (bare at) r = r
    argument_use (applied at no_surfaces) r = r
    argument_use (applied at (more_surfaces p ps)) r =
        weaker 0 1 (after_word (codes "(") (closed r (after_word (codes ")") no_piece))) (omega arith)

    mutual
      term_use : (p : SurfaceTermTree) → PiecesUse (term_uses text line p) (surface_pieces p) 0 1
      term_use (bare at) = after_name (read_use text line at) refl no_piece
      term_use (applied at no_surfaces) =
          weaker 0 1 (after_name (applied_use text line Function at 0) refl (after_word (codes "()") no_piece)) (omega arith)
      term_use (applied at (more_surfaces p ps)) =
          after_name (applied_use text line Function at (count_of_surfaces (more_surfaces p ps))) refl (terms_use (more_surfaces p ps))

      terms_use : (ps : SurfaceTermTrees) → PiecesUse (terms_uses text line ps) (surfaces_pieces ps) 0 0
      terms_use no_surfaces = no_piece
      terms_use (more_surfaces p ps) =
          weaker 0 0 (after_word (codes " ") (joined (argument_use p (term_use p)) (terms_use ps))) (omega arith)

    test_use : (p : SurfaceTermTree) → PiecesUse (test_uses text line p) (surface_pieces p) 0 1
    test_use (bare at) = after_name (tested_use text line at) refl no_piece
    test_use (applied at no_surfaces) =
        weaker 0 1 (after_name (applied_use text line Predicate at 0) refl (after_word (codes "()") no_piece)) (omega arith)
    test_use (applied at (more_surfaces p ps)) =
        after_name (applied_use text line Predicate at (count_of_surfaces (more_surfaces p ps))) refl (terms_use (more_surfaces p ps))

    -- ---- lines

    update_use : (s : Name) (t : SurfaceTermTree) → PiecesUse (signal_use text line s ∷ term_uses text line t) (update_pieces s t) 0 0
    update_use s t =
        weaker 0 0 (after_word (codes "[") (after_name (signal_use text line s) refl (after_word (codes " <- ")
        (closed (term_use t) (after_word (codes "]") no_piece))))) (omega arith)

    set_use : (u : UpdateLine) → PiecesUse (update_uses text line u) (set_pieces u) 0 0
    set_use u = weaker 0 0 (after_word (codes " ") (update_use u.signal u.term)) (omega arith)

    listed_use : (u : ListedLine) → PiecesUse (listed_uses text line u) (listed_pieces u) 0 0
    listed_use u =
        weaker 0 0 (after_word (codes " when ") (closed (update_use u.signal u.term)
        (after_word (codes " at ") (after_word (decimal u.offset) no_piece)))) (omega arith)

    placed_use : (t : PlacedLine) → PiecesUse (placed_uses text line t) (placed_pieces t) 0 0
    placed_use t =
        weaker 0 0 (closed (test_use t.test) (after_word (codes " at ") (after_word (decimal t.step) no_piece))) (omega arith)

    equated_use : (e : PlacedLine) → PiecesUse (placed_uses text line e) (equated_pieces e) 0 0
    equated_use e = weaker 0 0 (after_word (codes " when ") (placed_use e)) (omega arith)

    left_use : (left : Option PlacedLine) → PiecesUse (left_uses text line left) (left_pieces left) 0 0
    left_use None = weaker 0 0 (after_word (codes "true is ") no_piece) (omega arith)
    left_use (Some t) = weaker 0 0 (closed (placed_use t) (after_word (codes " is ") no_piece)) (omega arith)

    -- a line has its line feed besides
    window_use : (w : WindowLine) → PiecesUse (window_uses text line w) (ended_pieces (window w)) 1 0
    window_use w =
        weaker 1 0 (closed (after_word (codes "window ") (regrouped (joined (left_use w.left) (joined (placed_use w.right)
        (joined (many (listed_uses text line) listed_pieces listed_use w.updates)
        (many (placed_uses text line) equated_pieces equated_use w.equalities)))) (simp append_assoc)))
        (after_word (codes "\n") no_piece)) (omega arith)

    node_use : (number : ℕ) (n : NodeLine) → PiecesUse (node_uses text line n) (ended_pieces (node number n)) 1 0
    node_use number (branch_line test a b) =
        weaker 1 0 (closed (after_word (codes "node ") (after_word (decimal number) (after_word (codes " if ") (closed (test_use test)
        (after_word (codes " then ") (after_word (decimal a) (after_word (codes " else ") (after_word (decimal b) no_piece))))))))
        (after_word (codes "\n") no_piece)) (omega arith)
    node_use number (assignment_line us go) =
        weaker 1 0 (closed (after_word (codes "node ") (after_word (decimal number) (after_word (codes " set")
        (closed (many (update_uses text line) set_pieces set_use us)
        (after_word (codes " go ") (after_word (decimal go) no_piece))))))
        (after_word (codes "\n") no_piece)) (omega arith)

  -- ---- all lines

  lines_use : {X : Type 0} (uses : ℕ → X → List ProgramUse) (make : X → LineTree) →
      ((line : ℕ) (x : X) → PiecesUse (uses line x) (ended_pieces (make x)) 1 0) → (line : ℕ) (xs : List X) →
      PiecesUse (line_uses uses line xs) (flat_map ended_pieces (map make xs)) (length xs) 0
  lines_use uses make each line [] = no_piece
  lines_use uses make each line (x ∷ xs) =
      weaker (length (x ∷ xs)) 0 (joined (each line x) (lines_use uses make each (suc line) xs)) (omega arith)

  declared_use : (w : List ℕ) (make : Name → LineTree) → 1 ≤ length w → ((n : Name) → line_pieces (make n) ≡ word w ∷ named n ∷ []) →
      (line : ℕ) (ds : List Name) → PiecesUse (declared_uses text line ds) (flat_map ended_pieces (map make ds)) (length ds) 0
  declared_use w make some is =
      lines_use (λ line at. signal_use text line at ∷ []) make (λ line at.
      subst (λ ps. PiecesUse (signal_use text line at ∷ []) (ps ++ word (codes "\n") ∷ []) 1 0) (sym (is at))
      (weaker 1 0 (after_word w (after_name (signal_use text line at) refl (after_word (codes "\n") no_piece))) (omega (arith, some))))

  nodes_use : (line number : ℕ) (ns : List NodeLine) →
      PiecesUse (nodes_uses text line ns) (flat_map ended_pieces (node_lines number ns)) (length ns) 0
  nodes_use line number [] = no_piece
  nodes_use line number (n ∷ ns) =
      weaker (length (n ∷ ns)) 0 (joined (node_use line number n) (nodes_use (suc line) (suc number) ns)) (omega arith)

  states_use : (number : ℕ) (is : List ℕ) → PiecesUse [] (flat_map ended_pieces (state_lines number is)) (length is) 0
  states_use number [] = no_piece
  states_use number (i ∷ is) =
      weaker (length (i ∷ is)) 0 (after_word (codes "state ") (after_word (decimal number) (after_word (codes " at ")
      (after_word (decimal i) (after_word (codes "\n") (states_use (suc number) is)))))) (omega arith)

  lines_joined : (xs ys : List LineTree) {us vs : List ProgramUse} {more more' : ℕ} → PiecesUse us (flat_map ended_pieces xs) more 0 →
      PiecesUse vs (flat_map ended_pieces ys) more' 0 → PiecesUse (us ++ vs) (flat_map ended_pieces (xs ++ ys)) (more + more') 0
  lines_joined xs ys {us = us} {vs = vs} {more = more} {more' = more'} r s =
      subst (λ ps. PiecesUse (us ++ vs) ps (more + more') 0) (sym (flat_map-append ended_pieces xs ys)) (joined r s)

  whole : (l : ListingTree) →
      PiecesUse (uses_of text l) (flat_map ended_pieces (listing_lines l)) (first_state l + length l.states) 0
  whole l =
      let line = first_declaration in
      let outputs_at = line + length l.inputs + length l.cells in
      regrouped (weaker (first_state l + length l.states) 0 (after_word (codes "tslprogram 1") (after_word (codes "\n")
      (lines_joined _ _ (declared_use (codes "input ") input (omega arith) (λ n. refl) line l.inputs)
      (lines_joined _ _ (declared_use (codes "cell ") cell (omega arith) (λ n. refl) (line + length l.inputs) l.cells)
      (lines_joined _ _ (declared_use (codes "output ") output (omega arith) (λ n. refl) outputs_at l.outputs)
      (lines_joined _ _ (lines_use (window_uses text) window window_use (first_window l) l.windows)
      (lines_joined _ _ (nodes_use (first_node l) 0 l.nodes)
      (lines_joined _ _ (states_use 0 l.states)
      (weaker 0 0 (after_word (codes "end") (after_word (codes "\n") no_piece)) (omega arith))))))))))
      (omega (arith, length-append (l.inputs ++ l.cells) l.outputs, length-append l.inputs l.cells)))
      (simp (declared_append, append_assoc, append-nil))

  -- ---- what follows

  pub uses_stand : (l : ListingTree) → IsListing text l → AllByRecursion UseStands (uses_of text l)
  uses_stand l h = (whole l).each (pieces_in text l h).stand

  usable : (u : ProgramUse) → UseStands u → is_usable u.name.text ≡ true
  usable u stands = ap is_usable stands.1 ∙ (and_parts _ (is_usable (name_bytes text u.place)) stands.0).1

  pub uses_usable : (l : ListingTree) → IsListing text l → list_all (λ u. is_usable u.name.text) (uses_of text l) ≡ true
  uses_usable l h =
      list_all_from_each (λ u. is_usable u.name.text) (uses_of text l)
      (each_weaker UseStands (λ u. is_usable u.name.text ≡ true) usable (uses_of text l) (uses_stand l h))

  has_byte : (bytes : List ℕ) → is_usable bytes ≡ true → 1 ≤ length bytes
  has_byte [] h = absurd (cc)
  has_byte (b ∷ bs) h = omega arith

  least_bytes : (ps : List Piece) → pieces_stand text ps ≡ true → least ps ≤ length (pieces_text text ps)
  least_bytes [] h = omega arith
  least_bytes (word w ∷ ps) h = omega (arith, least_bytes ps h, length-append w (pieces_text text ps))
  least_bytes (named n ∷ ps) h =
      let parts = and_parts (name_stands text n) (pieces_stand text ps) h in
      let usable : is_usable (name_bytes text n) ≡ true = search rules in
      omega (arith, has_byte (name_bytes text n) usable, least_bytes ps parts.1, length-append (name_bytes text n) (pieces_text text ps))

  -- two bytes for each use of a name, and one for each line
  pub uses_and_lines : (l : ListingTree) → IsListing text l → 2 * length (uses_of text l) + (first_state l + length l.states) ≤ length text
  uses_and_lines l h =
      let pieces = flat_map ended_pieces (listing_lines l) in
      let here = pieces_in text l h in
      omega (arith, (whole l).enough, least_bytes pieces here.stand, ap length here.spelled, length-append (pieces_text text pieces) [])
