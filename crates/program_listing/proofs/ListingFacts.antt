-- What a text says whose lines stand in it.
use Rattle.std.proofs.Common.{◌≡◌, ℕ, suc, ◌+◌, ◌-◌, ◌<◌, Bool, true, ◌&&◌, leb, List, [], ◌∷◌, ◌++◌, length, length-append, take, drop}
use Rattle.std.proofs.Common.{map, flat_map, codes, Option, Some, None, IsTrue, refl, sym, ap, ◌∙◌, append_assoc, arith}
use Rattle.std.specs.List.{list_all}
use Rattle.std.proofs.Math.Bool.{and-true}
use Rattle.std.proofs.Math.Seq.{take-append_seam, drop-append_seam}
use Rattle.std.proofs.lemmas.Bool.{and_parts, and_from, le-leb}
use Rattle.std.proofs.lemmas.List.Folds.{list_all-append, list_all-map}
use Rattle.base_library.proofs.Passes.{list_all_parts, list_all_joined}
use Rattle.tsl_text.specs.Names.{is_usable}
use Rattle.tsl_terms.specs.Name.{AreDistinct}
use Rattle.program_listing.specs.declared.listing.Name.{Name}
use Rattle.program_listing.specs.ListingTree.{SurfaceTermTree, bare, applied, SurfaceTermTrees, no_surfaces, more_surfaces, UpdateLine}
use Rattle.program_listing.specs.ListingTree.{ListedLine, PlacedLine, WindowLine, NodeLine, branch_line, assignment_line, ListingTree}
use Rattle.program_listing.specs.LineText.{Piece, word, named, Place, Stand, argument_pieces, surface_pieces, surfaces_pieces, LineTree}
use Rattle.program_listing.specs.LineText.{input, cell, output, window, node, end_line, update_pieces, set_pieces, listed_pieces}
use Rattle.program_listing.specs.LineText.{placed_pieces, equated_pieces, left_pieces, window_pieces, node_pieces, ended_pieces, is_shallow}
use Rattle.program_listing.specs.LineText.{is_short, listed_is_within, placed_is_within, left_is_within, window_is_within, node_is_within}
use Rattle.program_listing.specs.LineText.{line_is_within, node_lines, listing_lines}
use Rattle.program_listing.specs.Listing.{name_bytes, declared_entry, declared, IsListing}
use Rattle.program_listing.specs.internal.LineOrder.{from_states, from_nodes, from_windows, from_outputs, from_cells}
use Rattle.program_listing.specs.internal.NamesStand.{name_stands, surface_stands, surfaces_stand, is_surface, update_line_stands}
use Rattle.program_listing.specs.internal.NamesStand.{listed_line_stands, placed_line_stands, left_line_stands, window_line_stands}
use Rattle.program_listing.specs.internal.NamesStand.{node_line_stands, ListingStands}

-- ---- pieces in a text

abbrev pub piece_text : List ℕ → Piece → List ℕ
piece_text text (word w) = w
piece_text text (named n) = name_bytes text n

abbrev pub pieces_text : List ℕ → List Piece → List ℕ
pieces_text text xs = flat_map (piece_text text) xs

abbrev pub piece_stands : List ℕ → Piece → Bool
piece_stands text (word w) = true
piece_stands text (named n) = name_stands text n

abbrev pub pieces_stand : List ℕ → List Piece → Bool
pieces_stand text xs = list_all (piece_stands text) xs

pub record InText (text : List ℕ) (xs : List Piece) (p q : Place) : Type 0 where
  pub spelled : p.bytes ≡ pieces_text text xs ++ q.bytes
  pub stand : pieces_stand text xs ≡ true

-- a name that stands has its bytes, and lies within the text
named_in : (front name rest : List ℕ) → IsTrue (is_usable name) → (n : Name) →
    n ≡ record { start = length front; end = length front + length name } →
    (name_bytes (front ++ (name ++ rest)) n ≡ name) × (name_stands (front ++ (name ++ rest)) n ≡ true)
named_in front name rest usable n e =
    let text : List ℕ = front ++ (name ++ rest) in
    let start : n.start ≡ length front = ap (λ (m : Name). m.start) e in
    let end : n.end ≡ length front + length name = ap (λ (m : Name). m.end) e in
    let long : n.end - n.start ≡ length name = omega arith in
    let bytes : name_bytes text n ≡ name =
    ap (λ (k : ℕ). take k (drop n.start text)) long ∙ ap (λ (k : ℕ). take (length name) (drop k text)) start
    ∙ ap (take (length name)) (drop-append_seam front (name ++ rest)) ∙ take-append_seam name rest in
    let whole : length text ≡ length front + (length name + length rest) =
    length-append front (name ++ rest) ∙ ap (λ (k : ℕ). length front + k) (length-append name rest) in (
      bytes,
      and_from (leb n.start n.end && leb n.end (length text)) (is_usable (name_bytes text n))
          (and_from (leb n.start n.end) (leb n.end (length text)) (le-leb n.start n.end (omega arith)) (le-leb n.end (length text)
          (omega arith)))
          (ap is_usable bytes ∙ usable),
    )

-- a piece with these bytes, and then others
longer : (text : List ℕ) (x : Piece) (xs : List Piece) (w rest : List ℕ) (p q : Place) → p.bytes ≡ w ++ rest → piece_text text x ≡ w →
    piece_stands text x ≡ true → InText text xs (record { at = p.at + length w; bytes = rest }) q → InText text (x ∷ xs) p q
longer text x xs w rest p q split is stands more = record {
  spelled = split ∙ ap (λ (zs : List ℕ). w ++ zs) more.spelled ∙ sym (append_assoc w (pieces_text text xs) q.bytes)
      ∙ ap (λ (zs : List ℕ). (zs ++ pieces_text text xs) ++ q.bytes) (sym is);
  stand = and_from (piece_stands text x) (pieces_stand text xs) stands more.stand;
}

pub in_text : (text : List ℕ) (xs : List Piece) (p q : Place) (front : List ℕ) → text ≡ front ++ p.bytes → length front ≡ p.at →
    Stand xs p q → InText text xs p q
in_text text [] p q front e at s = record { spelled = ap (λ (x : Place). x.bytes) s; stand = refl }
in_text text (word w ∷ xs) p q front e at s =
    longer text (word w) xs w s.0 p q s.1 refl refl
    (in_text text xs _ q (front ++ w) (e ∙ ap (λ (zs : List ℕ). front ++ zs) s.1 ∙ sym (append_assoc front w s.0))
    (length-append front w ∙ ap (λ (n : ℕ). n + length w) at) s.2)
in_text text (named n ∷ xs) p q front e at s =
    let split : text ≡ front ++ (s.0 ++ s.1) = e ∙ ap (λ (zs : List ℕ). front ++ zs) s.2 in
    let here = named_in front s.0 s.1 s.3 n (s.4 ∙ ap (λ (k : ℕ). record { start = k; end = k + length s.0 }) (sym at)) in
    longer text (named n) xs s.0 s.1 p q s.2 (ap (λ (zs : List ℕ). name_bytes zs n) split ∙ here.0)
    (ap (λ (zs : List ℕ). name_stands zs n) split ∙ here.1)
    (in_text text xs _ q (front ++ s.0) (split ∙ sym (append_assoc front s.0 s.1))
    (length-append front s.0 ∙ ap (λ (k : ℕ). k + length s.0) at) s.5)

-- ---- the names of what pieces spell stand in the text

four_parts : (a b c d : Bool) → (a && (b && (c && d))) ≡ true → (a ≡ true) × (b ≡ true) × (c ≡ true) × (d ≡ true)
four_parts a b c d h =
    let first = and_parts a (b && (c && d)) h in
    let second = and_parts b (c && d) first.1 in
    let third = and_parts c d second.1 in
    (first.0, second.0, third.0, third.1)

module _ (text : List ℕ) where
  mutual
    surface_is : (v : SurfaceTermTree) → pieces_stand text (surface_pieces v) ≡ surface_stands text v
    surface_is (bare n) = and-true (name_stands text n)
    surface_is (applied n no_surfaces) = refl
    surface_is (applied n (more_surfaces v vs)) = ap (λ (b : Bool). name_stands text n && b) (surfaces_are (more_surfaces v vs))

    surfaces_are : (vs : SurfaceTermTrees) → pieces_stand text (surfaces_pieces vs) ≡ surfaces_stand text vs
    surfaces_are no_surfaces = refl
    surfaces_are (more_surfaces v vs) =
        list_all-append (piece_stands text) (argument_pieces v (surface_pieces v)) (surfaces_pieces vs)
        ∙ (λ i. argument_is v i && surfaces_are vs i)

    argument_is : (v : SurfaceTermTree) → pieces_stand text (argument_pieces v (surface_pieces v)) ≡ surface_stands text v
    argument_is (bare n) = and-true (name_stands text n)
    argument_is (applied n no_surfaces) = refl
    argument_is (applied n (more_surfaces v vs)) =
        ap (λ (b : Bool). name_stands text n && b)
        (list_all-append (piece_stands text) (surfaces_pieces (more_surfaces v vs)) (word (codes ")") ∷ [])
        ∙ and-true (pieces_stand text (surfaces_pieces (more_surfaces v vs))) ∙ surfaces_are (more_surfaces v vs))

  -- a term or a test, and other pieces after it
  surface_before : (v : SurfaceTermTree) (xs : List Piece) → is_shallow v ≡ true → pieces_stand text (surface_pieces v ++ xs) ≡ true →
      is_surface text v ≡ true
  surface_before v xs h k =
      let first = list_all_parts (piece_stands text) (surface_pieces v) xs k in
      and_from (surface_stands text v) (is_shallow v) (sym (surface_is v) ∙ first.0) h

  -- the pieces of each member, one after another
  many_stand : {A : Type 0} (pieces : A → List Piece) (good : A → Bool) (stands : A → Bool) →
      ((a : A) → good a ≡ true → pieces_stand text (pieces a) ≡ true → stands a ≡ true) → (as' : List A) → list_all good as' ≡ true →
      pieces_stand text (flat_map pieces as') ≡ true → list_all stands as' ≡ true
  many_stand pieces good stands each [] h k = refl
  many_stand pieces good stands each (a ∷ as') h k =
      let fine = and_parts (good a) (list_all good as') h in
      let parts = list_all_parts (piece_stands text) (pieces a) (flat_map pieces as') k in
      and_from (stands a) (list_all stands as') (each a fine.0 parts.0) (many_stand pieces good stands each as' fine.1 parts.1)

  update_is : (s : Name) (t : SurfaceTermTree) → is_shallow t ≡ true → pieces_stand text (update_pieces s t) ≡ true →
      (name_stands text s && is_surface text t) ≡ true
  update_is s t h k =
      let parts = and_parts (name_stands text s) (pieces_stand text (surface_pieces t ++ word (codes "]") ∷ [])) k in
      and_from (name_stands text s) (is_surface text t) parts.0 (surface_before t (word (codes "]") ∷ []) h parts.1)

  listed_is : (u : ListedLine) → listed_is_within u ≡ true → pieces_stand text (listed_pieces u) ≡ true → listed_line_stands text u ≡ true
  listed_is u h k =
      update_is u.signal u.term (and_parts (is_shallow u.term) (is_short u.offset) h).0
      (list_all_parts (piece_stands text) (update_pieces u.signal u.term) _ k).0

  placed_is : (t : PlacedLine) → placed_is_within t ≡ true → pieces_stand text (placed_pieces t) ≡ true → placed_line_stands text t ≡ true
  placed_is t h k = surface_before t.test _ (and_parts (is_shallow t.test) (is_short t.step) h).0 k

  left_is : (left : Option PlacedLine) → left_is_within left ≡ true → pieces_stand text (left_pieces left) ≡ true →
      left_line_stands text left ≡ true
  left_is None h k = refl
  left_is (Some t) h k = placed_is t h (list_all_parts (piece_stands text) (placed_pieces t) _ k).0

  window_is : (w : WindowLine) → window_is_within w ≡ true → pieces_stand text (window_pieces w) ≡ true → window_line_stands text w ≡ true
  window_is w h k =
      let good = four_parts (left_is_within w.left) (placed_is_within w.right) (list_all listed_is_within w.updates)
      (list_all placed_is_within w.equalities) h in
      let left = list_all_parts (piece_stands text) (left_pieces w.left) _ k in
      let right = list_all_parts (piece_stands text) (placed_pieces w.right) _ left.1 in
      let lists = list_all_parts (piece_stands text) (flat_map listed_pieces w.updates) _ right.1 in
      and_from (left_line_stands text w.left && placed_line_stands text w.right) _
      (and_from (left_line_stands text w.left) _ (left_is w.left good.0 left.0) (placed_is w.right good.1 right.0))
      (and_from (list_all (listed_line_stands text) w.updates) _
      (many_stand listed_pieces listed_is_within (listed_line_stands text) listed_is w.updates good.2 lists.0)
      (many_stand equated_pieces placed_is_within (placed_line_stands text) placed_is w.equalities good.3 lists.1))

  node_is : (n : NodeLine) → node_is_within n ≡ true → pieces_stand text (node_pieces n) ≡ true → node_line_stands text n ≡ true
  node_is (branch_line v a b) h k = surface_before v _ (and_parts (is_shallow v) (is_short a && is_short b) h).0 k
  node_is (assignment_line us go) h k =
      many_stand set_pieces (λ u. is_shallow u.term) (update_line_stands text) (λ u. update_is u.signal u.term) us
      (and_parts (list_all (λ (u : UpdateLine). is_shallow u.term) us) (is_short go) h).0
      (list_all_parts (piece_stands text) (flat_map set_pieces us) _ k).0

  -- ---- lines

  abbrev line_stands : LineTree → Bool
  line_stands (input n) = name_stands text n
  line_stands (cell n) = name_stands text n
  line_stands (output n) = name_stands text n
  line_stands (window w) = window_line_stands text w
  line_stands (node i n) = node_line_stands text n
  line_stands _ = true

  line_is : (t : LineTree) → line_is_within t ≡ true → pieces_stand text (ended_pieces t) ≡ true → line_stands t ≡ true
  line_is (input n) h k = (and_parts (name_stands text n) true k).0
  line_is (cell n) h k = (and_parts (name_stands text n) true k).0
  line_is (output n) h k = (and_parts (name_stands text n) true k).0
  line_is (window w) h k = window_is w h (list_all_parts (piece_stands text) (window_pieces w) _ k).0
  line_is (node i n) h k =
      node_is n (and_parts (is_short i) (node_is_within n) h).1 (list_all_parts (piece_stands text) (node_pieces n) _ k).0
  line_is _ h k = refl

  nodes_stand : (i : ℕ) (ns : List NodeLine) → list_all line_stands (node_lines i ns) ≡ list_all (node_line_stands text) ns
  nodes_stand i [] = refl
  nodes_stand i (n ∷ ns) = ap (λ (b : Bool). node_line_stands text n && b) (nodes_stand (suc i) ns)

-- ---- the whole text

-- what stands in a text in the order of a listing's lines is the listing of the text
pub listing_from : (text : List ℕ) (l : ListingTree) (end : ℕ) →
    Stand (flat_map ended_pieces (listing_lines l)) (record { at = 0; bytes = text }) (record { at = end; bytes = [] }) →
    IsTrue (list_all line_is_within (listing_lines l)) → AreDistinct (map (declared_entry text) (declared l)) → 0 < length l.nodes →
    0 < length l.states → IsListing text l
listing_from text l end s within distinct some_node some_state = record {
  end = end;
  in_place = s;
  within = within;
  declared_once = distinct;
  has_node = some_node;
  has_state = some_state;
}

-- so do its pieces
pub pieces_in : (text : List ℕ) (l : ListingTree) → (h : IsListing text l) →
    InText text (flat_map ended_pieces (listing_lines l)) (record { at = 0; bytes = text }) (record { at = h.end; bytes = [] })
pieces_in text l h =
    in_text text (flat_map ended_pieces (listing_lines l)) (record { at = 0; bytes = text }) (record { at = h.end; bytes = [] }) [] refl
    refl
    h.in_place

-- so the names of its lines stand in it
pub listing_stands : (text : List ℕ) (l : ListingTree) → IsListing text l → ListingStands text l
listing_stands text l h =
    let parts = list_all_parts (line_stands text) in
    let names = list_all_joined (name_stands text) in
    let each = λ (make : Name → LineTree) (ns : List Name). sym (list_all-map (line_stands text) make ns) in
    let a = parts (map input l.inputs) (from_cells l (end_line ∷ []))
    (many_stand text ended_pieces line_is_within (line_stands text) (line_is text) (listing_lines l) h.within (pieces_in text l h).stand) in
    let b = parts (map cell l.cells) (from_outputs l (end_line ∷ [])) a.1 in
    let c = parts (map output l.outputs) (from_windows l (end_line ∷ [])) b.1 in
    let d = parts (map window l.windows) (from_nodes l (end_line ∷ [])) c.1 in
    let e = parts (node_lines 0 l.nodes) (from_states l (end_line ∷ [])) d.1 in
    record {
      declared_stand = names (l.inputs ++ l.cells) l.outputs
          (names l.inputs l.cells (each input l.inputs ∙ a.0) (each cell l.cells ∙ b.0)) (each output l.outputs ∙ c.0);
      windows_stand = sym (list_all-map (line_stands text) window l.windows) ∙ d.0;
      nodes_stand = sym (nodes_stand text 0 l.nodes) ∙ e.0;
    }
