-- The bytes that the pieces of a line spell, from the bytes of its parts.
use Rattle.std.proofs.Common.{◌≡◌, ℕ, suc, List, [], ◌∷◌, ◌++◌, map, flat_map, codes, decimal, refl, ap, ◌∙◌, append_assoc}
use Rattle.std.proofs.lemmas.Grind.{flat_map-append}
use Rattle.std.proofs.lemmas.List.{append-nil}
use Rattle.program_listing.specs.declared.listing.Name.{Name}
use Rattle.program_listing.specs.LineText.{Piece, word, named, surface_pieces, LineTree, input, cell, output}
use Rattle.program_listing.specs.LineText.{window, node}
use Rattle.program_listing.specs.LineText.{update_pieces, set_pieces, listed_pieces, placed_pieces, equated_pieces, left_pieces}
use Rattle.program_listing.specs.LineText.{line_pieces, window_pieces}
use Rattle.program_listing.specs.LineText.{ended_pieces}
use Rattle.program_listing.specs.LineText.{node_lines, state_lines, listing_lines}
use Rattle.program_listing.specs.Listing.{SurfaceTermTree, UpdateLine, ListedLine, PlacedLine, WindowLine, branch_line, assignment_line}
use Rattle.program_listing.specs.Listing.{ListingTree}
use Rattle.program_listing.specs.Listing.{name_bytes}
use Rattle.program_listing.proofs.ListingFacts.{piece_text, pieces_text}
use Rattle.flow_program.specs.ProgramText.{states_text}

pub pieces_append : (text : List ℕ) (xs ys : List Piece) → pieces_text text (xs ++ ys) ≡ pieces_text text xs ++ pieces_text text ys
pieces_append text xs ys = flat_map-append (piece_text text) xs ys

module _ (text : List ℕ) where
  -- pieces one after another, from the bytes of both
  both : (xs ys : List Piece) {a b : List ℕ} → pieces_text text xs ≡ a → pieces_text text ys ≡ b → pieces_text text (xs ++ ys) ≡ a ++ b
  both xs ys first second = pieces_append text xs ys ∙ (λ i. first i ++ second i)

  -- the same behind these bytes
  around : (before : List ℕ) (xs ys : List Piece) {a : List ℕ} → pieces_text text xs ≡ a →
      before ++ pieces_text text (xs ++ ys) ≡ before ++ (a ++ pieces_text text ys)
  around before xs ys is = ap (λ zs. before ++ zs) (both xs ys is refl)

  pub update_spelled : (s : Name) (p : SurfaceTermTree) (a b : List ℕ) → name_bytes text s ≡ a → pieces_text text (surface_pieces p) ≡ b →
      pieces_text text (update_pieces s p) ≡ codes "[" ++ a ++ codes " <- " ++ b ++ codes "]"
  update_spelled s p a b name term = simp (pieces_append, name, term, append_assoc)

  pub listed_spelled : (u : ListedLine) (a : List ℕ) → pieces_text text (update_pieces u.signal u.term) ≡ a →
      pieces_text text (listed_pieces u) ≡ codes " when " ++ a ++ codes " at " ++ decimal u.offset
  listed_spelled u a update =
      around (codes " when ") (update_pieces u.signal u.term) (word (codes " at ") ∷ word (decimal u.offset) ∷ []) update
      ∙ simp (append_assoc, append-nil)

  pub placed_spelled : (t : PlacedLine) (a : List ℕ) → pieces_text text (surface_pieces t.test) ≡ a →
      pieces_text text (placed_pieces t) ≡ a ++ codes " at " ++ decimal t.step
  placed_spelled t a test =
      both (surface_pieces t.test) (word (codes " at ") ∷ word (decimal t.step) ∷ []) test refl ∙ simp (append_assoc, append-nil)

  pub equated_spelled : (e : PlacedLine) (a n : List ℕ) → pieces_text text (placed_pieces e) ≡ a ++ codes " at " ++ n →
      pieces_text text (equated_pieces e) ≡ codes " when " ++ a ++ codes " at " ++ n
  equated_spelled e a n is = ap (λ zs. codes " when " ++ zs) is ∙ simp append_assoc

  pub window_spelled : (w : WindowLine) (a b c d : List ℕ) → pieces_text text (left_pieces w.left) ≡ a ++ codes " is " →
      pieces_text text (placed_pieces w.right) ≡ b ++ codes " at " ++ decimal w.right.step →
      pieces_text text (flat_map listed_pieces w.updates) ≡ c → pieces_text text (flat_map equated_pieces w.equalities) ≡ d →
      pieces_text text (ended_pieces (window w)) ≡ codes "window " ++ a ++ codes " is "
      ++ b ++ codes " at " ++ decimal w.right.step ++ c ++ d ++ codes "\n"
  window_spelled w a b c d left right updates equalities =
      around (codes "window ") (window_pieces w) (word (codes "\n") ∷ []) (both (left_pieces w.left) _ left
      (both (placed_pieces w.right) _ right
      (both (flat_map listed_pieces w.updates) (flat_map equated_pieces w.equalities) updates equalities))) ∙ simp append_assoc

  pub branch_spelled : (i : ℕ) (p : SurfaceTermTree) (a b : ℕ) (c : List ℕ) → pieces_text text (surface_pieces p) ≡ c →
      pieces_text text (ended_pieces (node i (branch_line p a b))) ≡ codes "node " ++ decimal i ++ codes " if " ++ c
      ++ codes " then " ++ decimal a ++ codes " else " ++ decimal b ++ codes "\n"
  branch_spelled i p a b c test = simp (pieces_append, test, append_assoc)

  pub assignment_spelled : (i : ℕ) (us : List UpdateLine) (go : ℕ) (c : List ℕ) → pieces_text text (flat_map set_pieces us) ≡ c →
      pieces_text text (ended_pieces (node i (assignment_line us go))) ≡ codes "node " ++ decimal i ++ codes " set" ++ c
      ++ codes " go " ++ decimal go ++ codes "\n"
  assignment_spelled i us go c updates = simp (pieces_append, updates, append_assoc)

  pub states_spelled : (i : ℕ) (ns : List ℕ) → pieces_text text (flat_map ended_pieces (state_lines i ns)) ≡ states_text i ns
  states_spelled i [] = refl
  states_spelled i (n ∷ ns) = simp (states_spelled (suc i) ns, append_assoc)

  pub declaration_spelled : (w : List ℕ) (make : Name → LineTree) → ((n : Name) → line_pieces (make n) ≡ word w ∷ named n ∷ []) →
      (n : Name) (a : List ℕ) → name_bytes text n ≡ a → pieces_text text (ended_pieces (make n)) ≡ w ++ a ++ codes "\n"
  declaration_spelled w make is n a name =
      ap (λ xs. pieces_text text (xs ++ word (codes "\n") ∷ [])) (is n) ∙ simp (name, append_assoc)

  -- ---- the whole text

  pub listing_spelled : (l : ListingTree) (a b c d e f : List ℕ) → pieces_text text (flat_map ended_pieces (map input l.inputs)) ≡ a →
      pieces_text text (flat_map ended_pieces (map cell l.cells)) ≡ b →
      pieces_text text (flat_map ended_pieces (map output l.outputs)) ≡ c →
      pieces_text text (flat_map ended_pieces (map window l.windows)) ≡ d →
      pieces_text text (flat_map ended_pieces (node_lines 0 l.nodes)) ≡ e →
      pieces_text text (flat_map ended_pieces (state_lines 0 l.states)) ≡ f →
      pieces_text text (flat_map ended_pieces (listing_lines l)) ≡ codes "tslprogram 1\n" ++ a ++ b ++ c ++ d ++ e ++ f ++ codes "end\n"
  listing_spelled l a b c d e f ins cells outs wins nodes states =
      simp (flat_map-append, ins, cells, outs, wins, nodes, states, append_assoc)
