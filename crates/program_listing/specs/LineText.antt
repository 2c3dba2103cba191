-- How the lines of a program text are spelled, and where their names stand.
use Rattle.std.specs.Prelude.{
  ◌≡◌,
  ℕ,
  suc,
  ◌+◌,
  ◌^◌,
  Bool,
  true,
  ◌&&◌,
  nat_le,
  nat_lt,
  max,
  List,
  [],
  ◌∷◌,
  ◌++◌,
  length,
  map,
  flat_map,
  codes,
  decimal,
  IsTrue,
  Option,
  Some,
  None,
}
use Rattle.std.specs.List.{list_all}
use Rattle.tsl_text.specs.Names.{is_usable}
use Rattle.tsl_text.specs.declared.numbers.TheConstants.{MOST_DIGITS}
use Rattle.tsl_terms.specs.WellFormed.{deepest}
use Rattle.program_listing.specs.declared.listing.Name.{Name}
use Rattle.program_listing.specs.ListingTree.{
  SurfaceTermTree,
  bare,
  applied,
  SurfaceTermTrees,
  no_surfaces,
  more_surfaces,
  UpdateLine,
  ListedLine,
  PlacedLine,
  WindowLine,
  NodeLine,
  branch_line,
  assignment_line,
  ListingTree,
}

-- ---- pieces

-- a line is written of pieces: bytes as they are, and names of the text
pub data Piece : Type 0 where
  word : List ℕ → Piece
  named : Name → Piece

-- a place in a text: its offset, and the bytes from there on
pub record Place : Type 0 where
  pub at : ℕ
  pub bytes : List ℕ

-- The pieces stand in a text from one place to another: bytes as they are, and each name, which is no reserved word,
-- where it says that it stands.
abbrev pub Stand : List Piece → Place → Place → Type 0
Stand [] p q = p ≡ q
Stand (word w ∷ pieces) p q =
    (rest : List ℕ) × (p.bytes ≡ w ++ rest) × Stand pieces (record { at = p.at + length w; bytes = rest }) q
Stand (named n ∷ pieces) p q =
    (name : List ℕ) × (rest : List ℕ) × (p.bytes ≡ name ++ rest) × IsTrue (is_usable name)
    × (n ≡ record { start = p.at; end = p.at + length name }) × Stand pieces (record { at = p.at + length name; bytes = rest }) q

-- ---- terms and tests

-- an argument that has arguments stands in brackets
abbrev pub argument_pieces : SurfaceTermTree → List Piece → List Piece
argument_pieces (applied n (more_surfaces p ps)) pieces = word (codes "(") ∷ (pieces ++ word (codes ")") ∷ [])
argument_pieces _ pieces = pieces

-- what follows the name of a function or a predicate: `()` where there is no argument
abbrev pub applied_pieces : SurfaceTermTrees → List Piece → List Piece
applied_pieces no_surfaces pieces = word (codes "()") ∷ []
applied_pieces (more_surfaces p ps) pieces = pieces

abbrev mutual
  pub surface_pieces : SurfaceTermTree → List Piece
  surface_pieces (bare n) = named n ∷ []
  surface_pieces (applied n arguments) = named n ∷ applied_pieces arguments (surfaces_pieces arguments)

  -- a space and an argument, one after another
  pub surfaces_pieces : SurfaceTermTrees → List Piece
  surfaces_pieces no_surfaces = []
  surfaces_pieces (more_surfaces p ps) = word (codes " ") ∷ (argument_pieces p (surface_pieces p) ++ surfaces_pieces ps)

-- how deep the brackets of a surface term nest
abbrev pub bracketed_surface : SurfaceTermTree → ℕ → ℕ
bracketed_surface (applied f (more_surfaces p ps)) depth = 1 + depth
bracketed_surface _ depth = depth

abbrev mutual
  pub surface_brackets : SurfaceTermTree → ℕ
  surface_brackets (bare name) = 0
  surface_brackets (applied name arguments) = surfaces_brackets arguments

  pub surfaces_brackets : SurfaceTermTrees → ℕ
  surfaces_brackets no_surfaces = 0
  surfaces_brackets (more_surfaces p ps) = max (bracketed_surface p (surface_brackets p)) (surfaces_brackets ps)

-- ---- lines

-- the lines of program texts, with the numbers that nodes and states have
pub data LineTree : Type 0 where
  head_line : LineTree
  input : Name → LineTree
  cell : Name → LineTree
  output : Name → LineTree
  window : WindowLine → LineTree
  node : (number : ℕ) → NodeLine → LineTree
  state : (number : ℕ) → (node : ℕ) → LineTree
  end_line : LineTree

abbrev pub update_pieces : Name → SurfaceTermTree → List Piece
update_pieces signal term =
    word (codes "[") ∷ named signal ∷ word (codes " <- ") ∷ (surface_pieces term ++ word (codes "]") ∷ [])

-- an update of an assignment, a space before it
abbrev pub set_pieces : UpdateLine → List Piece
set_pieces u = word (codes " ") ∷ update_pieces u.signal u.term

-- an update that a window lists
abbrev pub listed_pieces : ListedLine → List Piece
listed_pieces u = word (codes " when ") ∷ (update_pieces u.signal u.term ++ word (codes " at ") ∷ word (decimal u.offset) ∷ [])

-- a test and its step
abbrev pub placed_pieces : PlacedLine → List Piece
placed_pieces t = surface_pieces t.test ++ word (codes " at ") ∷ word (decimal t.step) ∷ []

-- an equality that a window lists
abbrev pub equated_pieces : PlacedLine → List Piece
equated_pieces e = word (codes " when ") ∷ placed_pieces e

-- what stands before a window's right test: the left test and its step, or `true`
abbrev pub left_pieces : Option PlacedLine → List Piece
left_pieces (Some left) = placed_pieces left ++ word (codes " is ") ∷ []
left_pieces None = word (codes "true is ") ∷ []

-- a window's line after its first word
abbrev pub window_pieces : WindowLine → List Piece
window_pieces w =
    left_pieces w.left ++ (placed_pieces w.right ++ (flat_map listed_pieces w.updates ++ flat_map equated_pieces w.equalities))

-- a node's line after its number
abbrev pub node_pieces : NodeLine → List Piece
node_pieces (branch_line test then_node else_node) =
    word (codes " if ") ∷ (surface_pieces test
    ++ word (codes " then ") ∷ word (decimal then_node) ∷ word (codes " else ") ∷ word (decimal else_node) ∷ [])
node_pieces (assignment_line updates go) =
    word (codes " set") ∷ (flat_map set_pieces updates ++ word (codes " go ") ∷ word (decimal go) ∷ [])

-- a line without its line feed
abbrev pub line_pieces : LineTree → List Piece
line_pieces head_line = word (codes "tslprogram 1") ∷ []
line_pieces (input n) = word (codes "input ") ∷ named n ∷ []
line_pieces (cell n) = word (codes "cell ") ∷ named n ∷ []
line_pieces (output n) = word (codes "output ") ∷ named n ∷ []
line_pieces (window w) = word (codes "window ") ∷ window_pieces w
line_pieces (node number n) = word (codes "node ") ∷ word (decimal number) ∷ node_pieces n
line_pieces (state number n) = word (codes "state ") ∷ word (decimal number) ∷ word (codes " at ") ∷ word (decimal n) ∷ []
line_pieces end_line = word (codes "end") ∷ []

-- a line with its line feed
abbrev pub ended_pieces : LineTree → List Piece
ended_pieces line = line_pieces line ++ word (codes "\n") ∷ []

-- a number of a program text has at most 18 digits
abbrev pub is_short : ℕ → Bool
is_short n = nat_lt n (10 ^ MOST_DIGITS)

-- the brackets of a term or a test nest at most 200 deep
abbrev pub is_shallow : SurfaceTermTree → Bool
is_shallow p = nat_le (surface_brackets p) deepest

abbrev pub listed_is_within : ListedLine → Bool
listed_is_within u = is_shallow u.term && is_short u.offset

abbrev pub placed_is_within : PlacedLine → Bool
placed_is_within t = is_shallow t.test && is_short t.step

abbrev pub left_is_within : Option PlacedLine → Bool
left_is_within (Some left) = placed_is_within left
left_is_within None = true

abbrev pub window_is_within : WindowLine → Bool
window_is_within w =
    left_is_within w.left
    && (placed_is_within w.right && (list_all listed_is_within w.updates && list_all placed_is_within w.equalities))

abbrev pub node_is_within : NodeLine → Bool
node_is_within (branch_line test then_node else_node) = is_shallow test && (is_short then_node && is_short else_node)
node_is_within (assignment_line updates go) = list_all (λ u. is_shallow u.term) updates && is_short go

-- a line keeps the limits on brackets and on numbers
abbrev pub line_is_within : LineTree → Bool
line_is_within (window w) = window_is_within w
line_is_within (node number n) = is_short number && node_is_within n
line_is_within (state number n) = is_short number && is_short n
line_is_within _ = true

-- nodes and states are numbered from 0
abbrev pub node_lines : ℕ → List NodeLine → List LineTree
node_lines i [] = []
node_lines i (n ∷ ns) = node i n ∷ node_lines (suc i) ns

abbrev pub state_lines : ℕ → List ℕ → List LineTree
state_lines i [] = []
state_lines i (n ∷ ns) = state i n ∷ state_lines (suc i) ns

-- the lines of a listing, in their order
abbrev pub listing_lines : ListingTree → List LineTree
listing_lines l =
    head_line ∷ (map input l.inputs ++ (map cell l.cells ++ (map output l.outputs ++ (map window l.windows
    ++ (node_lines 0 l.nodes ++ (state_lines 0 l.states ++ end_line ∷ []))))))
