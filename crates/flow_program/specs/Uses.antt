-- The uses of names in a program text, in the order of the text, and the names that it has after the given ones.
use Rattle.std.specs.Prelude.{ℕ, suc, ◌+◌, Bool, true, false, List, [], ◌∷◌, ◌++◌, length, flat_map, if◌then◌else◌, Option, Some, None}
use Rattle.tsl_terms.specs.declared.names.NameKind.{NameKind}
use Rattle.tsl_terms.specs.declared.names.NameKind.TheVariants.{Signal, Function, Predicate}
use Rattle.tsl_terms.specs.Name.{question, Name as NameEntry}
use Rattle.tsl_terms.specs.Clashes.{with_uses}
use Rattle.program_listing.specs.declared.listing.Name.{Name}
use Rattle.program_listing.specs.Listing.{SurfaceTermTree, bare, applied, SurfaceTermTrees, no_surfaces, more_surfaces, count_of_surfaces, name_bytes}
use Rattle.program_listing.specs.Listing.{UpdateLine, ListedLine, PlacedLine, WindowLine, NodeLine, branch_line, assignment_line}
use Rattle.program_listing.specs.Listing.{ListingTree, declared}

-- A use of a name: the name that it would be, where it stands, the number of its line, whether it is a signal of a term
-- or a test, and whether it is a test alone, so that the predicate `?` tests it.
pub record ProgramUse : Type 0 where
  pub name : NameEntry
  pub place : Name
  pub line : ℕ
  pub is_read : Bool
  pub is_tested : Bool

module _ (text : List ℕ) (line : ℕ) where
  -- a name with so many arguments
  abbrev pub applied_use : NameKind → Name → ℕ → ProgramUse
  applied_use kind at arity = record {
    name = record { text = name_bytes text at; kind = kind; arity = arity };
    place = at;
    line = line;
    is_read = false;
    is_tested = false;
  }

  -- a signal that is declared or updated
  abbrev pub signal_use : Name → ProgramUse
  signal_use at = applied_use Signal at 0

  -- a signal in a term
  abbrev pub read_use : Name → ProgramUse
  read_use at = record (signal_use at) { is_read = true }

  -- a signal that is a test
  abbrev pub tested_use : Name → ProgramUse
  tested_use at = record (read_use at) { is_tested = true }

  -- the uses of a term, a test, an update, the line of a window and the line of a node

  abbrev mutual
    pub term_uses : SurfaceTermTree → List ProgramUse
    term_uses (bare at) = read_use at ∷ []
    term_uses (applied at arguments) = applied_use Function at (count_of_surfaces arguments) ∷ terms_uses arguments

    pub terms_uses : SurfaceTermTrees → List ProgramUse
    terms_uses no_surfaces = []
    terms_uses (more_surfaces p ps) = term_uses p ++ terms_uses ps

  abbrev pub test_uses : SurfaceTermTree → List ProgramUse
  test_uses (bare at) = tested_use at ∷ []
  test_uses (applied at arguments) = applied_use Predicate at (count_of_surfaces arguments) ∷ terms_uses arguments

  abbrev pub update_uses : UpdateLine → List ProgramUse
  update_uses u = signal_use u.signal ∷ term_uses u.term

  abbrev pub listed_uses : ListedLine → List ProgramUse
  listed_uses u = signal_use u.signal ∷ term_uses u.term

  abbrev pub placed_uses : PlacedLine → List ProgramUse
  placed_uses t = test_uses t.test

  abbrev pub left_uses : Option PlacedLine → List ProgramUse
  left_uses (Some left) = placed_uses left
  left_uses None = []

  abbrev pub window_uses : WindowLine → List ProgramUse
  window_uses w =
      left_uses w.left ++ placed_uses w.right ++ flat_map listed_uses w.updates ++ flat_map placed_uses w.equalities

  abbrev pub node_uses : NodeLine → List ProgramUse
  node_uses (branch_line test then_node else_node) = test_uses test
  node_uses (assignment_line updates go) = flat_map update_uses updates

-- the uses of lines, the first of which has this number, where these are those of one line
abbrev pub line_uses : {X : Type 0} → (ℕ → X → List ProgramUse) → ℕ → List X → List ProgramUse
line_uses uses line [] = []
line_uses uses line (x ∷ xs) = uses line x ++ line_uses uses (suc line) xs

abbrev pub declared_uses : List ℕ → ℕ → List Name → List ProgramUse
declared_uses text = line_uses (λ line at. signal_use text line at ∷ [])

abbrev pub windows_uses : List ℕ → ℕ → List WindowLine → List ProgramUse
windows_uses text = line_uses (window_uses text)

abbrev pub nodes_uses : List ℕ → ℕ → List NodeLine → List ProgramUse
nodes_uses text = line_uses (node_uses text)

-- the numbers of the first lines of each kind: the head is line 1

abbrev pub first_declaration : ℕ
first_declaration = 2

abbrev pub first_window : ListingTree → ℕ
first_window l = first_declaration + length (declared l)

abbrev pub first_node : ListingTree → ℕ
first_node l = first_window l + length l.windows

abbrev pub first_state : ListingTree → ℕ
first_state l = first_node l + length l.nodes

-- the uses of a text
abbrev pub uses_of : List ℕ → ListingTree → List ProgramUse
uses_of text l =
    declared_uses text first_declaration (declared l)
    ++ windows_uses text (first_window l) l.windows
    ++ nodes_uses text (first_node l) l.nodes

-- the predicate that tests a Boolean signal
abbrev pub question_entry : NameEntry
question_entry = record { text = question; kind = Predicate; arity = 1 }

-- the names that get numbers by a use: `?` comes directly after the signal that it tests
abbrev pub entries_of_use : ProgramUse → List NameEntry
entries_of_use u = u.name ∷ (if u.is_tested then question_entry ∷ [] else [])

-- the given names, and then those of the text by first appearance, each as it is used first
abbrev pub names_after : List NameEntry → List ProgramUse → List NameEntry
names_after given uses = with_uses given (flat_map entries_of_use uses)
