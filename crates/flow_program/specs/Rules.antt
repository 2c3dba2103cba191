-- The rules of program texts, and the first that a text breaks.
use Rattle.std.specs.Prelude.{ℕ, suc, ◌+◌, Bool, true, false, not, cond, ◌&&◌, ◌||◌, ◌==◌, nat_le, nat_lt, List, [], ◌∷◌, ◌++◌, length, map}
use Rattle.std.specs.Prelude.{find}
use Rattle.std.specs.Prelude.{Option, Some, None, option_map, option_and_then, slice_get, position, bytes_eq, codes}
use Rattle.std.specs.List.{list_all}
use Rattle.std.specs.Option.{option_map_or, is_some}
use Rattle.tsl_terms.specs.Name.{number_of, Name as NameEntry}
use Rattle.tsl_terms.specs.Clashes.{alike_in_kind, same_arity}
use Rattle.program_listing.specs.declared.listing.Name.{Name}
use Rattle.flow_program.specs.declared.reading.ProgramError.{ProgramError}
use Rattle.flow_program.specs.declared.reading.ProgramError.TheVariants.{Order, Target, Updates, Window, Unknown, Kind, Arity, Windows}
use Rattle.flow_program.specs.declared.reading.ProgramError.TheVariants.{Nodes, States}
use Rattle.program_tree.specs.Fits.{longest}
use Rattle.program_tree.specs.Writable.{most_windows, most_nodes, most_states}
use Rattle.program_listing.specs.Listing.{SurfaceTermTree, bare, applied, SurfaceTermTrees, no_surfaces, more_surfaces, count_of_surfaces}
use Rattle.program_listing.specs.Listing.{ListedLine, PlacedLine, WindowLine, NodeLine, branch_line, assignment_line, ListingTree}
use Rattle.program_listing.specs.Listing.{name_bytes, left_step}
use Rattle.flow_program.specs.Uses.{ProgramUse, first_window, first_node, first_state, uses_of, names_after}

-- the first place, counted from this one, at which a test of the place and the member holds
abbrev pub first_place : {X : Type 0} → (ℕ → X → Bool) → ℕ → List X → Option ℕ
first_place test place [] = None
first_place test place (x ∷ xs) = cond (test place x) (Some place) (first_place test (suc place) xs)

-- the number of the first line that breaks a rule, where the first line has this number
abbrev pub first_line : {X : Type 0} → (ℕ → X → Bool) → ℕ → List X → Option ℕ
first_line breaks line xs = option_map (λ place. line + place) (first_place breaks 0 xs)

-- a test leads to smaller nodes
abbrev pub breaks_order : ℕ → NodeLine → Bool
breaks_order number (branch_line test then_node else_node) = not (nat_lt then_node number && nat_lt else_node number)
breaks_order number (assignment_line updates go) = false

-- an assignment goes to one of so many states
abbrev pub goes_nowhere : ℕ → ℕ → NodeLine → Bool
goes_nowhere states number (branch_line test then_node else_node) = false
goes_nowhere states number (assignment_line updates go) = not (nat_lt go states)

-- a state begins at one of so many nodes
abbrev pub is_nowhere : ℕ → ℕ → ℕ → Bool
is_nowhere nodes number node = not (nat_lt node nodes)

-- an assignment updates these names in their order
abbrev pub are_texts : List (List ℕ) → List (List ℕ) → Bool
are_texts [] [] = true
are_texts (x ∷ xs) (y ∷ ys) = bytes_eq x y && are_texts xs ys
are_texts [] (y ∷ ys) = false
are_texts (x ∷ xs) [] = false

abbrev pub breaks_updates : List ℕ → List (List ℕ) → ℕ → NodeLine → Bool
breaks_updates text controlled number (branch_line test then_node else_node) = false
breaks_updates text controlled number (assignment_line updates go) =
    not (are_texts (map (λ u. name_bytes text u.signal) updates) controlled)

-- the place of a text among others
abbrev pub place_in : List (List ℕ) → List ℕ → Option ℕ
place_in texts bytes = position (bytes_eq bytes) texts

-- a listed update comes before another: its offset is smaller, or the offsets are one and its cell stands before the other's
abbrev pub places_rise : Option ℕ → Option ℕ → Bool
places_rise (Some i) (Some j) = nat_lt i j
places_rise _ _ = false

module _ (text : List ℕ) where
  -- whether two terms or tests are spelled alike
  abbrev mutual
    pub same_surface : SurfaceTermTree → SurfaceTermTree → Bool
    same_surface (bare m) (bare n) = bytes_eq (name_bytes text m) (name_bytes text n)
    same_surface (applied m ps) (applied n qs) = bytes_eq (name_bytes text m) (name_bytes text n) && same_surfaces ps qs
    same_surface (bare m) (applied n qs) = false
    same_surface (applied m ps) (bare n) = false

    pub same_surfaces : SurfaceTermTrees → SurfaceTermTrees → Bool
    same_surfaces no_surfaces no_surfaces = true
    same_surfaces (more_surfaces p ps) (more_surfaces q qs) = same_surface p q && same_surfaces ps qs
    same_surfaces no_surfaces (more_surfaces q qs) = false
    same_surfaces (more_surfaces p ps) no_surfaces = false

  -- a test is `eq` with two arguments
  abbrev pub is_equality_test : SurfaceTermTree → Bool
  is_equality_test (bare at) = false
  is_equality_test (applied at ps) = bytes_eq (name_bytes text at) (codes "eq") && (count_of_surfaces ps == 2)

  -- an equality stands at a step up to the length
  abbrev pub is_equality_within : ℕ → PlacedLine → Bool
  is_equality_within length e = nat_le e.step length && is_equality_test e.test

  -- an equality may stand behind another one: its step is larger, or the same one and it is spelled otherwise
  abbrev pub may_follow : PlacedLine → PlacedLine → Bool
  may_follow d e = nat_lt d.step e.step || ((d.step == e.step) && not (same_surface d.test e.test))

  -- the steps of equalities do not fall, and none stands twice at one step
  abbrev pub are_in_order : List PlacedLine → Bool
  are_in_order [] = true
  are_in_order (e ∷ es) = list_all (may_follow e) es && are_in_order es

  -- without a left test the right one is an equality
  abbrev pub right_fits : Option PlacedLine → PlacedLine → Bool
  right_fits None right = is_equality_test right.test
  right_fits (Some left) right = true

module _ (text : List ℕ) (cells : List (List ℕ)) where
  abbrev pub place_of_cell : ListedLine → Option ℕ
  place_of_cell u = place_in cells (name_bytes text u.signal)

  abbrev pub stands_before : ListedLine → ListedLine → Bool
  stands_before u v =
      nat_lt u.offset v.offset || ((u.offset == v.offset) && places_rise (place_of_cell u) (place_of_cell v))

  abbrev pub listed_rise : List ListedLine → Bool
  listed_rise [] = true
  listed_rise (u ∷ []) = true
  listed_rise (u ∷ v ∷ us) = stands_before u v && listed_rise (v ∷ us)

  -- the updates are of cells, at offsets below the length
  abbrev pub is_cell_within : ℕ → ListedLine → Bool
  is_cell_within length u = nat_lt u.offset length && is_some (place_of_cell u)

  -- A window is too long or its left test stands outside it, or its updates are not of cells, within it and in rising order, or
  -- what has to be an equality is none, or the equalities are not within it and in order.
  abbrev pub breaks_window : ℕ → WindowLine → Bool
  breaks_window number w =
      not (((nat_le w.right.step longest && nat_le (left_step w.left) w.right.step)
      && (list_all (is_cell_within w.right.step) w.updates && listed_rise w.updates))
      && (right_fits text w.left w.right
      && (list_all (is_equality_within text w.right.step) w.equalities && are_in_order text w.equalities)))

-- the texts of names that are declared
abbrev pub cell_texts : List ℕ → ListingTree → List (List ℕ)
cell_texts text l = map (name_bytes text) l.cells

abbrev pub readable_of : List ℕ → ListingTree → List (List ℕ)
readable_of text l = map (name_bytes text) (l.inputs ++ l.cells)

abbrev pub controlled_of : List ℕ → ListingTree → List (List ℕ)
controlled_of text l = map (name_bytes text) (l.cells ++ l.outputs)

-- a signal of a term or a test is none of these
abbrev pub is_unknown : List (List ℕ) → ProgramUse → Bool
is_unknown readable u = u.is_read && not (is_some (place_in readable u.name.text))

-- The names have this text, and as they have it, it is not like this use. The names of a text have each name as it is used first.
abbrev pub is_unlike : (NameEntry → NameEntry → Bool) → List NameEntry → ProgramUse → Bool
is_unlike alike names u =
    option_map_or (λ n. not (alike n u.name)) (option_and_then (slice_get names) (number_of names u.name.text)) false

abbrev pub at_line : (ℕ → ProgramError) → Option ℕ → Option ProgramError
at_line fault line = option_map fault line

abbrev pub at_use : (ℕ → Name → ProgramError) → Option ProgramUse → Option ProgramError
at_use fault usage = option_map (λ u. fault u.line u.place) usage

abbrev pub over : ProgramError → ℕ → ℕ → Option ProgramError
over fault most count = cond (nat_lt most count) (Some fault) None

-- the first of faults that is there
abbrev pub first_there : List (Option ProgramError) → Option ProgramError
first_there [] = None
first_there (None ∷ fs) = first_there fs
first_there (Some f ∷ fs) = Some f

-- the fault of a line, where each rule goes over all lines before the next
abbrev pub line_fault : List ℕ → ListingTree → Option ProgramError
line_fault text l = first_there (
    at_line Order (first_line breaks_order (first_node l) l.nodes)
    ∷ at_line Target (first_line (goes_nowhere (length l.states)) (first_node l) l.nodes)
    ∷ at_line Target (first_line (is_nowhere (length l.nodes)) (first_state l) l.states)
    ∷ at_line Updates (first_line (breaks_updates text (controlled_of text l)) (first_node l) l.nodes)
    ∷ at_line Window (first_line (breaks_window text (cell_texts text l)) (first_window l) l.windows)
    ∷ [])

-- the fault of a use of a name, where the text uses names of these
abbrev pub use_fault : List (List ℕ) → List NameEntry → List ProgramUse → Option ProgramError
use_fault readable names uses = first_there (
    at_use Unknown (find (is_unknown readable) uses)
    ∷ at_use Kind (find (is_unlike alike_in_kind names) uses)
    ∷ at_use Arity (find (is_unlike same_arity names) uses)
    ∷ [])

-- the limit that the text passes
abbrev pub limit_fault : ListingTree → Option ProgramError
limit_fault l = first_there (
    over Windows most_windows (length l.windows) ∷ over Nodes most_nodes (length l.nodes) ∷ over States most_states (length l.states)
    ∷ [])

-- the fault of a text with these lines after these names, if any
abbrev pub fault_of : List ℕ → List NameEntry → ListingTree → Option ProgramError
fault_of text given l = first_there (
    line_fault text l
    ∷ use_fault (readable_of text l) (names_after given (uses_of text l)) (uses_of text l)
    ∷ limit_fault l
    ∷ [])
