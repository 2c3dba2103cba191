-- Internal: reading the lines of a program text, as functions that compute. Each reader gives what stands at a place and the
-- place after it.
use Rattle.std.specs.Prelude.{
  ◌≡◌,
  ℕ,
  zero,
  suc,
  ◌+◌,
  ◌<◌,
  Bool,
  true,
  false,
  not,
  ◌&&◌,
  ◌||◌,
  ◌==◌,
  List,
  [],
  ◌∷◌,
  length,
  take,
  drop,
  codes,
  Option,
  Some,
  None,
  option_map,
  option_and_then,
  if◌then◌else◌,
}
use Rattle.std.specs.Option.{is_some}
use Rattle.std.specs.List.{prefix_len}
use Rattle.std.specs.Char.{is_ascii_digit}
use Rattle.tsl_text.specs.Names.{is_name_start, is_name_byte, is_usable}
use Rattle.tsl_text.specs.Lines.{has_bytes, is_space}
use Rattle.tsl_text.specs.Numbers.{plain_number_in}
use Rattle.tsl_terms.specs.WellFormed.{deepest}
use Rattle.line_formats.specs.Format.{strip}
use Rattle.program_listing.specs.declared.rest.Rest.{Rest}
use Rattle.program_listing.specs.declared.rest.LineError.{LineError}
use Rattle.program_listing.specs.declared.rest.LineError.TheVariants.{Form, NoMemory}
use Rattle.program_listing.specs.declared.line.Line.{Line}
use Rattle.program_listing.specs.declared.line.Line.TheVariants.{Head, Input, Cell, Output, Window, Node, State, End}
use Rattle.program_listing.specs.declared.listing.Name.{Name}
use Rattle.program_listing.specs.ListingTree.{
  SurfaceTermTree,
  bare,
  applied,
  SurfaceTermTrees,
  no_surfaces,
  more_surfaces,
  UpdateLine,
  ListedLine,
  PlacedLine,
  WindowLine,
  NodeLine,
  branch_line,
  assignment_line,
  window_line,
  node_line,
}
use Rattle.program_listing.specs.LineText.{Place, LineTree, head_line, input, cell, output, window, node, state, end_line}

abbrev pub left_place : Rest → Place
left_place left = record { at = left.at; bytes = left.bytes.now }

-- nothing was read, unless memory ran out
abbrev pub IsMisread : {V : Type 0} → Option V → LineError → Type 0
IsMisread answer Form = answer ≡ None
IsMisread answer NoMemory = Unit {0}

abbrev pub LineReader : Type 0 → Type 0
LineReader V = Place → Option (V × Place)

-- the reader gives what was read, as it is seen, and what is left after it
abbrev pub IsReadAs : {V W : Type 0} → (W → V) → LineReader V → Rest → W × Rest → Type 0
IsReadAs view reader left read = reader (left_place left) ≡ Some (view read.0, left_place read.1)

-- the reader gives nothing, unless memory ran out
abbrev pub IsUnread : {V : Type 0} → LineReader V → Rest → LineError → Type 0
IsUnread reader left = IsMisread (reader (left_place left))

-- ---- readers of others

abbrev pub skipped : ℕ → Place → Place
skipped len p = record { at = p.at + len; bytes = drop len p.bytes }

-- the place after these bytes, where they stand at the front
abbrev pub past : List ℕ → Place → Option Place
past w p = option_map (λ rest. record { at = p.at + length w; bytes = rest }) (strip w p.bytes)

module _ {A B : Type 0} where
  -- another value of what is read
  abbrev pub mapped : (A → B) → Option (A × Place) → Option (B × Place)
  mapped make read = option_map (λ r. (make r.0, r.1)) read

  abbrev pub and_next : LineReader B → A × Place → Option ((A × B) × Place)
  and_next second r = option_map (λ t. ((r.0, t.0), t.1)) (second r.1)

  -- one after another
  abbrev pub pair : LineReader A → LineReader B → LineReader (A × B)
  pair first second p = option_and_then (and_next second) (first p)

module _ {A : Type 0} where
  -- each value that is read takes a byte at least
  abbrev pub Shrinks : LineReader A → Type 0
  Shrinks reader = (p : Place) (a : A) (q : Place) → reader p ≡ Some (a, q) → length q.bytes < length p.bytes

  -- after these bytes
  abbrev pub prefixed : List ℕ → LineReader A → LineReader A
  prefixed w reader p = option_and_then reader (past w p)

  abbrev pub and_past : List ℕ → A × Place → Option (A × Place)
  and_past w r = option_map (λ q. (r.0, q)) (past w r.1)

  -- with these bytes after it
  abbrev pub closed : List ℕ → LineReader A → LineReader A
  closed w reader p = option_and_then (and_past w) (reader p)

  -- nothing, for any value
  abbrev pub nothing : A → LineReader A
  nothing a p = Some (a, p)

  -- what is read after these bytes where they stand there, and otherwise this
  abbrev pub either : Option Place → LineReader A → Option (A × Place) → Option (A × Place)
  either None reader other = other
  either (Some p) reader other = reader p

  abbrev pub with_first : A → Option (List A × Place) → Option (List A × Place)
  with_first a read = option_map (λ r. (a ∷ r.0, r.1)) read

  abbrev pub and_more : LineReader (List A) → A × Place → Option (List A × Place)
  and_more more r = with_first r.0 (more r.1)

  -- what a step gives and what is read after it, or nothing where there is no step
  abbrev pub go_on : Place → Option (Option (A × Place)) → LineReader (List A) → Option (List A × Place)
  go_on p None more = Some ([], p)
  go_on p (Some read) more = option_and_then (and_more more) read

  -- A step, where its test holds of the bytes.
  abbrev pub step_if : (List ℕ → Bool) → LineReader A → Place → Option (Option (A × Place))
  step_if test reader p = if test p.bytes then Some (reader p) else None

  -- at most so many steps
  unfoldable pub repeat_most : ℕ → (List ℕ → Bool) → LineReader A → LineReader (List A)
  repeat_most zero test reader p = None
  repeat_most (suc most) test reader p = go_on p (step_if test reader p) (repeat_most most test reader)

  -- as often as the test holds: each step takes a byte at least
  unfoldable pub repeat : (List ℕ → Bool) → LineReader A → LineReader (List A)
  repeat test reader p = repeat_most (suc (length p.bytes)) test reader p

  abbrev pub value_at_end : A → List ℕ → Option A
  value_at_end a [] = Some a
  value_at_end a (b ∷ bs) = None

  -- what is read, where nothing is left after it
  abbrev pub at_end : Option (A × Place) → Option A
  at_end read = option_and_then (λ r. value_at_end r.0 r.1.bytes) read

-- ---- names and numbers

-- the reserved words, those of one letter apart
abbrev pub long_words : List (List ℕ)
long_words = codes "assume" ∷ codes "guarantee" ∷ codes "always" ∷ codes "initially" ∷ codes "true" ∷ codes "false" ∷ []

abbrev pub letters : List (List ℕ)
letters = codes "X" ∷ codes "F" ∷ codes "G" ∷ codes "U" ∷ codes "W" ∷ codes "R" ∷ codes "A" ∷ []

abbrev pub begins : (ℕ → Bool) → List ℕ → Bool
begins test [] = false
begins test (byte ∷ bytes) = test byte

abbrev pub name_of_length : ℕ → LineReader Name
name_of_length len p =
    if is_usable (take len p.bytes) then Some (record { start = p.at; end = p.at + len }, skipped len p) else None

-- the longest name at the front
abbrev pub first_name : LineReader Name
first_name p = name_of_length (prefix_len is_name_byte p.bytes) p

abbrev pub number_of_length : ℕ → LineReader ℕ
number_of_length len p = option_map (λ n. (n, skipped len p)) (plain_number_in (take len p.bytes))

-- the longest number at the front
abbrev pub first_number : LineReader ℕ
first_number p = number_of_length (prefix_len is_ascii_digit p.bytes) p

-- ---- terms and tests

abbrev pub surfaces_of : List SurfaceTermTree → SurfaceTermTrees
surfaces_of [] = no_surfaces
surfaces_of (p ∷ ps) = more_surfaces p (surfaces_of ps)

abbrev pub is_open : ℕ → Bool
is_open byte = byte == 40

-- a space and a digit
abbrev pub number_follows : List ℕ → Bool
number_follows [] = false
number_follows (byte ∷ bytes) = is_space byte && begins is_ascii_digit bytes

-- a name, and no number after it: the word before a number is none of the arguments
abbrev pub argument_begins : List ℕ → Bool
argument_begins bytes =
    begins is_open bytes || (begins is_name_start bytes && not (number_follows (drop (prefix_len is_name_byte bytes) bytes)))

-- a space and an argument
abbrev pub argument_follows : List ℕ → Bool
argument_follows [] = false
argument_follows (byte ∷ bytes) = is_space byte && argument_begins bytes

-- what follows a name: nothing, or what is applied, `()` where these are no arguments
abbrev pub tail_of : List SurfaceTermTree → Option SurfaceTermTrees
tail_of [] = None
tail_of (p ∷ ps) = Some (surfaces_of (p ∷ ps))

abbrev pub with_tail : Name × Option SurfaceTermTrees → SurfaceTermTree
with_tail (name, None) = bare name
with_tail (name, Some ps) = applied name ps

abbrev pub surface_of : Name → List SurfaceTermTree → SurfaceTermTree
surface_of name ps = with_tail (name, tail_of ps)

-- a name and what follows it, where this reader reads the arguments
abbrev pub tail : LineReader (List SurfaceTermTree) → LineReader (Option SurfaceTermTrees)
tail arguments p = either (past (codes "()") p) (nothing (Some no_surfaces)) (mapped tail_of (arguments p))

abbrev pub surface_by : LineReader (List SurfaceTermTree) → LineReader SurfaceTermTree
surface_by arguments p = mapped with_tail (pair first_name (tail arguments) p)

-- an argument without brackets
abbrev pub short : LineReader SurfaceTermTree
short = surface_by (nothing [])

-- an argument, where this reader reads those in brackets
abbrev pub argument_surface : LineReader SurfaceTermTree → LineReader SurfaceTermTree
argument_surface surface_in_brackets p = if begins is_open p.bytes then surface_in_brackets p else short p

abbrev pub spaced_argument : LineReader SurfaceTermTree → LineReader SurfaceTermTree
spaced_argument surface_in_brackets = prefixed (codes " ") (argument_surface surface_in_brackets)

abbrev pub arguments : LineReader SurfaceTermTree → LineReader (List SurfaceTermTree)
arguments surface_in_brackets = repeat argument_follows (spaced_argument surface_in_brackets)

-- a term or a test
abbrev pub surface_with : LineReader SurfaceTermTree → LineReader SurfaceTermTree
surface_with surface_in_brackets = surface_by (arguments surface_in_brackets)

-- a surface term that has arguments
abbrev pub has_arguments : SurfaceTermTree → Bool
has_arguments (applied name (more_surfaces p ps)) = true
has_arguments _ = false

abbrev pub if_applied : SurfaceTermTree × Place → Option (SurfaceTermTree × Place)
if_applied r = if has_arguments r.0 then Some r else None

abbrev pub only_applied : LineReader SurfaceTermTree → LineReader SurfaceTermTree
only_applied reader p = option_and_then if_applied (reader p)

-- a surface term with arguments in brackets, where this reader reads those in brackets within
abbrev pub bracketed : LineReader SurfaceTermTree → LineReader SurfaceTermTree
bracketed surface_in_brackets = closed (codes ")") (prefixed (codes "(") (only_applied (surface_with surface_in_brackets)))

-- where so many levels of brackets are left
unfoldable pub surface_in_brackets : ℕ → LineReader SurfaceTermTree
surface_in_brackets zero p = None
surface_in_brackets (suc levels_left) p = bracketed (surface_in_brackets levels_left) p

abbrev pub surface : LineReader SurfaceTermTree
surface = surface_with (surface_in_brackets deepest)

-- ---- lines

abbrev pub line_tree : Line → LineTree
line_tree Head = head_line
line_tree (Input name) = input name
line_tree (Cell name) = cell name
line_tree (Output name) = output name
line_tree (Window w) = window (window_line w)
line_tree (Node number n) = node number (node_line n)
line_tree (State number n) = state number n
line_tree End = end_line

-- `[NAME <- TERM]`
abbrev pub update : LineReader (Name × SurfaceTermTree)
update = closed (codes "]") (pair (prefixed (codes "[") first_name) (prefixed (codes " <- ") surface))

abbrev pub is_square : ℕ → Bool
is_square byte = byte == 91

-- a space and an opening square bracket
abbrev pub update_follows : List ℕ → Bool
update_follows [] = false
update_follows (byte ∷ bytes) = is_space byte && begins is_square bytes

abbrev pub as_update : Name × SurfaceTermTree → UpdateLine
as_update u = record { signal = u.0; term = u.1 }

-- an update of an assignment, a space before it
abbrev pub set_update : LineReader UpdateLine
set_update p = mapped as_update (prefixed (codes " ") update p)

abbrev pub as_listed : (Name × SurfaceTermTree) × ℕ → ListedLine
as_listed u = record { signal = u.0.0; term = u.0.1; offset = u.1 }

-- an update that a window lists
abbrev pub listed : LineReader ListedLine
listed p = mapped as_listed (prefixed (codes " when ") (pair update (prefixed (codes " at ") first_number)) p)

-- an update is listed next
abbrev pub listed_follows : List ℕ → Bool
listed_follows bytes = is_some (strip (codes " when [") bytes)

abbrev pub as_placed : SurfaceTermTree × ℕ → PlacedLine
as_placed t = record { test = t.0; step = t.1 }

-- a test and its step
abbrev pub placed : LineReader PlacedLine
placed p = mapped as_placed (pair surface (prefixed (codes " at ") first_number) p)

-- an equality that a window lists
abbrev pub equated : LineReader PlacedLine
equated = prefixed (codes " when ") placed

-- what stands before a window's right test: `true`, or the left test and its step
abbrev pub left_side : LineReader (Option PlacedLine)
left_side p = either (past (codes "true is ") p) (nothing None) (mapped Some (closed (codes " is ") placed p))

abbrev pub as_window : Option PlacedLine × (PlacedLine × (List ListedLine × List PlacedLine)) → WindowLine
as_window w = record { left = w.0; right = w.1.0; updates = w.1.1.0; equalities = w.1.1.1 }

-- a window after its first word
abbrev pub window_rest : LineReader WindowLine
window_rest p = mapped as_window (pair left_side (pair placed (pair (repeat listed_follows listed) (repeat has_bytes equated))) p)

abbrev pub as_branch : SurfaceTermTree × (ℕ × ℕ) → NodeLine
as_branch b = branch_line b.0 b.1.0 b.1.1

-- a node that tests, after its ` if `
abbrev pub branch_parts : LineReader (SurfaceTermTree × (ℕ × ℕ))
branch_parts = pair surface (pair (prefixed (codes " then ") first_number) (prefixed (codes " else ") first_number))

abbrev pub branch_rest : LineReader NodeLine
branch_rest p = mapped as_branch (branch_parts p)

abbrev pub as_assignment : List UpdateLine × ℕ → NodeLine
as_assignment a = assignment_line a.0 a.1

-- a node that assigns, after its ` set`
abbrev pub assignment_parts : LineReader (List UpdateLine × ℕ)
assignment_parts = pair (repeat update_follows set_update) (prefixed (codes " go ") first_number)

abbrev pub assignment_rest : LineReader NodeLine
assignment_rest p = mapped as_assignment (assignment_parts p)

-- a node after its number
abbrev pub node_rest : LineReader NodeLine
node_rest p = either (past (codes " if ") p) branch_rest (either (past (codes " set") p) assignment_rest None)

abbrev pub as_node : ℕ × NodeLine → LineTree
as_node n = node n.0 n.1

abbrev pub as_state : ℕ × ℕ → LineTree
as_state n = state n.0 n.1

-- a node's number and what follows it, and a state's
abbrev pub numbered_node : LineReader (ℕ × NodeLine)
numbered_node = pair first_number node_rest

abbrev pub numbered_state : LineReader (ℕ × ℕ)
numbered_state = pair first_number (prefixed (codes " at ") first_number)

-- a line without its line feed
abbrev pub line : LineReader LineTree
line p =
    either (past (codes "input ") p) (λ q. mapped input (first_name q))
    (either (past (codes "cell ") p) (λ q. mapped cell (first_name q))
    (either (past (codes "output ") p) (λ q. mapped output (first_name q))
    (either (past (codes "window ") p) (λ q. mapped window (window_rest q))
    (either (past (codes "node ") p) (λ q. mapped as_node (numbered_node q))
    (either (past (codes "state ") p) (λ q. mapped as_state (numbered_state q))
    (either (past (codes "tslprogram 1") p) (nothing head_line)
    (either (past (codes "end") p) (nothing end_line) None)))))))

-- the line that the bytes are
abbrev pub read_line : Place → Option LineTree
read_line p = at_end (line p)
