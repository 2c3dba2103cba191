-- Internal: which line may stand after those that were read, as a function that computes.
use Rattle.std.specs.Prelude.{◌≡◌, ℕ, ◌+◌, ◌-◌, ◌≤◌, Bool, true, false, not, ◌&&◌, ◌==◌, List, [], ◌∷◌, ◌++◌, length, map, take, drop}
use Rattle.std.specs.Prelude.{Option, Some, None, is_none, option_and_then, if◌then◌else◌}
use Rattle.std.specs.List.{list_all, AllByRecursion}
use Rattle.tsl_terms.specs.Name.{number_of, Name as NameEntry}
use Rattle.program_listing.specs.declared.rest.LineError.{LineError}
use Rattle.program_listing.specs.declared.rest.LineError.TheVariants.{Form, NoMemory}
use Rattle.program_listing.specs.declared.listing.Name.{Name}
use Rattle.program_listing.specs.declared.listing_reader.Begun.{Begun}
use Rattle.program_listing.specs.declared.listing_reader.ListingReader.{ListingReader}
use Rattle.program_listing.specs.declared.listing_reader.Stage.{Stage}
use Rattle.program_listing.specs.declared.listing_reader.Stage.TheVariants.{Fresh, Going, Done}
use Rattle.tsl_terms.specs.declared.names.NameKind.TheVariants.{Signal}
use Rattle.program_listing.specs.ListingTree.{ListingTree, listing_tree, empty_listing}
use Rattle.program_listing.specs.LineText.{Place, LineTree, head_line, input, cell, output, window, node, state, end_line, node_lines}
use Rattle.program_listing.specs.LineText.{state_lines}
use Rattle.program_listing.specs.internal.LineReading.{read_line}

-- what the lines so far say: there is none, these are the lines after the head, or they end with the last line
pub data Progress : Type 0 where
  fresh : Progress
  going : ListingTree → Progress
  done : ListingTree → Progress

abbrev pub is_nil : {A : Type 0} → List A → Bool
is_nil [] = true
is_nil (x ∷ xs) = false

-- no line of the later kinds stands yet
abbrev pub no_node : ListingTree → Bool
no_node l = is_nil l.nodes && is_nil l.states

abbrev pub no_window : ListingTree → Bool
no_window l = is_nil l.windows && no_node l

abbrev pub no_output : ListingTree → Bool
no_output l = is_nil l.outputs && no_window l

abbrev pub no_cell : ListingTree → Bool
no_cell l = is_nil l.cells && no_output l

-- whether a line may stand next
abbrev pub may_stand : ListingTree → LineTree → Bool
may_stand l head_line = false
may_stand l (input n) = no_cell l
may_stand l (cell n) = no_output l
may_stand l (output n) = no_window l
may_stand l (window w) = no_node l
may_stand l (node i n) = (i == length l.nodes) && is_nil l.states
may_stand l (state i n) = (i == length l.states) && not (is_nil l.nodes)
may_stand l end_line = not (is_nil l.nodes) && not (is_nil l.states)

-- the listing with a line more
abbrev pub progress_with : ListingTree → LineTree → Progress
progress_with l (input n) = going (record l { inputs = l.inputs ++ n ∷ [] })
progress_with l (cell n) = going (record l { cells = l.cells ++ n ∷ [] })
progress_with l (output n) = going (record l { outputs = l.outputs ++ n ∷ [] })
progress_with l (window w) = going (record l { windows = l.windows ++ w ∷ [] })
progress_with l (node i n) = going (record l { nodes = l.nodes ++ n ∷ [] })
progress_with l (state i n) = going (record l { states = l.states ++ n ∷ [] })
progress_with l end_line = done l
progress_with l head_line = going l

abbrev pub when : Bool → Progress → Option Progress
when test p = if test then Some p else None

abbrev pub added : ListingTree → LineTree → Option Progress
added l line = when (may_stand l line) (progress_with l line)

-- a line after those so far, where it may stand there
abbrev pub add : Progress → LineTree → Option Progress
add fresh head_line = Some (going empty_listing)
add fresh _ = None
add (going l) line = added l line
add (done l) line = None

-- lines one after another
abbrev pub add_all : List LineTree → Progress → Option Progress
add_all [] p = Some p
add_all (line ∷ lines) p = option_and_then (add_all lines) (add p line)

-- the lines of a listing's sections, each with those after it and then these
abbrev pub from_states : ListingTree → List LineTree → List LineTree
from_states l tail = state_lines 0 l.states ++ tail

abbrev pub from_nodes : ListingTree → List LineTree → List LineTree
from_nodes l tail = node_lines 0 l.nodes ++ from_states l tail

abbrev pub from_windows : ListingTree → List LineTree → List LineTree
from_windows l tail = map window l.windows ++ from_nodes l tail

abbrev pub from_outputs : ListingTree → List LineTree → List LineTree
from_outputs l tail = map output l.outputs ++ from_windows l tail

abbrev pub from_cells : ListingTree → List LineTree → List LineTree
from_cells l tail = map cell l.cells ++ from_outputs l tail

-- the lines of what was added, and then these
abbrev pub lines_with : ListingTree → List LineTree → List LineTree
lines_with l tail = head_line ∷ (map input l.inputs ++ from_cells l tail)

abbrev pub lines_so_far : Progress → List LineTree
lines_so_far fresh = []
lines_so_far (going l) = lines_with l []
lines_so_far (done l) = lines_with l (end_line ∷ [])

-- the listing so far
abbrev pub listing_of : Progress → ListingTree
listing_of fresh = empty_listing
listing_of (going l) = l
listing_of (done l) = l

-- ---- reading line by line

-- where the next line begins, the names that are declared, and what the lines so far say
pub record ListingState : Type 0 where
  pub at : ℕ
  pub names : List NameEntry
  pub progress : Progress

abbrev pub start : ListingState
start = record { at = 0; names = []; progress = fresh }

abbrev pub is_done : Progress → Bool
is_done (done l) = true
is_done _ = false

abbrev pub whole : ListingState → Bool
whole s = is_done s.progress

-- the names that a line declares
abbrev pub declares : LineTree → List Name
declares (input n) = n ∷ []
declares (cell n) = n ∷ []
declares (output n) = n ∷ []
declares _ = []

-- a name that stands in the line at this place, with its bytes
abbrev pub entry_in : Place → Name → NameEntry
entry_in p n =
    record { text = take ((n.end - p.at) - (n.start - p.at)) (drop (n.start - p.at) p.bytes); kind = Signal; arity = 0 }

abbrev pub entries_in : Place → LineTree → List NameEntry
entries_in p line = map (entry_in p) (declares line)

-- none of the later names is among these
abbrev pub are_new : List NameEntry → List NameEntry → Bool
are_new names later = list_all (λ n. is_none (number_of names n.text)) later

abbrev pub state_after : ListingState → Place → LineTree → Progress → ListingState
state_after s p line progress =
    record { at = p.at + (length p.bytes + 1); names = s.names ++ entries_in p line; progress = progress }

-- the state after a line, where it declares no name again
abbrev pub if_new : ListingState → Place → LineTree → Progress → Option ListingState
if_new s p line progress = if are_new s.names (entries_in p line) then Some (state_after s p line progress) else None

-- the line at this place, where it may stand next
abbrev pub with_line : ListingState → Place → LineTree → Option ListingState
with_line s p line = option_and_then (if_new s p line) (add s.progress line)

abbrev pub step_at : ListingState → Place → Option ListingState
step_at s p = option_and_then (with_line s p) (read_line p)

-- what the lines say with one more
abbrev pub step : ListingState → List ℕ → Option ListingState
step s bytes = step_at s (record { at = s.at; bytes = bytes })

-- what the code has read, where this is left
abbrev pub stage_progress : Stage → ListingTree → Progress
stage_progress Fresh l = fresh
stage_progress Going l = going l
stage_progress Done l = done l

abbrev pub progress_of : Begun → Progress
progress_of begun = stage_progress begun.stage (listing_tree begun.listing)

abbrev pub reader_state : ListingReader → ListingState
reader_state r = record { at = r.at; names = r.names; progress = progress_of r.begun }

-- a name lies in the line at this place
abbrev pub LiesIn : Place → Name → Type 0
LiesIn p n = (p.at ≤ n.start) × (n.start ≤ n.end) × (n.end ≤ p.at + length p.bytes)

abbrev pub DeclaresIn : Place → LineTree → Type 0
DeclaresIn p line = AllByRecursion (LiesIn p) (declares line)

-- a name is declared again, unless memory ran out
abbrev pub IsRepeated : Bool → LineError → Type 0
IsRepeated new Form = new ≡ false
IsRepeated new NoMemory = Unit {0}
