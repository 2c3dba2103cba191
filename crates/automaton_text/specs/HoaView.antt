-- Literals and a reader as the values that they stand for.
use Rattle.std.specs.Prelude.{ℕ, nat_lt, nat_le, Bool, ◌&&◌, List, [], length, map, Option, option_map}
use Rattle.std.specs.Prelude.{if◌then◌else◌}
use Rattle.std.proofs.Common.{inl, inr}
use Rattle.letter_space.specs.declared.limits.TheConstants.{MOST_BITS}
use Rattle.cobuchi_automata.specs.Automata.{EdgeTree}
use Rattle.cobuchi_automata.specs.Edges.{edge_trees}
use Rattle.cobuchi_automata.specs.Refusals.{most_automaton_states}
use Rattle.automaton_text.specs.declared.literals.Literal.{Literal}
use Rattle.automaton_text.specs.declared.header.Head.{Head as CodeHead}
use Rattle.automaton_text.specs.declared.header.Head.TheVariants.{Says, Counts, Lists}
use Rattle.automaton_text.specs.declared.reader.HoaReader.{HoaReader}
use Rattle.automaton_text.specs.HoaLines.{LiteralValue, LiteralTree, Head, says, counts, lists, header, State, step}

abbrev pub literal_tree : Literal → LiteralTree
literal_tree l = record { bit = l.bit; wanted = l.wanted }

abbrev pub literal_trees : List Literal → List LiteralTree
literal_trees ls = map literal_tree ls

-- a literal as it stands in a line
abbrev pub literal_value : Literal → LiteralValue
literal_value l = if l.wanted then inr (l.bit, tt) else inl (l.bit, tt)

abbrev pub head_tree : CodeHead → Head
head_tree (Says words) = says words.now
head_tree Counts = counts
head_tree Lists = lists

-- whether the edges of so many bits and states are kept
abbrev pub are_few : ℕ → ℕ → Bool
are_few bits states = nat_le bits MOST_BITS && nat_le states most_automaton_states

abbrev pub kept_edges : ℕ → ℕ → List EdgeTree → List EdgeTree
kept_edges bits states edges = if are_few bits states then edges else []

-- What a reader keeps of what the lines say: not what bits are called, and edges only within the limits.
abbrev pub kept : State → State
kept s = record s { names = []; edges = kept_edges s.bits s.states s.edges }

abbrev pub kept_step : State → List ℕ → Option State
kept_step s bytes = option_map kept (step s bytes)

-- in the header no edge was read
abbrev pub edges_read : HoaReader → List EdgeTree
edges_read r = if nat_lt r.passed (length header) then [] else edge_trees r.edges.items

abbrev pub reader_state : HoaReader → State
reader_state r = record {
  passed = r.passed;
  states = r.states;
  names = [];
  bits = r.bits;
  begun = r.begun;
  edges = kept_edges r.bits r.states (edges_read r);
  ended = r.ended;
}
