-- Internal: when what a reader read is an automaton, and which limit it passes.
use Rattle.std.specs.Prelude.{◌≡◌, ◌<◌, ◌≤◌, length}
use Rattle.std.specs.List.{AllByRecursion}
use Rattle.letter_space.specs.declared.limits.TheConstants.{MOST_BITS}
use Rattle.cobuchi_automata.specs.Refusals.{most_automaton_states, most_automaton_edges}
use Rattle.automaton_text.specs.declared.hoa_error.HoaError.{HoaError}
use Rattle.automaton_text.specs.declared.hoa_error.HoaError.TheVariants.{Form, Bits, States, Edges, NoMemory}
use Rattle.automaton_text.specs.HoaLines.{State}

-- it has a state, its edges are between its states, and the header is over
pub record HasAutomaton (s : State) : Type 0 where
  pub passed : s.passed ≡ 7
  pub some_state : 1 ≤ s.states
  pub between : AllByRecursion (λ e. (e.from < s.states) × (e.to < s.states)) s.edges

abbrev pub PassesLimit : State → HoaError → Type 0
PassesLimit s (Form line) = ⊥
PassesLimit s Bits = MOST_BITS < s.bits
PassesLimit s States = (s.bits ≤ MOST_BITS) × (most_automaton_states < s.states)
PassesLimit s Edges = (s.bits ≤ MOST_BITS) × (s.states ≤ most_automaton_states) × (most_automaton_edges < length s.edges)
PassesLimit s NoMemory = ⊥
