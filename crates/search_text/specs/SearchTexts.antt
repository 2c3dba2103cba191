-- How the answers are written that are no program: that no controller of some size has an annotation, and that the budget
-- of a search was spent. These formats are the project's own.
use Rattle.std.specs.Prelude.{ℕ, List, ◌++◌, map, filter, codes, decimal, ⊤}
use Rattle.base_library.specs.Numbers.{numbers_from}
use Rattle.tsl_text.specs.Written.{text_of_lines}
use Rattle.tsl_terms.specs.Name.{Name}
use Rattle.ltl_formula.specs.Cubes.{has_bit}
use Rattle.letter_space.specs.SpaceTree.{SpaceTree}
use Rattle.cobuchi_automata.specs.Automata.{EdgeTree}
use Rattle.machines.specs.declared.side.Side.{Side}
use Rattle.machines.specs.declared.side.Side.TheVariants.{Controller, Environment}
use Rattle.machines.specs.MachineTree.{EnvironmentTree}
use Rattle.machines.specs.MachineView.{environment_tree}
use Rattle.machines.specs.Moves.{EnvironmentFits}
use Rattle.machines.specs.Rounds.{RoundTree}
use Rattle.clause_core.specs.Literals.{Lit}
use Rattle.refutation_text.specs.Written.{clause_line}
use Rattle.search_text.specs.declared.ReasonText.{ReasonText}
use Rattle.search_text.specs.declared.ReasonText.TheVariants.{Rounds, NoCounter, Genuine}
use Rattle.environment_text.specs.EnvironmentText.{count_line, bit_text, environment_text}
use Rattle.environment_text.specs.RoundTexts.{rounds_text}

-- why a search ended without a controller: as many rounds as allowed were made, there is no environment with so many states and an
-- annotation within a bound, or no window rules out this environment
pub data ReasonTree : Type 0 where
  rounds_made : ℕ → ReasonTree
  no_counter : ℕ → ℕ → ReasonTree
  genuine : EnvironmentTree → ReasonTree

abbrev pub reason_tree : ReasonText → ReasonTree
reason_tree (Rounds count) = rounds_made count
reason_tree (NoCounter states bound) = no_counter states bound
reason_tree (Genuine e) = genuine (environment_tree e.now)

-- two numbers after a word
abbrev pub sizes_line : List ℕ → ℕ → ℕ → List ℕ
sizes_line word states bound = word ++ codes " " ++ decimal states ++ codes " " ++ decimal bound ++ codes "\n"

abbrev pub reason_text : List Name → SpaceTree → ReasonTree → List ℕ
reason_text names space (rounds_made count) = count_line (codes "reason rounds") count
reason_text names space (no_counter states bound) = sizes_line (codes "reason nocounter") states bound
reason_text names space (genuine e) = codes "reason genuine\n" ++ environment_text names space e

-- No controller with so many states has an annotation within the bound under the windows of these rounds, and why the search ended.
abbrev pub none_text : List Name → SpaceTree → ℕ → ℕ → List RoundTree → ReasonTree → List ℕ
none_text names space states bound rounds reason =
    codes "none\n" ++ count_line (codes "states") states ++ count_line (codes "bound") bound
    ++ rounds_text names space rounds ++ reason_text names space reason ++ codes "end\n"

-- the literal of a bit, which is the variable of the same index: positive where the bit is to be set
abbrev pub bit_literal : ℕ → ℕ → Lit
bit_literal want b = record { index = b; positive = has_bit b want }

-- what a cube asks of some bits, in their order
abbrev pub asked_literals : ℕ → ℕ → List ℕ → List Lit
asked_literals care want bits = map (bit_literal want) (filter (λ b. has_bit b care) bits)

-- what a cube asks of a letter's 64 bits, by rising bit
unfoldable pub cube_literals : ℕ → ℕ → List Lit
cube_literals care want = asked_literals care want (numbers_from 0 64)

-- the states that an edge joins, its mark, which is 1 on a rejecting edge, and what its cube asks
abbrev pub edge_line : EdgeTree → List ℕ
edge_line e =
    codes "edge " ++ decimal e.from ++ codes " " ++ decimal e.to ++ codes " " ++ bit_text e.rejecting
    ++ codes " " ++ clause_line (cube_literals e.care e.want)

-- a clause that was learnt
abbrev pub learnt_line : List Lit → List ℕ
learnt_line clause = codes "clause " ++ clause_line clause

-- whose machine was searched for
abbrev pub side_text : Side → List ℕ
side_text Controller = codes "controller"
side_text Environment = codes "environment"

-- The search for a machine of this side with so many states and an annotation within the bound stopped, under the windows of these
-- rounds, when these clauses were learnt. The edges are those of the automaton that was asked.
abbrev pub spent_text : List Name → SpaceTree → Side → ℕ → ℕ → List RoundTree → ℕ → List EdgeTree → List (List Lit) → List ℕ
spent_text names space side states bound rounds automaton_states edges clauses =
    codes "spent " ++ side_text side ++ codes "\n" ++ sizes_line (codes "sizes") states bound
    ++ rounds_text names space rounds ++ count_line (codes "automaton") automaton_states
    ++ text_of_lines (map edge_line edges) ++ text_of_lines (map learnt_line clauses) ++ codes "end\n"

-- a reason can be written
abbrev pub ReasonFits : SpaceTree → ReasonTree → Type 0
ReasonFits space (rounds_made count) = ⊤
ReasonFits space (no_counter states bound) = ⊤
ReasonFits space (genuine e) = EnvironmentFits space e
