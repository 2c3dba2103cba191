-- The question for a controller with so many states that has an annotation within a bound.
-- Source: Schewe, Finkbeiner: Bounded Synthesis (ATVA 2007).
use Rattle.std.specs.Prelude.{◌≡◌, ◌<◌, ◌≤◌, ℕ, List, Option}
use Rattle.std.specs.List.{AllByRecursion}
use Rattle.ltl_formula.specs.Cubes.{IsWithin}
use Rattle.letter_space.specs.SpaceTree.{SpaceTree, IsSpace}
use Rattle.cobuchi_automata.specs.Automata.{EdgeTree}
use Rattle.machines.specs.MachineTree.{ControllerTree, IsController}
use Rattle.machines.specs.Moves.{FitsSpace, controller_moves}
use Rattle.annotation_check.specs.Annotations.{edges_from, IsAnnotation}

-- Is there a controller with so many states that has an annotation within a bound, for an automaton over the letters of a space?
pub record QuestionTree : Type 0 where
  pub space : SpaceTree
  pub automaton_states : ℕ
  pub edges : List EdgeTree
  pub states : ℕ
  pub bound : ℕ

-- a controller with that many states that fits the space, and an annotation of it within the bound
pub record IsSolution (q : QuestionTree) (c : ControllerTree) (number : ℕ → ℕ → Option ℕ) : Type 0 where
  pub table : IsController c
  pub states : c.states ≡ q.states
  pub fits : FitsSpace q.space c
  pub annotation : IsAnnotation (edges_from q.edges) (controller_moves q.space c) q.bound number

-- there is none
abbrev pub HasNoController : QuestionTree → Type 0
HasNoController q = (c : ControllerTree) (number : ℕ → ℕ → Option ℕ) → IsSolution q c number → ⊥

-- an edge between states with numbers below a bound
abbrev pub JoinsStates : ℕ → EdgeTree → Type 0
JoinsStates states e = (e.from < states) × (e.to < states)

-- an edge wants only bits that it asks for
abbrev pub WantsAsked : EdgeTree → Type 0
WantsAsked e = IsWithin e.care e.want

-- What holds of each question that is asked: its space is one, there are states, edges are between states, and each wants only
-- what it asks for. An edge may want a bit that the space lacks; it matches no letter. One that the space lacks and that is to be
-- unset asks nothing.
pub record IsPosed (q : QuestionTree) : Type 0 where
  pub space : IsSpace q.space
  pub has_state : 1 ≤ q.states
  pub automaton_starts : 1 ≤ q.automaton_states
  pub between : AllByRecursion (JoinsStates q.automaton_states) q.edges
  pub within : AllByRecursion WantsAsked q.edges
