-- The variables of the question for a controller, and their numbers.
use Rattle.std.specs.Prelude.{ℕ, ◌+◌, ◌*◌, ◌<◌, List, ◌++◌, map}
use Rattle.std.specs.List.{flat_map}
use Rattle.clause_core.specs.Literals.{Lit}
use Rattle.letter_space.specs.SpaceTree.{choice_count}
use Rattle.letter_space.specs.Letters.{valuation_count}
use Rattle.bounded_encoding.specs.Question.{QuestionTree}
use Rattle.bounded_encoding.specs.ClauseLists.{below}
use Rattle.bounded_encoding.specs.SimpleClauses.{yes_at, no_at}

pub data Variable : Type 0 where
  -- in a state under a valuation this choice is taken, by its place among the choices of all signals
  chooses : ℕ → ℕ → ℕ → Variable
  -- from a state under a valuation it goes to this state
  goes_to : ℕ → ℕ → ℕ → Variable
  -- the pair of a state and a state of the automaton has a number, at least this one
  is_numbered : ℕ → ℕ → ℕ → Variable

-- how many valuations and how many choices there are
abbrev pub valuations_of : QuestionTree → ℕ
valuations_of q = valuation_count q.space

abbrev pub choices_in_all : QuestionTree → ℕ
choices_in_all q = choice_count q.space.controlled

-- how many variables come before those of next states, before those of numbers, and in all
abbrev pub before_next : QuestionTree → ℕ
before_next q = q.states * valuations_of q * choices_in_all q

abbrev pub before_numbers : QuestionTree → ℕ
before_numbers q = before_next q + q.states * valuations_of q * q.states

abbrev pub variable_count : QuestionTree → ℕ
variable_count q = before_numbers q + q.states * q.automaton_states * (q.bound + 1)

-- what is a variable of the question
abbrev pub IsInRange : QuestionTree → Variable → Type 0
IsInRange q (chooses s v b) = (s < q.states) × (v < valuations_of q) × (b < choices_in_all q)
IsInRange q (goes_to s v t) = (s < q.states) × (v < valuations_of q) × (t < q.states)
IsInRange q (is_numbered s p i) = (s < q.states) × (p < q.automaton_states) × (i < q.bound + 1)

-- a variable's number less 1
abbrev pub index_of : QuestionTree → Variable → ℕ
index_of q (chooses s v b) = (s * valuations_of q + v) * choices_in_all q + b
index_of q (goes_to s v t) = before_next q + (s * valuations_of q + v) * q.states + t
index_of q (is_numbered s p i) = before_numbers q + (s * q.automaton_states + p) * (q.bound + 1) + i

-- the variables of three numbers below three others, in lexicographic order
abbrev pub grid : (ℕ → ℕ → ℕ → Variable) → ℕ → ℕ → ℕ → List Variable
grid variable l m n = flat_map (λ a. flat_map (λ b. map (λ c. variable a b c) (below n)) (below m)) (below l)

-- all variables, in the order of their numbers
abbrev pub variables : QuestionTree → List Variable
variables q = grid chooses q.states (valuations_of q) (choices_in_all q)
    ++ (grid goes_to q.states (valuations_of q) q.states ++ grid is_numbered q.states q.automaton_states (q.bound + 1))

-- the two literals of a variable
abbrev pub yes : QuestionTree → Variable → Lit
yes q variable = yes_at (index_of q variable)

abbrev pub no : QuestionTree → Variable → Lit
no q variable = no_at (index_of q variable)
