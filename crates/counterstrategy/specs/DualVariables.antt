-- The variables of the question for an environment, and their numbers.
use Rattle.std.specs.Prelude.{ℕ, ◌+◌, ◌-◌, ◌*◌, ◌/◌, ◌%◌, ◌<◌, nat_lt, cond, Bool, length}
use Rattle.letter_space.specs.Vectors.{vector_count}
use Rattle.bounded_encoding.specs.Question.{QuestionTree}

pub data DualVariable : Type 0 where
  -- in a state this predicate term is true, by its place
  holds_in : ℕ → ℕ → DualVariable
  -- from a state under a vector it goes to this state
  moves_to : ℕ → ℕ → ℕ → DualVariable
  -- the pair of a state and a state of the automaton has a number, at least this one
  has_number : ℕ → ℕ → ℕ → DualVariable

-- how many predicate terms and how many vectors there are
abbrev pub tests_in_all : QuestionTree → ℕ
tests_in_all q = length q.space.predicates

abbrev pub vectors_in_all : QuestionTree → ℕ
vectors_in_all q = vector_count q.space.controlled

-- how many variables come before those of successors, before those of numbers, and in all
abbrev pub before_moves : QuestionTree → ℕ
before_moves q = q.states * tests_in_all q

abbrev pub before_pairs : QuestionTree → ℕ
before_pairs q = before_moves q + q.states * vectors_in_all q * q.states

abbrev pub dual_variable_count : QuestionTree → ℕ
dual_variable_count q = before_pairs q + q.states * q.automaton_states * (q.bound + 1)

-- what is a variable of the question
abbrev pub IsDualVariable : QuestionTree → DualVariable → Type 0
IsDualVariable q (holds_in s b) = (s < q.states) × (b < tests_in_all q)
IsDualVariable q (moves_to s u t) = (s < q.states) × (u < vectors_in_all q) × (t < q.states)
IsDualVariable q (has_number s p i) = (s < q.states) × (p < q.automaton_states) × (i < q.bound + 1)

-- a variable's number less 1
abbrev pub dual_index : QuestionTree → DualVariable → ℕ
dual_index q (holds_in s b) = s * tests_in_all q + b
dual_index q (moves_to s u t) = before_moves q + (s * vectors_in_all q + u) * q.states + t
dual_index q (has_number s p i) = before_pairs q + (s * q.automaton_states + p) * (q.bound + 1) + i

-- the variable of three numbers whose place, in lexicographic order, is k, where there are m of the second and n of the third
abbrev pub variable_at_place : (ℕ → ℕ → ℕ → DualVariable) → ℕ → ℕ → ℕ → DualVariable
variable_at_place variable m n k = variable (k / n / m) (k / n % m) (k % n)

-- the variable with an index
abbrev pub dual_variable : QuestionTree → ℕ → DualVariable
dual_variable q k =
    cond (nat_lt k (before_moves q)) (holds_in (k / tests_in_all q) (k % tests_in_all q))
    (cond (nat_lt k (before_pairs q)) (variable_at_place moves_to (vectors_in_all q) q.states (k - before_moves q))
    (variable_at_place has_number q.automaton_states (q.bound + 1) (k - before_pairs q)))

-- whether an assignment makes a variable true
abbrev pub is_set_in : QuestionTree → (ℕ → Bool) → DualVariable → Bool
is_set_in q assignment variable = assignment (dual_index q variable)
