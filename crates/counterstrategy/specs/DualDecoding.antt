-- What an assignment says of the variables of a question: the table of an environment, and numbers of pairs.
use Rattle.std.specs.Prelude.{ℕ, zero, suc, ◌*◌, ◌/◌, ◌%◌, cond, Bool, List, map, Option}
use Rattle.letter_space.specs.Letters.{with_bit}
use Rattle.machines.specs.MachineTree.{EnvironmentTree}
use Rattle.bounded_encoding.specs.Question.{QuestionTree}
use Rattle.bounded_encoding.specs.ClauseLists.{below}
use Rattle.bounded_encoding.specs.Reading.{next_of, number_of}
use Rattle.counterstrategy.specs.DualVariables.{holds_in, tests_in_all, vectors_in_all, is_set_in}
use Rattle.counterstrategy.specs.DualEncoding.{environment_frame}

-- the number whose bits below n are those that pass a test
abbrev pub bits_passing : (ℕ → Bool) → ℕ → ℕ
bits_passing test zero = 0
bits_passing test (suc n) = cond (test n) (with_bit (bits_passing test n) n) (bits_passing test n)

-- what is true in a state: the predicate terms whose variables are true
abbrev pub truths_read : QuestionTree → (ℕ → Bool) → ℕ → ℕ
truths_read q assignment s = bits_passing (λ b. is_set_in q assignment (holds_in s b)) (tests_in_all q)

-- the first successor whose variable is true
abbrev pub successor_read : QuestionTree → (ℕ → Bool) → ℕ → ℕ → ℕ
successor_read q = next_of (environment_frame q)

-- the successors of all states, one state after another
abbrev pub successors_read : QuestionTree → (ℕ → Bool) → List ℕ
successors_read q assignment =
    map (λ k. successor_read q assignment (k / vectors_in_all q) (k % vectors_in_all q)) (below (q.states * vectors_in_all q))

abbrev pub environment_read : QuestionTree → (ℕ → Bool) → EnvironmentTree
environment_read q assignment = record {
  states = q.states;
  vectors = vectors_in_all q;
  truths = map (truths_read q assignment) (below q.states);
  next = successors_read q assignment;
}

-- the number of a pair
abbrev pub dual_number_read : QuestionTree → (ℕ → Bool) → ℕ → ℕ → Option ℕ
dual_number_read q = number_of (environment_frame q)
