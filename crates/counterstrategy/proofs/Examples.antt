-- Worked examples: a question for an environment with one test and one signal of two choices, and what its clauses say.
use Rattle.std.specs.Prelude.{◌≡◌, ℕ, zero, suc, Bool, true, false, [], ◌∷◌, None, Some}
use Rattle.std.proofs.Common.{refl}
use Rattle.tsl_terms.specs.TermTree.{signal, no_terms}
use Rattle.cobuchi_automata.specs.Automata.{EdgeTree}
use Rattle.clause_core.specs.Clauses.{meets_all}
use Rattle.machines.specs.MachineTree.{EnvironmentTree}
use Rattle.bounded_encoding.specs.Question.{QuestionTree}
use Rattle.bounded_encoding.specs.SimpleClauses.{yes_at, no_at}
use Rattle.bounded_encoding.specs.Reading.{numbers_of}
use Rattle.machines.specs.Moves.{environment_moves}
use Rattle.counterstrategy.specs.DualVariables.{holds_in, moves_to, has_number, dual_index, dual_variable, dual_variable_count}
use Rattle.counterstrategy.specs.DualEncoding.{environment_frame, met_vectors, dual_encoding}
use Rattle.counterstrategy.specs.DualDecoding.{bits_passing, environment_read, dual_number_read}

-- a loop that is rejecting, where the test holds and the first choice is taken
abbrev edge : EdgeTree
edge = record { from = 0; care = 3; want = 3; to = 0; rejecting = true }

-- the test of a predicate at bit 0, and a cell 0 that takes signal 1 or itself, at bits 1 and 2
abbrev question : ℕ → QuestionTree
question bound = record {
  space = record {
    predicates = record { predicate = 2; arguments = no_terms } ∷ [];
    controlled = record { signal = 0; choices = signal 1 ∷ signal 0 ∷ []; first = 1 } ∷ [];
  };
  automaton_states = 1;
  edges = edge ∷ [];
  states = 1;
  bound = bound;
}

test_is_first : dual_index (question 1) (holds_in 0 0) ≡ 0
test_is_first = refl

second_vector_behind : dual_index (question 1) (moves_to 0 1 0) ≡ 2
second_vector_behind = refl

numbers_last : dual_index (question 1) (has_number 0 0 1) ≡ 4
numbers_last = refl

how_many : dual_variable_count (question 1) ≡ 5
how_many = refl

read_back : dual_variable (question 1) 2 ≡ moves_to 0 1 0
read_back = refl

-- under the first vector alone the edge has clauses: where the test holds, the number is above the bound
clauses : dual_encoding (question 0)
    ≡ (yes_at 1 ∷ []) ∷ (yes_at 2 ∷ []) ∷ (yes_at 3 ∷ []) ∷ (no_at 3 ∷ no_at 1 ∷ no_at 0 ∷ []) ∷ []
clauses = refl

-- within a larger bound a number of 0 is raised to 1
clauses_of_two_numbers : dual_encoding (question 1)
    ≡ (yes_at 1 ∷ []) ∷ (yes_at 2 ∷ []) ∷ (yes_at 3 ∷ []) ∷ (no_at 4 ∷ yes_at 3 ∷ [])
    ∷ (no_at 3 ∷ no_at 1 ∷ no_at 0 ∷ yes_at 4 ∷ []) ∷ (no_at 4 ∷ no_at 1 ∷ no_at 0 ∷ []) ∷ []
clauses_of_two_numbers = refl

-- all but the test
abbrev test_fails : ℕ → Bool
test_fails zero = false
test_fails (suc n) = true

abbrev test_holds : ℕ → Bool
test_holds n = true

met : meets_all test_fails (dual_encoding (question 0)) ≡ true
met = refl

not_met : meets_all test_holds (dual_encoding (question 0)) ≡ false
not_met = refl

-- the environment that makes the test fail
abbrev environment : EnvironmentTree
environment = record { states = 1; vectors = 2; truths = 0 ∷ []; next = 0 ∷ 0 ∷ [] }

what_is_read : environment_read (question 0) test_fails ≡ environment
what_is_read = refl

number_of_start : dual_number_read (question 0) test_fails 0 0 ≡ Some 0
number_of_start = refl

nothing_true : numbers_of (environment_frame (question 1)) (λ n. false) ≡ None ∷ []
nothing_true = refl

second_bit_alone : bits_passing (λ b. test_fails b) 2 ≡ 2
second_bit_alone = refl

-- under each vector the letter has the bit of its choice, and that of no test
moves : environment_moves (question 0).space environment 0 ≡ record { letter = 2; next = 0 } ∷ record { letter = 4; next = 0 } ∷ []
moves = refl

moves_of_true : environment_moves (question 0).space (record { states = 1; vectors = 2; truths = 1 ∷ []; next = 0 ∷ 0 ∷ [] }) 0
    ≡ record { letter = 3; next = 0 } ∷ record { letter = 5; next = 0 } ∷ []
moves_of_true = refl

no_second_state : environment_moves (question 0).space environment 1 ≡ []
no_second_state = refl

abbrev asking : ℕ → ℕ → EdgeTree
asking care want = record { from = 0; care = care; want = want; to = 0; rejecting = false }

all_vectors : met_vectors (question 0) (asking 0 0) ≡ 0 ∷ 1 ∷ []
all_vectors = refl

tests_ask_no_vector : met_vectors (question 0) (asking 1 1) ≡ 0 ∷ 1 ∷ []
tests_ask_no_vector = refl

second_choice : met_vectors (question 0) (asking 4 4) ≡ 1 ∷ []
second_choice = refl

not_second_choice : met_vectors (question 0) (asking 4 0) ≡ 0 ∷ []
not_second_choice = refl

-- bit 3 is not of the space: to want it is never met, and to want it unset asks nothing
wants_a_bit_that_lacks : met_vectors (question 0) (asking 8 8) ≡ []
wants_a_bit_that_lacks = refl

unset_bit_that_lacks : met_vectors (question 0) (asking 12 4) ≡ 1 ∷ []
unset_bit_that_lacks = refl
