-- Worked examples: a question with one state, one valuation, one signal of two choices and one edge, and what its clauses say.
use Rattle.std.specs.Prelude.{◌≡◌, ℕ, zero, suc, Bool, true, false, [], ◌∷◌, None, Some}
use Rattle.std.proofs.Common.{refl}
use Rattle.tsl_terms.specs.TermTree.{signal, no_terms}
use Rattle.cobuchi_automata.specs.Automata.{EdgeTree}
use Rattle.clause_core.specs.Clauses.{meets_all}
use Rattle.bounded_encoding.specs.Question.{QuestionTree}
use Rattle.bounded_encoding.specs.SimpleClauses.{yes_at, no_at}
use Rattle.bounded_encoding.specs.Variables.{chooses, goes_to, is_numbered, index_of, variable_count}
use Rattle.bounded_encoding.specs.Encoding.{met_valuations, encoding, controller_frame}
use Rattle.bounded_encoding.specs.Decoding.{controller_read, number_read}
use Rattle.bounded_encoding.specs.Reading.{numbers_of}

-- a loop that is rejecting, along the first choice
abbrev along_first : EdgeTree
along_first = record { from = 0; care = 1; want = 1; to = 0; rejecting = true }

-- a cell 0 that takes signal 1 or itself
abbrev question : ℕ → QuestionTree
question bound = record {
  space = record {
    predicates = [];
    controlled = record { signal = 0; choices = signal 1 ∷ signal 0 ∷ []; first = 0 } ∷ [];
  };
  automaton_states = 1;
  edges = along_first ∷ [];
  states = 1;
  bound = bound;
}

first_choice_is_first : index_of (question 1) (chooses 0 0 0) ≡ 0
first_choice_is_first = refl

next_state_behind : index_of (question 1) (goes_to 0 0 0) ≡ 2
next_state_behind = refl

numbers_last : index_of (question 1) (is_numbered 0 0 1) ≡ 4
numbers_last = refl

how_many : variable_count (question 1) ≡ 5
how_many = refl

-- one choice, one next state, the start is numbered, and the edge leads above the bound
clauses : encoding (question 0)
    ≡ (yes_at 0 ∷ yes_at 1 ∷ []) ∷ (no_at 1 ∷ no_at 0 ∷ []) ∷ (yes_at 2 ∷ []) ∷ (yes_at 3 ∷ []) ∷ (no_at 3 ∷ no_at 2 ∷ no_at 0 ∷ []) ∷ []
clauses = refl

-- within a larger bound a number of 0 is raised to 1, and one of 1 is above it
clauses_of_two_numbers : encoding (question 1)
    ≡ (yes_at 0 ∷ yes_at 1 ∷ []) ∷ (no_at 1 ∷ no_at 0 ∷ []) ∷ (yes_at 2 ∷ []) ∷ (yes_at 3 ∷ []) ∷ (no_at 4 ∷ yes_at 3 ∷ [])
    ∷ (no_at 3 ∷ no_at 2 ∷ no_at 0 ∷ yes_at 4 ∷ []) ∷ (no_at 4 ∷ no_at 2 ∷ no_at 0 ∷ []) ∷ []
clauses_of_two_numbers = refl

-- all but the first choice
abbrev second_choice : ℕ → Bool
second_choice zero = false
second_choice (suc n) = true

abbrev first_choice_too : ℕ → Bool
first_choice_too n = true

met : meets_all second_choice (encoding (question 0)) ≡ true
met = refl

not_met : meets_all first_choice_too (encoding (question 0)) ≡ false
not_met = refl

controller : controller_read (question 1) second_choice
    ≡ record { states = 1; valuations = 1; entries = record { choices = 1 ∷ []; next = 0 } ∷ [] }
controller = refl

number_of_start : number_read (question 1) second_choice 0 0 ≡ Some 1
number_of_start = refl

no_second_state : number_read (question 1) second_choice 1 0 ≡ None
no_second_state = refl

-- no variable is true: the first choice, and no number
nothing_true : numbers_of (controller_frame (question 1)) (λ n. false) ≡ None ∷ []
nothing_true = refl

-- two predicate terms before the choices, at bits 0 and 1
abbrev tested : QuestionTree
tested = record {
  space = record {
    predicates = record { predicate = 2; arguments = no_terms } ∷ record { predicate = 3; arguments = no_terms } ∷ [];
    controlled = record { signal = 0; choices = signal 1 ∷ signal 0 ∷ []; first = 2 } ∷ [];
  };
  automaton_states = 1;
  edges = [];
  states = 1;
  bound = 0;
}

abbrev edge : ℕ → ℕ → EdgeTree
edge care want = record { from = 0; care = care; want = want; to = 0; rejecting = false }

all_valuations : met_valuations tested (edge 0 0) ≡ 0 ∷ 1 ∷ 2 ∷ 3 ∷ []
all_valuations = refl

second_test_holds : met_valuations tested (edge 2 2) ≡ 2 ∷ 3 ∷ []
second_test_holds = refl

choices_ask_no_valuation : met_valuations tested (edge 6 4) ≡ 0 ∷ 1 ∷ []
choices_ask_no_valuation = refl

-- bit 4 is not of the space: to want it is never met, and to want it unset asks nothing
wants_a_bit_that_lacks : met_valuations tested (edge 16 16) ≡ []
wants_a_bit_that_lacks = refl

unset_bit_that_lacks : met_valuations tested (edge 18 2) ≡ 2 ∷ 3 ∷ []
unset_bit_that_lacks = refl
