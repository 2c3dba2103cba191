-- What an assignment says of the variables of a question: the table of a controller, and numbers of pairs.
use Rattle.std.specs.Prelude.{ℕ, ◌+◌, ◌*◌, ◌/◌, ◌%◌, Bool, List, map, length, Option}
use Rattle.letter_space.specs.SpaceTree.{ControlledTree}
use Rattle.machines.specs.MachineTree.{EntryTree, ControllerTree}
use Rattle.bounded_encoding.specs.Question.{QuestionTree}
use Rattle.bounded_encoding.specs.ClauseLists.{below}
use Rattle.bounded_encoding.specs.Variables.{Variable, chooses, valuations_of, index_of}
use Rattle.bounded_encoding.specs.Encoding.{first_choice, controller_frame}
use Rattle.bounded_encoding.specs.Reading.{first_passing, next_of, number_of}

-- whether an assignment makes a variable true
abbrev pub is_set : QuestionTree → (ℕ → Bool) → Variable → Bool
is_set q assignment variable = assignment (index_of q variable)

-- the first choice of a signal whose variable is true, by its place among the signal's choices
abbrev pub choice_read : QuestionTree → (ℕ → Bool) → ℕ → ℕ → ControlledTree → ℕ
choice_read q assignment s v g = first_passing (λ c. is_set q assignment (chooses s v (first_choice q g + c))) (length g.choices)

-- the first next state whose variable is true
abbrev pub next_read : QuestionTree → (ℕ → Bool) → ℕ → ℕ → ℕ
next_read q = next_of (controller_frame q)

-- what is done in a state under a valuation
abbrev pub entry_read : QuestionTree → (ℕ → Bool) → ℕ → ℕ → EntryTree
entry_read q assignment s v =
    record { choices = map (choice_read q assignment s v) q.space.controlled; next = next_read q assignment s v }

-- the entries of all states, one state after another
abbrev pub entries_read : QuestionTree → (ℕ → Bool) → List EntryTree
entries_read q assignment =
    map (λ k. entry_read q assignment (k / valuations_of q) (k % valuations_of q))
    (below (q.states * valuations_of q))

abbrev pub controller_read : QuestionTree → (ℕ → Bool) → ControllerTree
controller_read q assignment =
    record { states = q.states; valuations = valuations_of q; entries = entries_read q assignment }

-- the number of a pair
abbrev pub number_read : QuestionTree → (ℕ → Bool) → ℕ → ℕ → Option ℕ
number_read q = number_of (controller_frame q)
