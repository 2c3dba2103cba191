-- What an assignment says of next states and of numbers of pairs.
use Rattle.std.specs.Prelude.{ℕ, zero, suc, ◌+◌, ◌*◌, ◌/◌, ◌%◌, Bool, List, Option, None, Some, map}
use Rattle.std.specs.List.{find, prefix_len}
use Rattle.std.specs.Option.{unwrap_or}
use Rattle.annotation_check.specs.Annotations.{number_of_pair}
use Rattle.bounded_encoding.specs.ClauseLists.{below}
use Rattle.bounded_encoding.specs.Frames.{FrameTree, next_at, number_at}

-- the first number below n that passes a test, and 0 where none does
abbrev pub first_passing : (ℕ → Bool) → ℕ → ℕ
first_passing test n = unwrap_or (find test (below n)) 0

-- the first next state whose variable is true
abbrev pub next_of : FrameTree → (ℕ → Bool) → ℕ → ℕ → ℕ
next_of f assignment s r = first_passing (λ t. assignment (next_at f s r t)) f.states

-- one less, where there is one less
abbrev pub one_less : ℕ → Option ℕ
one_less zero = None
one_less (suc n) = Some n

-- the number of a pair: how far the variables of its numbers are true without a gap, from that of 0 on
abbrev pub pair_number : FrameTree → (ℕ → Bool) → ℕ → ℕ → Option ℕ
pair_number f assignment s p = one_less (prefix_len (λ i. assignment (number_at f s p i)) (below (f.bound + 1)))

-- the numbers of all pairs, one state after another
abbrev pub numbers_of : FrameTree → (ℕ → Bool) → List (Option ℕ)
numbers_of f assignment =
    map (λ k. pair_number f assignment (k / f.automaton_states) (k % f.automaton_states)) (below (f.states * f.automaton_states))

abbrev pub number_of : FrameTree → (ℕ → Bool) → ℕ → ℕ → Option ℕ
number_of f assignment = number_of_pair f.automaton_states (numbers_of f assignment)

-- the next state, where the variables of next states begin at an index
abbrev pub next_from : (ℕ → Bool) → ℕ → ℕ → ℕ
next_from assignment base states = first_passing (λ t. assignment (base + t)) states

-- so many numbers, where the variables of numbers begin at an index and each has this many
abbrev pub number_from : (ℕ → Bool) → ℕ → ℕ → Option ℕ
number_from assignment base count = one_less (prefix_len (λ i. assignment (base + i)) (below count))

abbrev pub numbers_from_index : (ℕ → Bool) → ℕ → ℕ → ℕ → List (Option ℕ)
numbers_from_index assignment base count pairs = map (λ k. number_from assignment (base + k * count) count) (below pairs)
