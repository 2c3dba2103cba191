-- The numbers of a question's variables fit.
use Rattle.std.proofs.Common.{◌≡◌, ◌<◌, ◌≤◌, ◌+◌, ◌*◌, ◌^◌, ℕ, length, arith}
use Rattle.std.proofs.Math.Nat.{mul-le-mul, mul-le-mul_left, mul-le-mul_right}
use Rattle.std.proofs.Math.Pow.{pow_mono}
use Rattle.cobuchi_automata.specs.declared.build_error.TheConstants.{MOST_AUTOMATON_STATES}
use Rattle.refutation_check.specs.declared.limits.TheConstants.{MOST_CLAUSES}
use Rattle.bounded_encoding.specs.FrameView.{frame_tree, IsFramed}
use Rattle.bounded_encoding.specs.declared.frame.Frame.{Frame}
use Rattle.bounded_encoding.specs.Variables.{valuations_of, choices_in_all}
use Rattle.bounded_encoding.specs.declared.asking.Question.{Question}
use Rattle.bounded_encoding.specs.internal.Asking.{tree_of, IsCounted}
use Rattle.bounded_encoding.proofs.Posed.{is_posed}
use Rattle.bounded_encoding.proofs.Adding.{row, in_table}

pub le_times : (a b : ℕ) → 1 ≤ b → a ≤ a * b
le_times a b h = let e : a * 1 ≤ a * b = mul-le-mul_left a h in omega (arith, e)

-- all variables, by the counts of the question
pub few_counted : (q : Question) → IsCounted q
    → q.states * q.valuations * q.choices + q.states * q.valuations * q.states + q.states * q.automaton.now.states * (q.bound + 1) < 2 ^ 31
few_counted q h = rw (h.valuations, h.choices) h.few

-- the indices of choices
pub choice_fits : (q : Question) → IsCounted q → (s v : ℕ) → s < q.states → v < q.valuations
    → (s * q.valuations + v + 1 ≤ q.states * q.valuations) ×
    ((s * q.valuations + v) * q.choices + q.choices ≤ q.states * q.valuations * q.choices)
choice_fits q h s v l m = (in_table q.states q.valuations s v l m, row q.states q.valuations q.choices s v l m)

-- all variables of a frame, and the indices of its next states and its numbers
pub few_variables : (f : Frame) → IsFramed (frame_tree f) →
    f.own + f.states * f.rows * f.states + f.states * f.automaton.now.states * (f.bound + 1) < 2 ^ 31
few_variables f h = h.few

pub few_cells : (f : Frame) → IsFramed (frame_tree f) → f.states * f.rows < 2 ^ 31
few_cells f h = omega (arith, few_variables f h, le_times (f.states * f.rows) f.states h.has_state)

pub few_pairs : (f : Frame) → IsFramed (frame_tree f) → f.states * f.automaton.now.states < 2 ^ 31
few_pairs f h =
    let e : f.states * f.automaton.now.states ≤ f.states * f.automaton.now.states * (f.bound + 1) = le_times
    (f.states * f.automaton.now.states) (f.bound + 1) (omega arith) in omega (arith, few_variables f h, e)

pub next_fits : (f : Frame) (s r : ℕ) → s < f.states → r < f.rows
    → (s * f.rows + r + 1 ≤ f.states * f.rows) × ((s * f.rows + r) * f.states + f.states ≤ f.states * f.rows * f.states)
next_fits f s r l m = (in_table f.states f.rows s r l m, row f.states f.rows f.states s r l m)

pub number_fits : (f : Frame) (s p : ℕ) → s < f.states → p < f.automaton.now.states
    → (s * f.automaton.now.states + p + 1 ≤ f.states * f.automaton.now.states)
    × ((s * f.automaton.now.states + p) * (f.bound + 1) + (f.bound + 1) ≤ f.states * f.automaton.now.states * (f.bound + 1))
number_fits f s p l m = (in_table f.states f.automaton.now.states s p l m, row f.states f.automaton.now.states (f.bound + 1) s p l m)

-- a question within the limits, with right counts, is one that is asked
few_valuations : (n : ℕ) → n ≤ 10 → 2 ^ n ≤ 1024
few_valuations n h = pow_mono h

pub variables_fit : (s v b p k : ℕ) → s ≤ 8 → v ≤ 1024 → b ≤ 64 → p ≤ 4096 → s * p * k ≤ 2000000
    → s * v * b + s * v * s + s * p * (k + 1) < 2 ^ 31
variables_fit s v b p k few_s few_v few_b few_p few_k =
    let cells : s * v ≤ 8 * 1024 = mul-le-mul few_s few_v in
    let choices : s * v * b ≤ 8 * 1024 * 64 = mul-le-mul cells few_b in
    let nexts : s * v * s ≤ 8 * 1024 * 8 = mul-le-mul cells few_s in
    let pairs : s * p ≤ 8 * 4096 = mul-le-mul few_s few_p in
    let numbers : s * p * (k + 1) ≡ s * p * k + s * p = grind arith in
    omega (arith, choices, nexts, pairs, numbers, few_k)

pub bound_fits : (s p k : ℕ) → 1 ≤ s → 1 ≤ p → s * p * k ≤ 2000000 → k + 1 < 2 ^ 31
bound_fits s p k some_s some_p few =
    let some : 1 * 1 ≤ s * p = mul-le-mul some_s some_p in
    let more : 1 * k ≤ s * p * k = mul-le-mul_right k (omega (arith, some)) in
    omega (arith, more, few)

pub is_asked : (q : Question) → 1 ≤ q.states → q.states ≤ 8 → q.automaton.now.states ≤ MOST_AUTOMATON_STATES
    → q.states * q.automaton.now.states * q.bound ≤ MOST_CLAUSES → q.predicates ≡ length (tree_of q).space.predicates
    → q.valuations ≡ valuations_of (tree_of q) → q.choices ≡ choices_in_all (tree_of q) → IsCounted q
is_asked q some_state few_states few_automaton few_numbers p v c = record {
  posed = is_posed q.automaton.now q.space.now q.states q.bound some_state;
  predicates = p;
  valuations = v;
  choices = c;
  few = variables_fit q.states (valuations_of (tree_of q)) (choices_in_all (tree_of q)) q.automaton.now.states q.bound few_states
      (few_valuations (length (tree_of q).space.predicates) q.space.now.is_space.few_predicates)
      (omega (arith, q.space.now.is_space.few_bits)) few_automaton few_numbers;
  low_bound = bound_fits q.states q.automaton.now.states q.bound some_state q.automaton.now.starts few_numbers;
}
