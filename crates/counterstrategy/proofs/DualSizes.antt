-- The numbers of a question's variables fit.
use Rattle.std.proofs.Common.{◌≡◌, ◌<◌, ◌≤◌, ◌+◌, ◌*◌, ◌^◌, ℕ, arith}
use Rattle.std.proofs.Math.Nat.{mul-le-mul}
use Rattle.letter_space.specs.declared.limits.TheConstants.{MOST_VECTORS}
use Rattle.cobuchi_automata.specs.declared.build_error.TheConstants.{MOST_AUTOMATON_STATES}
use Rattle.refutation_check.specs.declared.limits.TheConstants.{MOST_CLAUSES}
use Rattle.bounded_encoding.proofs.Posed.{is_posed}
use Rattle.bounded_encoding.proofs.Sizes.{bound_fits}
use Rattle.counterstrategy.specs.DualVariables.{tests_in_all, vectors_in_all}
use Rattle.counterstrategy.specs.declared.dual_asking.DualQuestion.{DualQuestion}
use Rattle.counterstrategy.specs.internal.DualAsking.{dual_tree, vector_letters, IsDualCounted}
use Rattle.counterstrategy.proofs.DualOver.{tests_fit}

-- all variables, by the counts of the question
pub few_variables : (q : DualQuestion) → IsDualCounted q
    → q.states * q.tests + q.states * q.vectors * q.states + q.states * q.automaton.now.states * (q.bound + 1) < 2 ^ 31
few_variables q h = rw (h.tests, h.vectors) h.few

-- the indices of predicate terms
pub test_fits : (q : DualQuestion) (s : ℕ) → s < q.states → s * q.tests + q.tests ≤ q.states * q.tests
test_fits q s l = tests_fit s q.states q.tests l

-- a question within the limits, with right counts, is one that is asked
variables_fit : (s t u p k : ℕ) → s ≤ 8 → t ≤ 10 → u ≤ 1024 → p ≤ 4096 → s * p * k ≤ 2000000
    → s * t + s * u * s + s * p * (k + 1) < 2 ^ 31
variables_fit s t u p k few_s few_t few_u few_p few_k =
    let tests : s * t ≤ 8 * 10 = mul-le-mul few_s few_t in
    let cells : s * u ≤ 8 * 1024 = mul-le-mul few_s few_u in
    let moves : s * u * s ≤ 8 * 1024 * 8 = mul-le-mul cells few_s in
    let pairs : s * p ≤ 8 * 4096 = mul-le-mul few_s few_p in
    let numbers : s * p * (k + 1) ≡ s * p * k + s * p = grind arith in
    omega (arith, tests, moves, pairs, numbers, few_k)

pub is_dual_asked : (q : DualQuestion) → 1 ≤ q.states → q.states ≤ 8 → q.automaton.now.states ≤ MOST_AUTOMATON_STATES
    → q.states * q.automaton.now.states * q.bound ≤ MOST_CLAUSES → q.vectors ≤ MOST_VECTORS → q.tests ≡ tests_in_all (dual_tree q)
    → q.vectors ≡ vectors_in_all (dual_tree q) → q.letters.now ≡ vector_letters (dual_tree q).space q.vectors → IsDualCounted q
is_dual_asked q some_state few_states few_automaton few_numbers few_vectors t v ls = record {
  posed = is_posed q.automaton.now q.space.now q.states q.bound some_state;
  tests = t;
  vectors = v;
  letters = rw v at ls;
  few = variables_fit q.states (tests_in_all (dual_tree q)) (vectors_in_all (dual_tree q)) q.automaton.now.states q.bound few_states
      q.space.now.is_space.few_predicates (omega (arith, v, few_vectors)) few_automaton few_numbers;
  low_bound = bound_fits q.states q.automaton.now.states q.bound some_state q.automaton.now.starts few_numbers;
}
