-- The environment's side: the clauses are over the variables that are counted, and those of numbers are kept.
use Rattle.std.proofs.Common.{◌<◌, ◌≤◌, ◌+◌, ◌*◌, ℕ, suc, ◌≡◌, length, All, arith}
use Rattle.std.specs.List.{AllByRecursion}
use Rattle.std.proofs.Math.Nat.{mul-le-mul_right}
use Rattle.clause_core.specs.Clauses.{IsOver}
use Rattle.cobuchi_automata.specs.Automata.{EdgeTree}
use Rattle.bounded_encoding.specs.Question.{QuestionTree, IsPosed}
use Rattle.bounded_encoding.specs.Sides.{IsSide}
use Rattle.bounded_encoding.proofs.Gathering.{below_filtered}
use Rattle.bounded_encoding.proofs.LeftOut.{side_numbers_within}
use Rattle.bounded_encoding.proofs.Over.{over_side, over_kept, all_over}
use Rattle.counterstrategy.specs.DualVariables.{tests_in_all, vectors_in_all, dual_variable_count}
use Rattle.counterstrategy.specs.DualEncoding.{meets_choices, met_vectors, environment_side, dual_demands, dual_encoding}

pub met_vectors_below : (q : QuestionTree) (e : EdgeTree) → AllByRecursion (λ u. u < vectors_in_all q) (met_vectors q e)
met_vectors_below q e = below_filtered (vectors_in_all q) (meets_choices q e) 0 (vectors_in_all q) (omega arith)

pub tests_fit : (s states tests : ℕ) → s < states → s * tests + tests ≤ states * tests
tests_fit s states tests l =
    let e : suc s * tests ≤ states * tests = mul-le-mul_right tests l in
    let d : suc s * tests ≡ s * tests + tests = grind arith in
    omega (arith, e, d)

pub is_environment_side : (q : QuestionTree) → IsPosed q → IsSide (environment_side q)
is_environment_side q posed = record {
  has_state = posed.has_state;
  automaton_starts = posed.automaton_starts;
  between = posed.between;
  met = met_vectors_below q;
  base = λ s u l m. tests_fit s q.states (tests_in_all q) l;
}

pub dual_encoding_over : (q : QuestionTree) → IsPosed q → All (IsOver (dual_variable_count q)) (dual_encoding q)
dual_encoding_over q h = all_over (dual_variable_count q) (dual_encoding q)
    (over_kept (dual_variable_count q) (dual_demands q) (over_side (environment_side q) (is_environment_side q h)))

pub pair_numbers_within : (q : QuestionTree) → q.states * q.automaton_states * q.bound ≤ length (dual_encoding q)
pair_numbers_within q = side_numbers_within (environment_side q)
