-- A question for a controller within the limits has no more variables than a formula that is read may have.
use Rattle.std.proofs.Common.{ℕ, ◌+◌, ◌*◌, ◌≤◌, ◌^◌, [], inl, inr, length, ap, arith}
use Rattle.std.proofs.lemmas.Bool.Decides.{leb_tells}
use Rattle.std.proofs.lemmas.Nat.{mul-le}
use Rattle.std.proofs.Math.Nat.{pow-le-pow_right}
use Rattle.tsl_terms.specs.SpecTree.{SpecTree}
use Rattle.letter_space.specs.SpaceTree.{SpaceTree, choice_count, bit_count}
use Rattle.bounded_encoding.specs.Question.{QuestionTree}
use Rattle.bounded_encoding.specs.Variables.{variable_count}
use Rattle.machines.specs.declared.side.Side.TheVariants.{Controller}
use Rattle.refinement_loop.specs.declared.outcome.Bound.TheVariants.{Fixed}
use Rattle.refinement_loop.specs.Questions.{IsAsked}

-- with so many valuations, choices, states of an automaton and numbers at most
few_by : (s v c p k most_v most_c : ℕ) → s ≤ 8 → v ≤ most_v → c ≤ most_c → p ≤ 4096 → k ≤ 16 →
    (s * v * c + s * v * s) + s * p * k ≤ (8 * most_v * most_c + 8 * most_v * 8) + 524288
few_by s v c p k most_v most_c few_s few_v few_c few_p few_k =
    let sv : s * v ≤ 8 * most_v = mul-le s v 8 most_v few_s few_v in
    let svc : s * v * c ≤ 8 * most_v * most_c = mul-le (s * v) c (8 * most_v) most_c sv few_c in
    let svs : s * v * s ≤ 8 * most_v * 8 = mul-le (s * v) s (8 * most_v) 8 sv few_s in
    let sp : s * p ≤ 32768 = mul-le s p 8 4096 few_s few_p in
    let spk : s * p * k ≤ 524288 = mul-le (s * p) k 32768 16 sp few_k in
    sum_le (s * v * c) (s * v * s) (s * p * k) (8 * most_v * most_c) (8 * most_v * 8) 524288 svc svs spk
  where
    sum_le : (a b c d e f : ℕ) → a ≤ d → b ≤ e → c ≤ f → (a + b) + c ≤ (d + e) + f
    sum_le a b c d e f first second third = omega (arith, first, second, third)

pub few_variables : (spec : SpecTree) (states bound : ℕ) (q : QuestionTree) → states ≤ 8 → bound ≤ 15 → IsAsked Controller spec [] states (Fixed bound) q →
    variable_count q ≤ 1048576
few_variables spec states bound q few_states small_bound asked =
    let predicates : length q.space.predicates ≤ 10 = few_predicates in
    let s : q.states ≤ 8 = omega (arith, asked.has_states, few_states) in
    let k : q.bound + 1 ≤ 16 = omega (arith, asked.has_bound, small_bound) in
    let p : q.automaton_states ≤ 4096 = few_automaton in
    elim (leb_tells (length q.space.predicates) 9) [
      | inl (_, small) ↦
          let v : 2 ^ length q.space.predicates ≤ 512 = pow-le-pow_right (omega arith) small in
          let most =
          few_by q.states (2 ^ length q.space.predicates) (choice_count q.space.controlled) q.automaton_states (q.bound + 1) 512 64
          s v (omega (arith, few_bits)) p k in
          omega (arith, most)
      | inr (_, large) ↦
          let v : 2 ^ length q.space.predicates ≤ 1024 = pow-le-pow_right (omega arith) predicates in
          let most =
          few_by q.states (2 ^ length q.space.predicates) (choice_count q.space.controlled) q.automaton_states (q.bound + 1) 1024 54
          s v (omega (arith, few_bits, large)) p k in
          omega (arith, most)
    ]
  where
    few_predicates : length q.space.predicates ≤ 10
    few_predicates = omega (arith, asked.few_bits.few_predicates, ap (λ (t : SpaceTree). length t.predicates) asked.space)

    few_bits : length q.space.predicates + choice_count q.space.controlled ≤ 64
    few_bits = omega (arith, asked.few_bits.few_bits, ap bit_count asked.space)

    few_automaton : q.automaton_states ≤ 4096
    few_automaton = asked.few_automaton_states
