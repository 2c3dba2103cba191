-- What it is for an assignment to meet the encoding of a question, kind by kind.
use Rattle.std.proofs.Common.{◌≡◌, ◌∙◌, ℕ, ◌+◌, ◌-◌, ◌%◌, ◌^◌, ◌<◌, ◌≤◌, Bool, true, false, cond, []}
use Rattle.std.proofs.Common.{length, Some, slice_get, refl, sym, ap, arith, leb}
use Rattle.std.proofs.lemmas.Bool.{lt-leb, leb-false}
use Rattle.std.proofs.lemmas.Option.{none-some}
use Rattle.base_library.proofs.Passes.{list_all_parts, list_all_joined}
use Rattle.ltl_formula.specs.Cubes.{cube_matches}
use Rattle.letter_space.specs.SpaceTree.{ControlledTree, bit_count}
use Rattle.cobuchi_automata.specs.Automata.{EdgeTree}
use Rattle.clause_core.specs.Clauses.{meets, meets_all}
use Rattle.bounded_encoding.specs.Question.{QuestionTree}
use Rattle.bounded_encoding.specs.Variables.{chooses, valuations_of, index_of}
use Rattle.bounded_encoding.specs.Sides.{clauses_of_side}
use Rattle.bounded_encoding.specs.Encoding.{first_choice, signal_clauses, choices_under, choices_in, choice_clauses, meeting, met_valuations}
use Rattle.bounded_encoding.specs.Encoding.{controller_side, demands, encoding}
use Rattle.bounded_encoding.specs.Decoding.{is_set}
use Rattle.bounded_encoding.proofs.KeptClauses.{kept_meets}
use Rattle.bounded_encoding.proofs.Ranges.{all_in_range, all_of_range, all_in_list, all_of_list, filtered_in_range, filtered_of_range}
use Rattle.bounded_encoding.proofs.SideDemands.{AreMet as IsSideMet, are_met as is_side_met, clauses_are_met}
use Rattle.bounded_encoding.proofs.SolutionsAreAssignments.ExactlyOne.{IsOneOf, one_from_clauses, clauses_from_one}

-- an edge wants no bit that the space lacks
abbrev pub WantsFew : QuestionTree → EdgeTree → Type 0
WantsFew q e = e.want < 2 ^ bit_count q.space

-- a valuation is as an edge asks
abbrev pub MeetsTests : QuestionTree → EdgeTree → ℕ → Type 0
MeetsTests q e v = cube_matches (e.care % 2 ^ length q.space.predicates) (e.want % 2 ^ length q.space.predicates) v ≡ true

pub record AreMet (q : QuestionTree) (a : ℕ → Bool) : Type 0 where
  pub choices : (s v i : ℕ) (g : ControlledTree) → s < q.states → v < valuations_of q → slice_get q.space.controlled i ≡ Some g →
      IsOneOf (λ b. is_set q a (chooses s v b)) (first_choice q g) (first_choice q g + length g.choices)
  pub side : IsSideMet (controller_side q) a

-- the valuations of an edge
module _ (q : QuestionTree) (e : EdgeTree) where
  pub valuation_there : WantsFew q e → (v : ℕ) → v < valuations_of q → MeetsTests q e v →
      (i : ℕ) × (slice_get (met_valuations q e) i ≡ Some v)
  valuation_there few v below meets_tests =
      let found = filtered_of_range
      (cube_matches (e.care % 2 ^ length q.space.predicates) (e.want % 2 ^ length q.space.predicates)) 0 (valuations_of q) v
      (omega arith) (omega arith) meets_tests in (
        found.0,
        ap (λ b. slice_get (cond b [] (meeting (length q.space.predicates) (e.care % 2 ^ length q.space.predicates)
            (e.want % 2 ^ length q.space.predicates))) found.0) (lt-leb (2 ^ bit_count q.space) e.want few) ∙ found.1,
      )

  pub valuation_meets : (i v : ℕ) → slice_get (met_valuations q e) i ≡ Some v → WantsFew q e × (v < valuations_of q) × MeetsTests q e v
  valuation_meets i v at = by (leb (2 ^ bit_count q.space) e.want) refl at
    where
      by : (b : Bool) → leb (2 ^ bit_count q.space) e.want ≡ b →
          slice_get (cond b [] (meeting (length q.space.predicates) (e.care % 2 ^ length q.space.predicates)
          (e.want % 2 ^ length q.space.predicates))) i ≡ Some v → WantsFew q e × (v < valuations_of q) × MeetsTests q e v
      by true many is = absurd (none-some v is)
      by false few is =
          let found = filtered_in_range
          (cube_matches (e.care % 2 ^ length q.space.predicates) (e.want % 2 ^ length q.space.predicates)) 0 (valuations_of q) i v is in (
            leb-false (2 ^ bit_count q.space) e.want few,
            omega (arith, found.1),
            found.2,
          )

module _ (q : QuestionTree) (a : ℕ → Bool) where
  pub are_met : meets_all a (encoding q) ≡ true → AreMet q a
  are_met met =
      let one = list_all_parts (meets a) (choice_clauses q) (clauses_of_side (controller_side q)) (sym (kept_meets a (demands q)) ∙ met) in
      record {
        choices = λ s v i g in_states in_valuations at.
            one_from_clauses a (λ b. index_of q (chooses s v b)) (first_choice q g) (first_choice q g + length g.choices)
            (all_in_list (meets a) (signal_clauses q s v) q.space.controlled i g
            (all_in_range (meets a) (choices_under q s) 0 (valuations_of q - 0) v
            (all_in_range (meets a) (choices_in q) 0 (q.states - 0) s one.0 (omega arith) (omega arith)) (omega arith) (omega arith)) at);
        side = is_side_met (controller_side q) a one.1;
      }

  pub encoding_is_met : AreMet q a → meets_all a (encoding q) ≡ true
  encoding_is_met met =
      kept_meets a (demands q)
      ∙ list_all_joined (meets a) (choice_clauses q) (clauses_of_side (controller_side q))
      (all_of_range (meets a) (choices_in q) 0 (q.states - 0) (λ s from below.
      all_of_range (meets a) (choices_under q s) 0 (valuations_of q - 0) (λ v from_too below_too.
      all_of_list (meets a) (signal_clauses q s v) q.space.controlled (λ i g at.
      clauses_from_one a (λ b. index_of q (chooses s v b)) (first_choice q g) (first_choice q g + length g.choices)
      (met.choices s v i g (omega arith) (omega arith) at)))))
      (clauses_are_met (controller_side q) a met.side)
