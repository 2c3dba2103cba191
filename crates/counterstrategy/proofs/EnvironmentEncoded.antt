-- A solution of a question for an environment gives an assignment that meets the encoding.
use Rattle.std.proofs.Common.{◌≡◌, ◌∙◌, ℕ, ◌+◌, ◌-◌, ◌*◌, ◌<◌, ◌≤◌, ◌==◌, Bool, true, false, Option, Some, slice_get, Contains}
use Rattle.std.proofs.Common.{option_map, option_and_then, sym, ap, arith}
use Rattle.std.specs.Option.{option_map_or}
use Rattle.base_library.proofs.Each.{each_at}
use Rattle.base_library.proofs.Places.{slice_get_some}
use Rattle.clause_core.specs.Clauses.{meets_all}
use Rattle.ltl_formula.specs.Cubes.{has_bit, cube_matches}
use Rattle.letter_space.specs.Letters.{valuation_count, letter_of}
use Rattle.letter_space.specs.Vectors.{picks_of}
use Rattle.letter_space.proofs.LetterBits.{bit_below_picks}
use Rattle.cobuchi_automata.specs.Automata.{EdgeTree}
use Rattle.machines.specs.MachineTree.{EnvironmentTree, successor_at}
use Rattle.bounded_encoding.specs.Question.{QuestionTree, IsPosed, WantsAsked}
use Rattle.bounded_encoding.proofs.KeptClauses.{kept_meets}
use Rattle.bounded_encoding.proofs.Ranges.{filtered_in_range}
use Rattle.bounded_encoding.proofs.SideDemands.{IsAsAsked, clauses_are_met}
use Rattle.bounded_encoding.proofs.SideEncoded.{reaches_number, SaysMove, are_met_by_moves}
use Rattle.bounded_encoding.proofs.Tables.{place_within, cell_in_row}
use Rattle.machines.specs.Moves.{move_under, environment_move, environment_moves}
use Rattle.counterstrategy.specs.EnvironmentQuestion.{IsEnvironmentSolution}
use Rattle.counterstrategy.specs.DualVariables.{DualVariable, holds_in, moves_to, has_number, tests_in_all, vectors_in_all, IsDualVariable}
use Rattle.counterstrategy.specs.DualVariables.{dual_variable, is_set_in}
use Rattle.counterstrategy.specs.DualEncoding.{meets_choices, environment_side, dual_demands, dual_encoding}
use Rattle.machines.proofs.RangeMembers.{given_to}
use Rattle.counterstrategy.proofs.DualOver.{is_environment_side}
use Rattle.counterstrategy.proofs.HighBits.{match_from_halves}
use Rattle.counterstrategy.proofs.DualNumbers.{variable_is}

module _ (q : QuestionTree) (posed : IsPosed q) (environment : EnvironmentTree) (number : ℕ → ℕ → Option ℕ)
    (solution : IsEnvironmentSolution q environment number) where
  -- what a solution makes of each variable
  abbrev truth : DualVariable → Bool
  truth (holds_in s b) = option_map_or (has_bit b) (slice_get environment.truths s) false
  truth (moves_to s u t) = option_map_or (λ next. next == t) (successor_at environment s u) false
  truth (has_number s p i) = reaches_number i (number s p)

  abbrev pub dual_assignment : ℕ → Bool
  dual_assignment k = truth (dual_variable q k)

  set_is : (x : DualVariable) → IsDualVariable q x → is_set_in q dual_assignment x ≡ truth x
  set_is x inside = ap truth (variable_is q x inside)

  -- what is true in each state, and a successor under each vector
  has_truths : (s : ℕ) → s < q.states → (v : ℕ) × (slice_get environment.truths s ≡ Some v) × (v < valuation_count q.space)
  has_truths s in_states =
      let found = slice_get_some environment.truths s (omega (arith, solution.table.has_truths, solution.states, in_states)) in
      (found.0, found.1, each_at (λ (v : ℕ). v < valuation_count q.space) environment.truths s found.0 solution.fits.truths found.1)

  has_successor : (s u : ℕ) → s < q.states → u < vectors_in_all q →
      (next : ℕ) × (successor_at environment s u ≡ Some next) × (next < q.states)
  has_successor s u in_states in_vectors =
      let few : u < environment.vectors = omega (arith, solution.fits.vectors, in_vectors) in
      let place = place_within environment.states environment.vectors s u (omega (arith, solution.states, in_states)) few in
      let found = slice_get_some environment.next (s * environment.vectors + u) (omega (arith, place, solution.table.has_next)) in
      let next = solution.table.stays (s * environment.vectors + u) found.0 found.1 in
      (found.0, cell_in_row environment.vectors environment.next s u few ∙ found.1, omega (arith, next, solution.states))

  module _ (s u : ℕ) (in_states : s < q.states) (in_vectors : u < vectors_in_all q) where
    true_here : (v : ℕ) × (slice_get environment.truths s ≡ Some v) × (v < valuation_count q.space)
    true_here = has_truths s in_states

    goes_here : (next : ℕ) × (successor_at environment s u ≡ Some next) × (next < q.states)
    goes_here = has_successor s u in_states in_vectors

    abbrev letter : ℕ
    letter = letter_of q.space true_here.0 (picks_of q.space.controlled u)

    truth_is : (b : ℕ) → b < tests_in_all q → is_set_in q dual_assignment (holds_in s b) ≡ has_bit b letter
    truth_is b below =
        set_is (holds_in s b) (in_states, below)
        ∙ (ap (λ o. option_map_or (has_bit b) o false) true_here.1
        ∙ sym (bit_below_picks (tests_in_all q) q.space.controlled (picks_of q.space.controlled u) true_here.0 b
        posed.space.in_order below))

    successor_is : (t : ℕ) → t < q.states → is_set_in q dual_assignment (moves_to s u t) ≡ (goes_here.0 == t)
    successor_is t below =
        set_is (moves_to s u t) (in_states, in_vectors, below) ∙ ap (λ o. option_map_or (λ next. next == t) o false) goes_here.1

    letter_matches : (e : EdgeTree) → WantsAsked e → meets_choices q e u ≡ true → IsAsAsked (environment_side q) dual_assignment e s u →
        cube_matches e.care e.want letter ≡ true
    letter_matches e within choices asked =
        match_from_halves q.space true_here.0 true_here.2 (picks_of q.space.controlled u) e.care e.want within
        (λ b below asks.
        let zero_more : 0 + b ≡ b = omega arith in
        sym (truth_is b below) ∙ (asked b below (ap (λ k. has_bit k e.care) zero_more ∙ asks) ∙ ap (λ k. has_bit k e.want) zero_more))
        choices

    move_there : Contains (environment_moves q.space environment s) (move_under q.space true_here.0 u goes_here.0)
    move_there =
        given_to (environment_move q.space environment s) 0 environment.vectors u (move_under q.space true_here.0 u goes_here.0)
        (omega arith) (omega (arith, solution.fits.vectors, in_vectors))
        (ap (λ o. option_and_then (λ truths. option_map (move_under q.space truths u) (successor_at environment s u)) o) true_here.1
        ∙ ap (option_map (move_under q.space true_here.0 u)) goes_here.1)

    says_move : SaysMove (environment_side q) (is_environment_side q posed) dual_assignment (environment_moves q.space environment) s u
    says_move = record {
      letter = letter;
      next = goes_here.0;
      within = goes_here.2;
      next_is = successor_is;
      move = move_there;
      matches = λ j k e at met_at asked.
          letter_matches e (each_at WantsAsked q.edges j e posed.within at)
          (filtered_in_range (meets_choices q e) 0 (vectors_in_all q) k u met_at).2 asked;
    }

  pub dual_encoding_is_met : meets_all dual_assignment (dual_encoding q) ≡ true
  dual_encoding_is_met =
      kept_meets dual_assignment (dual_demands q)
      ∙ clauses_are_met (environment_side q) dual_assignment
      (are_met_by_moves (environment_side q) (is_environment_side q posed) dual_assignment (environment_moves q.space environment) number
      solution.annotation says_move
      (λ s p i in_states in_automaton within. set_is (has_number s p i) (in_states, in_automaton, within)))
