-- What is read from an assignment that meets the encoding of a question is a solution of it.
use Rattle.std.proofs.Common.{◌≡◌, ◌∙◌, ℕ, ◌+◌, ◌*◌, ◌/◌, ◌%◌, ◌<◌, ◌≤◌, Bool, true, Some, slice_get, Contains}
use Rattle.std.proofs.Common.{option_map, option_and_then, refl, sym, ap, subst, arith}
use Rattle.std.specs.List.{range_with_len}
use Rattle.std.proofs.lemmas.Option.{same_Some}
use Rattle.std.proofs.lemmas.List.FromFn.{length-map-range_with_len}
use Rattle.base_library.proofs.Each.{each_from_places, each_map}
use Rattle.base_library.proofs.Places.{slice_get_mapped}
use Rattle.clause_core.specs.Clauses.{meets_all}
use Rattle.ltl_formula.specs.Cubes.{has_bit, cube_matches}
use Rattle.letter_space.specs.Letters.{valuation_count, letter_of}
use Rattle.letter_space.specs.Vectors.{picks_of}
use Rattle.letter_space.proofs.LetterBits.{bit_below_picks}
use Rattle.cobuchi_automata.specs.Automata.{EdgeTree}
use Rattle.machines.specs.MachineTree.{IsEnvironment, successor_at}
use Rattle.bounded_encoding.specs.Question.{QuestionTree, IsPosed}
use Rattle.bounded_encoding.proofs.KeptClauses.{kept_meets}
use Rattle.bounded_encoding.proofs.Ranges.{range_at, filtered_of_range}
use Rattle.bounded_encoding.proofs.SideDemands.{IsAsAsked, are_met}
use Rattle.bounded_encoding.proofs.SideDecoded.{next_within, is_annotation}
use Rattle.bounded_encoding.proofs.SolutionsAreAssignments.CubeBits.{asked_bit}
use Rattle.bounded_encoding.proofs.Tables.{table_length, table_cell}
use Rattle.machines.specs.Moves.{MoveTree, EnvironmentFits, move_under, environment_move, environment_moves}
use Rattle.counterstrategy.specs.EnvironmentQuestion.{IsEnvironmentSolution}
use Rattle.counterstrategy.specs.DualVariables.{holds_in, tests_in_all, vectors_in_all, is_set_in}
use Rattle.counterstrategy.specs.DualEncoding.{meets_choices, met_vectors, environment_side, dual_demands, dual_encoding}
use Rattle.counterstrategy.specs.DualDecoding.{truths_read, successor_read, environment_read, dual_number_read}
use Rattle.machines.proofs.RangeMembers.{given_from}
use Rattle.counterstrategy.proofs.DualOver.{is_environment_side}
use Rattle.counterstrategy.proofs.PassingBits.{passing_below, passing_bit}
use Rattle.counterstrategy.proofs.HighBits.{choices_match}

module _ (q : QuestionTree) (posed : IsPosed q) (a : ℕ → Bool) where
  -- ---- the table

  truths_below : (s : ℕ) → truths_read q a s < valuation_count q.space
  truths_below s = passing_below (λ b. is_set_in q a (holds_in s b)) (tests_in_all q)

  successor_within : (s u : ℕ) → successor_read q a s u < q.states
  successor_within = next_within (environment_side q) (is_environment_side q posed) a

  is_table : IsEnvironment (environment_read q a)
  is_table = record {
    has_state = posed.has_state;
    has_truths = length-map-range_with_len (truths_read q a) 0 q.states;
    has_next = table_length (successor_read q a) q.states (vectors_in_all q);
    stays = λ i n at.
        let made = slice_get_mapped (λ k. successor_read q a (k / vectors_in_all q) (k % vectors_in_all q))
        (range_with_len 0 (q.states * vectors_in_all q)) i n at in
        subst (λ (m : ℕ). m < q.states) made.2 (successor_within (made.0 / vectors_in_all q) (made.0 % vectors_in_all q));
  }

  fits : EnvironmentFits q.space (environment_read q a)
  fits = record {
    vectors = refl;
    truths = each_map (λ (v : ℕ). v < valuation_count q.space) (truths_read q a) (range_with_len 0 q.states)
        (each_from_places _ (range_with_len 0 q.states) (λ i s at. truths_below s));
  }

  -- the move in a state under a vector
  move_read : (s u : ℕ) → s < q.states → u < vectors_in_all q →
      environment_move q.space (environment_read q a) s u ≡ Some (move_under q.space (truths_read q a s) u (successor_read q a s u))
  move_read s u in_states in_vectors =
      let place : 0 + s ≡ s = omega arith in
      let truths : slice_get (environment_read q a).truths s ≡ Some (truths_read q a s)
      = range_at (truths_read q a) 0 q.states s in_states ∙ ap (λ k. Some (truths_read q a k)) place in
      let next = table_cell (successor_read q a) q.states (vectors_in_all q) s u in_states in_vectors in
      ap (λ o. option_and_then (λ truths. option_map (move_under q.space truths u) (successor_at (environment_read q a) s u)) o) truths
      ∙ ap (option_map (move_under q.space (truths_read q a s) u)) next

  module _ (s u : ℕ) (in_states : s < q.states) (in_vectors : u < vectors_in_all q) where
    abbrev letter : ℕ
    letter = letter_of q.space (truths_read q a s) (picks_of q.space.controlled u)

    truth_is_letter : (b : ℕ) → b < tests_in_all q → is_set_in q a (holds_in s b) ≡ has_bit b letter
    truth_is_letter b below =
        sym (passing_bit (λ b. is_set_in q a (holds_in s b)) (tests_in_all q) b below)
        ∙ sym (bit_below_picks (tests_in_all q) q.space.controlled (picks_of q.space.controlled u) (truths_read q a s) b
        posed.space.in_order below)

    -- what an edge that the letter matches asks of the vector and of predicate terms
    matched : (e : EdgeTree) → cube_matches e.care e.want letter ≡ true →
        (k : ℕ) × (slice_get (met_vectors q e) k ≡ Some u) × IsAsAsked (environment_side q) a e s u
    matched e matches =
        let choices = choices_match q.space (truths_read q a s) (truths_below s) (picks_of q.space.controlled u) e.care e.want matches in
        let there = filtered_of_range (meets_choices q e) 0 (vectors_in_all q) u (omega arith) (omega arith) choices in (
          there.0,
          there.1,
          λ b below asks.
              let zero_more : 0 + b ≡ b = omega arith in
              truth_is_letter b below
              ∙ (sym (asked_bit e.care e.want letter matches b (ap (λ k. has_bit k e.care) (sym zero_more) ∙ asks))
              ∙ ap (λ k. has_bit k e.want) (sym zero_more)),
        )

  move_of_row : (s : ℕ) (m : MoveTree) → s < q.states → Contains (environment_moves q.space (environment_read q a) s) m →
      (u : ℕ) × (u < vectors_in_all q) × (m ≡ move_under q.space (truths_read q a s) u (successor_read q a s u))
  move_of_row s m in_states move =
      let found = given_from (environment_move q.space (environment_read q a) s) 0 (vectors_in_all q) m move in
      let in_vectors : found.0 < vectors_in_all q = omega (arith, found.2) in
      (found.0, in_vectors, sym (same_Some _ m (sym (move_read s found.0 in_states in_vectors) ∙ found.3)))

  pub is_environment_solution : meets_all a (dual_encoding q) ≡ true → IsEnvironmentSolution q (environment_read q a) (dual_number_read q a)
  is_environment_solution met = record {
    table = is_table;
    states = refl;
    fits = fits;
    annotation = is_annotation (environment_side q) (is_environment_side q posed) a
        (are_met (environment_side q) a (sym (kept_meets a (dual_demands q)) ∙ met)) (environment_moves q.space (environment_read q a))
        (λ s u. letter_of q.space (truths_read q a s) (picks_of q.space.controlled u)) move_of_row
        (λ s u e in_states in_vectors matches. matched s u in_states in_vectors e matches);
  }
