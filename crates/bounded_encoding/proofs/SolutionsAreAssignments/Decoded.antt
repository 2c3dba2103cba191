-- What is read from an assignment that meets the encoding of a question is a solution of it.
use Rattle.std.proofs.Common.{◌≡◌, ◌∙◌, ℕ, ◌+◌, ◌-◌, ◌*◌, ◌/◌, ◌%◌, ◌^◌, ◌<◌, ◌≤◌, ◌==◌, inl, inr, Bool, true, bit_and}
use Rattle.std.proofs.Common.{length, Some, slice_get, Contains, refl, sym, ap, subst, arith}
use Rattle.std.specs.List.{range_with_len}
use Rattle.std.proofs.lemmas.Nat.{and_le_l}
use Rattle.std.proofs.lemmas.Bool.{eqb-true, false_from_ne_true}
use Rattle.std.proofs.lemmas.Bool.Decides.{eqb_tells}
use Rattle.base_library.proofs.Each.{each_from_places, each_map}
use Rattle.base_library.proofs.Places.{slice_get_mapped, slice_get_one}
use Rattle.ltl_formula.specs.Cubes.{has_bit, cube_matches}
use Rattle.letter_space.specs.SpaceTree.{ControlledTree, bit_count}
use Rattle.letter_space.specs.Letters.{ArePicks, letter_of}
use Rattle.letter_space.proofs.Places.{slice_get_image}
use Rattle.cobuchi_automata.specs.Automata.{EdgeTree}
use Rattle.machines.specs.MachineTree.{EntryTree, IsController}
use Rattle.machines.specs.Moves.{MoveTree, FitsSpace, controller_moves}
use Rattle.bounded_encoding.specs.Question.{QuestionTree, IsPosed, IsSolution}
use Rattle.bounded_encoding.specs.Variables.{chooses, valuations_of, choices_in_all}
use Rattle.bounded_encoding.specs.Encoding.{first_choice, met_valuations, controller_side}
use Rattle.bounded_encoding.specs.Decoding.{is_set, choice_read, next_read, entry_read, entries_read, controller_read, number_read}
use Rattle.bounded_encoding.proofs.Ranges.{first_passes, first_below}
use Rattle.bounded_encoding.proofs.Over.{is_controller_side}
use Rattle.bounded_encoding.proofs.SideDemands.{IsAsAsked}
use Rattle.bounded_encoding.proofs.SideDecoded.{next_within as side_next_within, is_annotation}
use Rattle.bounded_encoding.proofs.SolutionsAreAssignments.CubeBits.{low_match, asked_bit}
use Rattle.bounded_encoding.proofs.SolutionsAreAssignments.LetterChoices.{signal_within, signal_of_bit, are_picks, choice_bits, letter_below, letter_low}
use Rattle.bounded_encoding.proofs.Tables.{table_length, table_at}
use Rattle.bounded_encoding.proofs.SolutionsAreAssignments.MovesHeld.{move_of, move_entry}
use Rattle.bounded_encoding.proofs.SolutionsAreAssignments.ExactlyOne.{IsOneOf}
use Rattle.bounded_encoding.proofs.SolutionsAreAssignments.Demands.{WantsFew, AreMet, valuation_there}

-- an edge that matches a letter of the space wants no bit that the space lacks
pub wants_few : (q : QuestionTree) (e : EdgeTree) (letter : ℕ) → letter < 2 ^ bit_count q.space →
    cube_matches e.care e.want letter ≡ true → WantsFew q e
wants_few q e letter below matches =
    let same = eqb-true (bit_and letter e.care) e.want matches in let less = and_le_l letter e.care in omega (arith, same, less, below)

module _ (q : QuestionTree) (posed : IsPosed q) (a : ℕ → Bool) where
  -- ---- the table

  pub choices_are_picks : (s v : ℕ) → ArePicks q.space.controlled (entry_read q a s v).choices
  choices_are_picks s v =
      are_picks (choice_read q a s v)
      (λ g some. first_below (λ c. is_set q a (chooses s v (first_choice q g + c))) (length g.choices) some)
      q.space.controlled posed.space.chosen

  pub next_within : (s v : ℕ) → next_read q a s v < q.states
  next_within = side_next_within (controller_side q) (is_controller_side q posed) a

  pub is_table : IsController (controller_read q a)
  is_table = record {
    has_state = posed.has_state;
    has_entries = table_length (entry_read q a) q.states (valuations_of q);
    stays = λ i n at.
        let entry = slice_get_mapped (λ (e : EntryTree). e.next) (entries_read q a) i n at in
        let made = slice_get_mapped (λ k. entry_read q a (k / valuations_of q) (k % valuations_of q))
        (range_with_len 0 (q.states * valuations_of q)) i entry.0 entry.1 in
        subst (λ (m : ℕ). m < q.states) (ap (λ (e : EntryTree). e.next) made.2 ∙ entry.2)
        (next_within (made.0 / valuations_of q) (made.0 % valuations_of q));
  }

  pub fits : FitsSpace q.space (controller_read q a)
  fits = record {
    valuations = refl;
    choices = each_map (λ (e : EntryTree). ArePicks q.space.controlled e.choices)
        (λ k. entry_read q a (k / valuations_of q) (k % valuations_of q)) (range_with_len 0 (q.states * valuations_of q))
        (each_from_places _ (range_with_len 0 (q.states * valuations_of q))
        (λ i k at. choices_are_picks (k / valuations_of q) (k % valuations_of q)));
  }

  module _ (met : AreMet q a) where
    -- ---- letters

    module _ (s v : ℕ) (in_states : s < q.states) (in_valuations : v < valuations_of q) where
      abbrev letter : ℕ
      letter = letter_of q.space v (entry_read q a s v).choices

      module _ (g : ControlledTree) (i : ℕ) (at : slice_get q.space.controlled i ≡ Some g) where
        one : IsOneOf (λ b. is_set q a (chooses s v b)) (first_choice q g) (first_choice q g + length g.choices)
        one = met.choices s v i g in_states in_valuations at

        read_is_set : is_set q a (chooses s v (first_choice q g + choice_read q a s v g)) ≡ true
        read_is_set =
            let from = one.some.1 in
            let below = one.some.2 in
            let place : first_choice q g + (one.some.0 - first_choice q g) ≡ one.some.0 = omega (arith, from) in
            first_passes (λ c. is_set q a (chooses s v (first_choice q g + c))) (length g.choices) (one.some.0 - first_choice q g)
            (omega (arith, from, below)) (ap (λ b. is_set q a (chooses s v b)) place ∙ one.some.3)

        read_alone : (c : ℕ) → c < length g.choices → is_set q a (chooses s v (first_choice q g + c)) ≡ (c == choice_read q a s v g)
        read_alone c within = elim (eqb_tells c (choice_read q a s v g)) [
          | inl same ↦ ap (λ k. is_set q a (chooses s v (first_choice q g + k))) same.1 ∙ (read_is_set ∙ sym same.0)
          | inr other ↦ false_from_ne_true (is_set q a (chooses s v (first_choice q g + c))) (λ is.
              let read_within = first_below (λ c. is_set q a (chooses s v (first_choice q g + c))) (length g.choices) (omega arith) in
              let same = one.one (first_choice q g + c) (first_choice q g + choice_read q a s v g) (omega arith) (omega arith) (omega arith)
              (omega (arith, read_within)) is read_is_set in
              other.1 (omega (arith, same))) ∙ sym other.0
        ]

      choice_is_letter : (b : ℕ) → b < choices_in_all q → is_set q a (chooses s v b) ≡ has_bit (length q.space.predicates + b) letter
      choice_is_letter b below =
          let found = signal_of_bit (length q.space.predicates) q.space.controlled posed.space.in_order (length q.space.predicates + b)
          (omega arith) (omega arith) in
          let g = found.1 in
          let from = (signal_within (length q.space.predicates) q.space.controlled posed.space.in_order found.0 g found.2).0 in
          let place : b ≡ first_choice q g + found.3 = omega (arith, from, found.5) in
          ap (λ k. is_set q a (chooses s v k)) place
          ∙ (read_alone g found.0 found.2 found.3 found.4
          ∙ (sym (choice_bits q.space posed.space v in_valuations (entry_read q a s v).choices (choices_are_picks s v) found.0 g
          (choice_read q a s v g) found.2 (slice_get_image (choice_read q a s v) q.space.controlled found.0 g found.2) found.3 found.4)
          ∙ ap (λ k. has_bit k letter) (sym found.5)))

      -- what an edge that the letter matches asks of the valuation and of choices
      matched : (e : EdgeTree) → cube_matches e.care e.want letter ≡ true →
          (k : ℕ) × (slice_get (met_valuations q e) k ≡ Some v) × IsAsAsked (controller_side q) a e s v
      matched e matches =
          let below = letter_below q.space posed.space v in_valuations (entry_read q a s v).choices (choices_are_picks s v) in
          let low = letter_low q.space posed.space v in_valuations (entry_read q a s v).choices (choices_are_picks s v) in
          let tests = ap (cube_matches (e.care % 2 ^ length q.space.predicates) (e.want % 2 ^ length q.space.predicates)) (sym low)
          ∙ low_match e.care e.want letter (length q.space.predicates) matches in
          let there = valuation_there q e (wants_few q e letter below matches) v in_valuations tests in (
            there.0,
            there.1,
            λ b within asks. choice_is_letter b within ∙ sym (asked_bit e.care e.want letter matches (length q.space.predicates + b) asks),
          )

    move_of_row : (s : ℕ) (m : MoveTree) → s < q.states → Contains (controller_moves q.space (controller_read q a) s) m →
        (v : ℕ) × (v < valuations_of q) × (m ≡ move_of q.space v (entry_read q a s v))
    move_of_row s m in_states move =
        let found = move_entry q.space (controller_read q a) s m move in
        let v = found.0 in
        let entry = slice_get_one (entries_read q a) (s * valuations_of q + v) (entry_read q a s v) found.2
        (table_at (entry_read q a) q.states (valuations_of q) s v in_states found.1) found.3 in
        (v, found.1, found.4 ∙ ap (move_of q.space v) (sym entry))

    pub is_solution : IsSolution q (controller_read q a) (number_read q a)
    is_solution = record {
      table = is_table;
      states = refl;
      fits = fits;
      annotation = is_annotation (controller_side q) (is_controller_side q posed) a met.side
          (controller_moves q.space (controller_read q a)) (λ s v. letter_of q.space v (entry_read q a s v).choices) move_of_row
          (λ s v e in_states in_valuations matches. matched s v in_states in_valuations e matches);
    }
