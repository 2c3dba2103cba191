-- A solution of a question gives an assignment that meets the encoding.
use Rattle.std.proofs.Common.{◌≡◌, ◌∙◌, ℕ, ◌+◌, ◌-◌, ◌*◌, ◌<◌, ◌≤◌, ◌==◌, Bool, true, false}
use Rattle.std.proofs.Common.{length, Option, Some, slice_get, sym, ap, arith}
use Rattle.std.specs.Option.{option_map_or}
use Rattle.std.proofs.lemmas.Bool.{eqb-true, eq-eqb}
use Rattle.base_library.proofs.Each.{each_at}
use Rattle.base_library.proofs.Places.{slice_get_some}
use Rattle.ltl_formula.specs.Cubes.{has_bit, cube_matches}
use Rattle.letter_space.specs.SpaceTree.{ControlledTree}
use Rattle.letter_space.specs.Letters.{ArePicks, letter_of}
use Rattle.letter_space.proofs.Places.{slice_get_image}
use Rattle.cobuchi_automata.specs.Automata.{EdgeTree}
use Rattle.machines.specs.MachineTree.{EntryTree, ControllerTree, controller_entry}
use Rattle.machines.specs.Moves.{controller_moves}
use Rattle.bounded_encoding.specs.Question.{QuestionTree, IsPosed, IsSolution, WantsAsked}
use Rattle.bounded_encoding.specs.Variables.{Variable, chooses, goes_to, is_numbered, valuations_of, choices_in_all, IsInRange, variables}
use Rattle.bounded_encoding.specs.Encoding.{first_choice, controller_side}
use Rattle.bounded_encoding.specs.Decoding.{is_set}
use Rattle.bounded_encoding.proofs.Over.{is_controller_side}
use Rattle.bounded_encoding.proofs.SideDemands.{IsAsAsked}
use Rattle.bounded_encoding.proofs.SideEncoded.{reaches_number, SaysMove, are_met_by_moves}
use Rattle.bounded_encoding.proofs.SolutionsAreAssignments.CubeBits.{match_from_parts}
use Rattle.bounded_encoding.proofs.SolutionsAreAssignments.LetterChoices.{signal_within, pick_at, choice_bits, valuation_bits, letter_below}
use Rattle.bounded_encoding.proofs.Tables.{place_within, cell_in_row}
use Rattle.bounded_encoding.proofs.SolutionsAreAssignments.MovesHeld.{entry_move}
use Rattle.bounded_encoding.proofs.SolutionsAreAssignments.ExactlyOne.{IsOneOf}
use Rattle.bounded_encoding.proofs.SolutionsAreAssignments.Demands.{WantsFew, MeetsTests, AreMet, valuation_meets}
use Rattle.bounded_encoding.proofs.Numbers.{variable_at}

module _ (q : QuestionTree) (posed : IsPosed q) (c : ControllerTree) (number : ℕ → ℕ → Option ℕ) (solution : IsSolution q c number) where
  -- what a solution makes of each variable
  abbrev truth : Variable → Bool
  truth (chooses s v b) =
      option_map_or (λ (e : EntryTree). has_bit (length q.space.predicates + b) (letter_of q.space v e.choices))
      (controller_entry c s v) false
  truth (goes_to s v t) = option_map_or (λ (e : EntryTree). e.next == t) (controller_entry c s v) false
  truth (is_numbered s p i) = reaches_number i (number s p)

  abbrev pub assignment : ℕ → Bool
  assignment i = option_map_or truth (slice_get (variables q) i) false

  set_is : (x : Variable) → IsInRange q x → is_set q assignment x ≡ truth x
  set_is x inside = ap (λ o. option_map_or truth o false) (variable_at q x inside)

  -- an entry under each valuation
  pub record HasEntry (s v : ℕ) : Type 0 where
    pub entry : EntryTree
    pub stands : slice_get c.entries (s * c.valuations + v) ≡ Some entry
    pub there : controller_entry c s v ≡ Some entry
    pub picks : ArePicks q.space.controlled entry.choices
    pub next : entry.next < q.states

  has_entry : (s v : ℕ) → s < q.states → v < valuations_of q → HasEntry s v
  has_entry s v in_states in_valuations =
      let few : v < c.valuations = omega (arith, solution.fits.valuations, in_valuations) in
      let place = place_within c.states c.valuations s v (omega (arith, solution.states, in_states)) few in
      let found = slice_get_some c.entries (s * c.valuations + v) (omega (arith, place, solution.table.has_entries)) in
      let next = solution.table.stays (s * c.valuations + v) found.0.next
      (slice_get_image (λ (e : EntryTree). e.next) c.entries (s * c.valuations + v) found.0 found.1) in
      record {
        entry = found.0;
        stands = found.1;
        there = cell_in_row c.valuations c.entries s v few ∙ found.1;
        picks = each_at (λ (e : EntryTree). ArePicks q.space.controlled e.choices) c.entries (s * c.valuations + v) found.0
            solution.fits.choices found.1;
        next = omega (arith, next, solution.states);
      }

  module _ (s v : ℕ) (in_states : s < q.states) (in_valuations : v < valuations_of q) where
    here : HasEntry s v
    here = has_entry s v in_states in_valuations

    abbrev letter : ℕ
    letter = letter_of q.space v here.entry.choices

    choice_is : (b : ℕ) → b < choices_in_all q → is_set q assignment (chooses s v b) ≡ has_bit (length q.space.predicates + b) letter
    choice_is b below =
        set_is (chooses s v b) (in_states, in_valuations, below)
        ∙ ap (λ o. option_map_or (λ (e : EntryTree). has_bit (length q.space.predicates + b) (letter_of q.space v e.choices)) o false)
        here.there

    next_is : (t : ℕ) → t < q.states → is_set q assignment (goes_to s v t) ≡ (here.entry.next == t)
    next_is t below =
        set_is (goes_to s v t) (in_states, in_valuations, below)
        ∙ ap (λ o. option_map_or (λ (e : EntryTree). e.next == t) o false) here.there

    module _ (i : ℕ) (g : ControlledTree) (at : slice_get q.space.controlled i ≡ Some g) where
      picked : (pick : ℕ) × (slice_get here.entry.choices i ≡ Some pick) × (pick < length g.choices)
      picked = pick_at q.space.controlled here.entry.choices here.picks i g at

      bounds : (length q.space.predicates ≤ g.first)
          × (g.first + length g.choices ≤ length q.space.predicates + choices_in_all q)
      bounds = signal_within (length q.space.predicates) q.space.controlled posed.space.in_order i g at

      choice_read_as : (b : ℕ) → first_choice q g ≤ b → b < first_choice q g + length g.choices →
          is_set q assignment (chooses s v b) ≡ ((b - first_choice q g) == picked.0)
      choice_read_as b from below =
          let first = bounds.0 in
          let last = bounds.1 in
          let place : length q.space.predicates + b ≡ g.first + (b - first_choice q g) = omega (arith, first, from) in
          choice_is b (omega (arith, first, last, below))
          ∙ (ap (λ k. has_bit k letter) place
          ∙ choice_bits q.space posed.space v in_valuations here.entry.choices here.picks i g picked.0 at picked.1 (b - first_choice q g)
          (omega (arith, from, below)))

      one_choice : IsOneOf (λ b. is_set q assignment (chooses s v b)) (first_choice q g) (first_choice q g + length g.choices)
      one_choice =
          let within = picked.2 in
          let place : first_choice q g + picked.0 - first_choice q g ≡ picked.0 = omega arith in
          record {
            some = (
              first_choice q g + picked.0,
              omega arith,
              omega (arith, within),
              choice_read_as (first_choice q g + picked.0) (omega arith) (omega (arith, within)) ∙ eq-eqb _ picked.0 place,
            );
            one = λ x y from below from_too below_too is is_too.
                let left = eqb-true (x - first_choice q g) picked.0 (sym (choice_read_as x from below) ∙ is) in
                let right = eqb-true (y - first_choice q g) picked.0 (sym (choice_read_as y from_too below_too) ∙ is_too) in
                omega (arith, left, right, from, from_too);
          }

    letter_matches : (e : EdgeTree) → WantsAsked e → WantsFew q e → MeetsTests q e v → IsAsAsked (controller_side q) assignment e s v →
        cube_matches e.care e.want letter ≡ true
    letter_matches e within few tests asked =
        match_from_parts e.care e.want letter (length q.space.predicates) (choices_in_all q) v within few
        (letter_below q.space posed.space v in_valuations here.entry.choices here.picks)
        (valuation_bits q.space posed.space v in_valuations here.entry.choices here.picks) tests
        (λ b below asks. sym (asked b below asks) ∙ choice_is b below)

    says_move : SaysMove (controller_side q) (is_controller_side q posed) assignment (controller_moves q.space c) s v
    says_move = record {
      letter = letter;
      next = here.entry.next;
      within = here.next;
      next_is = next_is;
      move = entry_move q.space c s v here.entry (omega (arith, solution.fits.valuations, in_valuations)) here.stands;
      matches = λ j k e at met_at asked.
          let tests = valuation_meets q e k v met_at in
          letter_matches e (each_at WantsAsked q.edges j e posed.within at) tests.0 tests.2 asked;
    }

  pub are_met_by_it : AreMet q assignment
  are_met_by_it = record {
    choices = λ s v i g in_states in_valuations at. one_choice s v in_states in_valuations i g at;
    side = are_met_by_moves (controller_side q) (is_controller_side q posed) assignment (controller_moves q.space c) number
        solution.annotation says_move
        (λ s p i in_states in_automaton within. set_is (is_numbered s p i) (in_states, in_automaton, within));
  }
