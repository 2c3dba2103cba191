-- Each closed run of a program has a letter loop, which is one of the program's controller.
use Rattle.std.proofs.Common.{◌≡◌, ◌∙◌, ℕ, zero, suc, ◌+◌, ◌^◌, ◌<◌, Bool, true, false, cond, List, ◌++◌, length, map, take, drop}
use Rattle.std.proofs.Common.{Option, Some, None, slice_get, refl, sym, ap, subst, arith, inl, inr}
use Rattle.std.specs.Prelude.{option_map, option_and_then, is_some, Contains}
use Rattle.std.specs.Option.{option_map_or}
use Rattle.std.specs.List.{AllByRecursion}
use Rattle.std.proofs.lemmas.Bool.Decides.{eqb_tells}
use Rattle.std.proofs.lemmas.List.{take-append-drop, length-take-le, length-drop, length-map}
use Rattle.std.proofs.lemmas.List.Quantifiers.{position-Some}
use Rattle.std.proofs.lemmas.Option.{option_and_then_some, slice_get_within, slice_get-get_or, slice_get-map}
use Rattle.base_library.specs.Numbers.{numbers_from}
use Rattle.base_library.proofs.Numbers.{numbers_at}
use Rattle.base_library.proofs.Each.{each_from_places}
use Rattle.base_library.proofs.Options.{one_value, some_is, some_mapped}
use Rattle.loop_shape.specs.LoopShape.{LoopShape, after}
use Rattle.tsl_terms.specs.TermTree.{TermTree, ProbeTree}
use Rattle.tsl_terms.specs.SameTree.{same_tree, same_probe_tree}
use Rattle.tsl_terms.specs.FormulaTree.{Atom, test, update}
use Rattle.tsl_terms.specs.Value.{Meanings, truth, beside}
use Rattle.tsl_terms.proofs.SameLemmas.{same_probe_is}
use Rattle.program_tree.specs.ProgramTree.{ProgramTree, controlled}
use Rattle.program_tree.specs.Walk.{Action, walk}
use Rattle.tsl_meaning.specs.Interpretation.{InputRows}
use Rattle.tsl_meaning.specs.Run.{Configuration, HasStep, Closed, signal_value, configuration_at}
use Rattle.tsl_meaning.specs.Lasso.{holds_at, closed_run}
use Rattle.tsl_meaning.proofs.OneAction.{steps_below}
use Rattle.ltl_formula.specs.Cubes.{has_bit}
use Rattle.ltl_formula.specs.LetterLoop.{LetterLoop, shape_of, letter_at, bit_holds}
use Rattle.letter_space.specs.SpaceTree.{SpaceTree, IsSpace}
use Rattle.letter_space.specs.Bits.{bit_of_probe, bit_of_atom}
use Rattle.letter_space.specs.Letters.{ArePicks, letter_of, term_taken, atom_holds_of}
use Rattle.letter_space.proofs.LetterBits.{bit_is_read, letter_is_word}
use Rattle.underapprox.specs.LetterLasso.{AreLettersOf}
use Rattle.machines.specs.MachineTree.{EntryTree, ControllerTree, controller_entry}
use Rattle.machines.specs.Moves.{MoveTree, controller_moves, IsLoopOf}
use Rattle.control_flow_model.specs.ProgramBits.{ProgramHasBits}
use Rattle.control_flow_model.specs.ControllerOf.{truth_under, IsControllerOf}
use Rattle.control_flow_model.specs.RunLetters.{IsLetterLoopOf}
use Rattle.control_flow_model.proofs.TruthNumbers.{number_of_truths, truths_below, truth_bit}
use Rattle.control_flow_model.proofs.PickedTerms.{taken_beside, picks_there}
use Rattle.control_flow_model.proofs.WalksUnder.{walk_follows}
use Rattle.control_flow_model.proofs.MovesThere.{move_there}

-- a predicate term stands at the place that is its bit
pub probe_at_bit : (space : SpaceTree) (p : ProbeTree) (k : ℕ) → bit_of_probe space p ≡ Some k → slice_get space.predicates k ≡ Some p
probe_at_bit space p k at =
    let found = position-Some (λ q. same_probe_tree q p) space.predicates k p at in
    slice_get-get_or space.predicates k p found.0 ∙ ap Some (same_probe_is _ p found.1)

module _ {V : Type 0} (space : SpaceTree) (c : ControllerTree) (is_space : IsSpace space) (meanings : Meanings V)
    (program : ProgramTree) (rows : InputRows V) (has_bits : ProgramHasBits space program)
    (is_controller : IsControllerOf space program c) (shape : LoopShape) (closed : Closed meanings program rows shape) where
  -- the run's state, the truths of the predicate terms, and the letter, at a step
  abbrev state_at : ℕ → ℕ
  state_at t = option_map_or (λ (now : Configuration V). now.state) (configuration_at meanings program rows t) 0

  abbrev truth_of : ℕ → ProbeTree → Bool
  truth_of t p = holds_at meanings program rows t (test p)

  abbrev valuation_at : ℕ → ℕ
  valuation_at t = number_of_truths (truth_of t) space.predicates

  abbrev letter_of_step : ℕ → ℕ
  letter_of_step t =
      option_map_or (λ (e : EntryTree). letter_of space (valuation_at t) e.choices) (controller_entry c (state_at t) (valuation_at t)) 0

  bit_is_truth : (t : ℕ) (p : ProbeTree) (k : ℕ) → bit_of_probe space p ≡ Some k → has_bit k (valuation_at t) ≡ truth_of t p
  bit_is_truth t p k at = truth_bit (truth_of t) space.predicates k p (probe_at_bit space p k at)

  -- what stands at a step that is there
  record StepLetter (t : ℕ) : Type 0 where
    now : Configuration V
    is_now : configuration_at meanings program rows t ≡ Some now
    action : Action
    does : walk program (truth meanings (signal_value program rows now)) now.state ≡ Some action
    entry : EntryTree
    is_entry : controller_entry c (state_at t) (valuation_at t) ≡ Some entry
    assigns : (s : ℕ) → term_taken space.controlled entry.choices s ≡ beside s (controlled program) action.updates
    picks : ArePicks space.controlled entry.choices
    goes : entry.next ≡ action.go
    letter : letter_of_step t ≡ letter_of space (valuation_at t) entry.choices

  valuation_below : (t : ℕ) → valuation_at t < c.valuations
  valuation_below t = subst (λ n. valuation_at t < n) (sym is_controller.fits.valuations) (truths_below (truth_of t) space.predicates)

  step_letter : (t : ℕ) → HasStep meanings program rows t → StepLetter t
  step_letter t step =
      let truths = truth meanings (signal_value program rows step.now) in
      let state : state_at t ≡ step.now.state = ap (λ o. option_map_or (λ (now : Configuration V). now.state) o 0) step.is_now in
      let node : step.now.state < length program.states =
      option_and_then_some _ _ _ step.does (λ node at rest. slice_get_within program.states step.now.state node at) in
      let within : state_at t < c.states = omega (arith, node, state, is_controller.states) in
      let found = is_controller.entries (state_at t) (valuation_at t) within (valuation_below t) in
      let entry = found.2 in
      let walks : walk program (truth_under space (valuation_at t)) (state_at t) ≡ Some step.action =
      ap (walk program (truth_under space (valuation_at t))) state
      ∙ walk_follows space program has_bits.nodes truths (truth_under space (valuation_at t)) same step.now.state step.action step.does in
      let one : entry.action ≡ step.action = one_value _ entry.action step.action entry.walks walks in
      record {
        now = step.now;
        is_now = step.is_now;
        action = step.action;
        does = step.does;
        entry = found.0;
        is_entry = found.1;
        assigns = λ s. taken_beside space.controlled found.0.choices entry.action.updates s entry.assigns
            ∙ (λ i. beside s (has_bits.signals i) (one i).updates);
        picks = picks_there space.controlled found.0.choices entry.action.updates entry.assigns;
        goes = entry.goes ∙ ap (λ (a : Action). a.go) one;
        letter = ap (λ o. option_map_or (λ (e : EntryTree). letter_of space (valuation_at t) e.choices) o 0) found.1;
      }
    where
      same : (p : ProbeTree) (holds : Bool) → is_some (bit_of_probe space p) ≡ true →
          truth meanings (signal_value program rows step.now) p ≡ Some holds → truth_under space (valuation_at t) p ≡ Some holds
      same p holds there judged =
          let bit = some_is (bit_of_probe space p) there in
          let seen : truth_of t p ≡ holds =
          ap (λ o. option_map_or (λ b. b) o false)
          (ap (option_and_then (λ d. truth meanings (signal_value program rows d) p)) step.is_now ∙ judged) in
          ap (option_map (λ b. has_bit b (valuation_at t))) bit.1 ∙ ap Some (bit_is_truth t p bit.0 bit.1 ∙ seen)

  -- each step up to the last position is there, and so is the configuration after it
  at_step : (t : ℕ) → t < shape.start + shape.length → StepLetter t
  at_step t below = step_letter t (steps_below meanings program rows (shape.start + shape.length) t closed.seam below closed.at_end)

  state_there : (t : ℕ) (now : Configuration V) → configuration_at meanings program rows t ≡ Some now → state_at t ≡ now.state
  state_there t now is = ap (λ o. option_map_or (λ (d : Configuration V). d.state) o 0) is

  -- each step goes on to the state that its entry names
  goes_to : (t : ℕ) (step : StepLetter t) (next : Configuration V) → configuration_at meanings program rows (suc t) ≡ Some next →
      next.state ≡ step.entry.next
  goes_to t step next is = option_and_then_some _ _ _ is (λ now is_now acts. option_and_then_some _ _ _ acts (λ action does follows.
      let same_now : now ≡ step.now = one_value _ now step.now is_now step.is_now in
      let same : action ≡ step.action =
      one_value _ action step.action does
      (ap (λ (d : Configuration V). walk program (truth meanings (signal_value program rows d)) d.state) same_now
      ∙ step.does) in
      let made = some_mapped _ _ next follows in
      ap (λ (d : Configuration V). d.state) (sym made.2) ∙ ap (λ (a : Action). a.go) same ∙ sym step.goes))

  next_state : (t : ℕ) (step : StepLetter t) → t < shape.start + shape.length → state_at (after shape t) ≡ step.entry.next
  next_state t step below = elim (eqb_tells (t + 1) (shape.start + shape.length)) [
    | inl last ↦
        let end : configuration_at meanings program rows (suc t) ≡ Some closed.seam =
        (let e : suc t ≡ shape.start + shape.length = omega (arith, last.1) in ap (configuration_at meanings program rows) e
        ∙ closed.at_end) in
        ap (λ b. state_at (cond b shape.start (t + 1))) last.0 ∙ state_there shape.start closed.seam closed.at_start
        ∙ goes_to t step closed.seam end
    | inr before ↦
        let further = at_step (suc t) (omega (arith, below, before.1)) in
        let e : t + 1 ≡ suc t = omega arith in
        ap (λ b. state_at (cond b shape.start (t + 1))) before.0 ∙ ap state_at e ∙ state_there (suc t) further.now further.is_now
        ∙ goes_to t step further.now further.is_now
  ]

  -- the letters of all positions, those before the start in the stem
  abbrev all_letters : List ℕ
  all_letters = map letter_of_step (numbers_from 0 (shape.start + shape.length))

  abbrev run_loop : LetterLoop
  run_loop = record { stem = take shape.start all_letters; cycle = drop shape.start all_letters }

  length_numbers : (first n : ℕ) → length (numbers_from first n) ≡ n
  length_numbers first zero = refl
  length_numbers first (suc n) = ap suc (length_numbers (suc first) n)

  how_many : length all_letters ≡ shape.start + shape.length
  how_many = length-map (numbers_from 0 (shape.start + shape.length)) letter_of_step ∙ length_numbers 0 (shape.start + shape.length)

  same_shape : shape ≡ shape_of run_loop
  same_shape =
      let stem : shape.start ≡ length (take shape.start all_letters) =
      sym (length-take-le shape.start all_letters (omega (arith, how_many))) in
      let cycle : shape.length ≡ length (drop shape.start all_letters) = omega (arith, length-drop shape.start all_letters, how_many) in
      λ i. record { start = stem i; length = cycle i }

  letter_there : (t : ℕ) → t < shape.start + shape.length → letter_at run_loop t ≡ Some (letter_of_step t)
  letter_there t below =
      ap (λ ls. slice_get ls t) (take-append-drop shape.start all_letters)
      ∙ slice_get-map letter_of_step (numbers_from 0 (shape.start + shape.length)) t
      ∙ ap (option_map letter_of_step) (numbers_at 0 (shape.start + shape.length) t below)
      ∙ ap (λ n. Some (letter_of_step n)) (let e : 0 + t ≡ t = omega arith in e)

  below_from : (t l : ℕ) → letter_at run_loop t ≡ Some l → t < shape.start + shape.length
  below_from t l at =
      let within = slice_get_within (take shape.start all_letters ++ drop shape.start all_letters) t l at in
      omega (arith, within, ap length (take-append-drop shape.start all_letters), how_many)

  -- what holds at a step
  probe_holds : (t : ℕ) (p : ProbeTree) (k : ℕ) (picks : List ℕ) → bit_of_probe space p ≡ Some k →
      truth_of t p ≡ atom_holds_of space (valuation_at t) picks (test p)
  probe_holds t p k picks at =
      sym (bit_is_truth t p k at) ∙ sym (ap (λ o. option_map_or (λ b. has_bit b (valuation_at t)) o false) at)

  update_holds : (t : ℕ) (step : StepLetter t) (s : ℕ) (term : TermTree) →
      holds_at meanings program rows t (update s term) ≡ atom_holds_of space (valuation_at t) step.entry.choices (update s term)
  update_holds t step s term =
      ap (λ o. option_map_or (λ taken. same_tree taken term) o false)
      (ap (option_and_then (λ (d : Configuration V). option_and_then (λ (a : Action). beside s (controlled program) a.updates)
      (walk program (truth meanings (signal_value program rows d)) d.state))) step.is_now
      ∙ ap (option_and_then (λ (a : Action). beside s (controlled program) a.updates)) step.does
      ∙ sym (step.assigns s))

  atom_holds : (t : ℕ) (step : StepLetter t) (a : Atom) (b : ℕ) → bit_of_atom space a ≡ Some b →
      holds_at meanings program rows t a ≡ atom_holds_of space (valuation_at t) step.entry.choices a
  atom_holds t step (test p) b at = probe_holds t p b step.entry.choices at
  atom_holds t step (update s term) b at = update_holds t step s term

  letters : AreLettersOf space (closed_run meanings program rows shape) run_loop
  letters = record {
    same_shape = same_shape;
    same_atoms = λ i position a b at.
        let step = at_step i position.within in
        let seen : bit_holds run_loop b i ≡ has_bit b (letter_of_step i) =
        ap (λ o. option_map_or (has_bit b) o false) (letter_there i position.within) in
        atom_holds i step a b at
        ∙ sym (bit_is_read space is_space (valuation_at i) (truths_below (truth_of i) space.predicates)
        step.entry.choices step.picks a b at)
        ∙ ap (has_bit b) (sym step.letter) ∙ sym seen;
  }

  fit : AllByRecursion (λ l. l < 2 ^ 64) (run_loop.stem ++ run_loop.cycle)
  fit = each_from_places (λ l. l < 2 ^ 64) (run_loop.stem ++ run_loop.cycle) (λ i l at.
      let below = below_from i l at in
      let step = at_step i below in
      let is : l ≡ letter_of space (valuation_at i) step.entry.choices =
      one_value _ l (letter_of_step i) at (letter_there i below) ∙ step.letter in
      subst (λ n. n < 2 ^ 64) (sym is) (letter_is_word space is_space (valuation_at i)
      (truths_below (truth_of i) space.predicates) step.entry.choices step.picks))

  is_loop : IsLoopOf (controller_moves space c) run_loop state_at
  is_loop = record {
    begins = first (configuration_at meanings program rows 0) refl;
    goes_on = λ i l at.
        let below = below_from i l at in
        let step = at_step i below in
        let letter : letter_of space (valuation_at i) step.entry.choices ≡ l =
        sym step.letter ∙ sym (one_value _ l (letter_of_step i) at (letter_there i below)) in
        let next : step.entry.next ≡ state_at (after (shape_of run_loop) i) =
        sym (next_state i step below) ∙ ap (λ (s : LoopShape). state_at (after s i)) same_shape in
        let Moves : MoveTree → Type 0 = Contains (controller_moves space c (state_at i)) in
        subst Moves (λ j. record { letter = letter j; next = next j })
        (move_there space c (state_at i) (valuation_at i) step.entry step.is_entry);
  }
    where
      first : (o : Option (Configuration V)) → configuration_at meanings program rows 0 ≡ o → state_at 0 ≡ 0
      first None none = ap (λ o. option_map_or (λ (d : Configuration V). d.state) o 0) none
      first (Some now) there = state_there 0 now there ∙ ap (λ (d : Configuration V). d.state) (sym (some_mapped _ _ now there).2)

  pub letter_loop_of_run : (loop : LetterLoop) × IsLetterLoopOf space c meanings program rows shape loop
  letter_loop_of_run = (
    run_loop,
    record {
      letters = letters;
      fit = fit;
      state = state_at;
      is_loop = is_loop;
      in_state = λ i position now is. state_there i now is;
    },
  )
