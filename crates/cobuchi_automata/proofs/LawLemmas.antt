-- On a letter loop on which the formula holds, the automaton has a path that passes rejecting edges again and again.
use Rattle.std.proofs.Common.{◌≡◌, ◌∙◌, ℕ, zero, suc, ◌+◌, ◌*◌, ◌<◌, ◌≤◌, ◌^◌, Bool, true, false, not, ◌&&◌, List, [], ◌∷◌, ◌++◌, length}
use Rattle.std.proofs.Common.{Some, slice_get, refl, sym, ap, arith, add-zero, length-append}
use Rattle.std.specs.List.{list_any, list_all}
use Rattle.std.specs.Option.{option_map_or}
use Rattle.std.proofs.lemmas.Bool.{false≢true, and_parts}
use Rattle.base_library.proofs.Each.{each_at}
use Rattle.base_library.proofs.Places.{slice_get_some}
use Rattle.base_library.proofs.Passes.{list_any_place, passes_at}
use Rattle.loop_shape.specs.LoopShape.{IsPosition, after, steps_on}
use Rattle.loop_shape.proofs.Steps.{after_position}
use Rattle.loop_shape.proofs.Untils.{until_comes}
use Rattle.ltl_formula.specs.LtlTree.{LtlTree, until}
use Rattle.ltl_formula.specs.LetterLoop.{LetterLoop, shape_of, letter_at, holds}
use Rattle.ltl_formula.specs.Cubes.{cube_matches}
use Rattle.obligations.specs.Expansion.{ChoiceTree, same_formula}
use Rattle.obligations.specs.StepLaw.{is_waited_for, is_good}
use Rattle.obligations.proofs.FormulaNumbers.{same_is}
use Rattle.obligations.proofs.StepLaws.{some_good}
use Rattle.cobuchi_automata.specs.Counters.{passes_last}
use Rattle.cobuchi_automata.specs.Automata.{StateTree, EdgeTree, untils_of, is_postponed, start_state, state_after, edge_of, Leads}
use Rattle.cobuchi_automata.specs.Automata.{IsAutomaton}
use Rattle.cobuchi_automata.specs.Paths.{IsPath, rejections, FitsLetters}
use Rattle.cobuchi_automata.proofs.CounterLemmas.{IsRun, IsFreeWithin, count_of, once, counted}
use Rattle.cobuchi_automata.proofs.UntilLemmas.{IsUntil, untils_are}

module _ (f : LtlTree) (states : List StateTree) (edges : List EdgeTree) (automaton : IsAutomaton f states edges) (loop : LetterLoop)
    (letters : FitsLetters loop) where
  -- a position and a state whose set holds there
  record Moment : Type 0 where
    place : ℕ
    number : ℕ
    state : StateTree
    is_position : IsPosition (shape_of loop) place
    here : slice_get states number ≡ Some state
    set_holds : list_all (λ g. holds loop g place) state.set ≡ true

  -- a good choice of the state's set, and where it leads
  record Step (m : Moment) : Type 0 where
    letter : ℕ
    reads : letter_at loop m.place ≡ Some letter
    choice : ChoiceTree
    good : is_good loop m.place letter choice ≡ true
    leads : Leads (untils_of f) states edges m.number m.state choice

  step : (m : Moment) → Step m
  step m =
      let read = slice_get_some (loop.stem ++ loop.cycle) m.place (omega
      (arith, length-append loop.stem loop.cycle, m.is_position.within)) in
      let found = automaton.leads m.number m.state m.here in
      let good = some_good loop m.place read.0 m.state.set found.0 m.is_position read.1
      (each_at (λ l. l < 2 ^ 64) (loop.stem ++ loop.cycle) m.place read.0 letters read.1) found.1 in
      let chosen = list_any_place (is_good loop m.place read.0) found.0 (sym good ∙ m.set_holds) in
      record {
        letter = read.0;
        reads = read.1;
        choice = chosen.1;
        good = chosen.3;
        leads = each_at (Leads (untils_of f) states edges m.number m.state) found.0 chosen.0 chosen.1 found.2 chosen.2;
      }

  parts_of : (m : Moment) (s : Step m) → (cube_matches s.choice.care s.choice.want s.letter ≡ true)
      × (list_all (λ g. holds loop g (after (shape_of loop) m.place)) s.choice.next_set ≡ true)
      × (list_all (is_waited_for loop m.place) s.choice.postponed ≡ true)
  parts_of m s =
      let outer = and_parts (cube_matches s.choice.care s.choice.want s.letter) _ s.good in
      let inner = and_parts (list_all (λ g. holds loop g (after (shape_of loop) m.place)) s.choice.next_set)
      (list_all (is_waited_for loop m.place) s.choice.postponed) outer.1 in
      (outer.0, inner.0, inner.1)

  abbrev next_moment : Moment → Moment
  next_moment m = record {
    place = after (shape_of loop) m.place;
    number = (step m).leads.to;
    state = state_after (untils_of f) m.state (step m).choice;
    is_position = after_position (shape_of loop) m.place m.is_position;
    here = (step m).leads.there;
    set_holds = (parts_of m (step m)).1;
  }

  abbrev U : ℕ
  U = length (untils_of f)

  abbrev P : ℕ
  P = length loop.stem + length loop.cycle

  module _ (goes_on : 1 ≤ length loop.cycle) (at_start : holds loop f 0 ≡ true) where
    abbrev first : Moment
    first = record {
      place = 0;
      number = 0;
      state = start_state f;
      is_position = record { goes_on = goes_on; within = omega (arith, goes_on) };
      here = automaton.start;
      set_holds = ap (λ b. b && true) at_start;
    }

    abbrev moment : ℕ → Moment
    moment zero = first
    moment (suc t) = next_moment (moment t)

    abbrev chosen : (t : ℕ) → Step (moment t)
    chosen t = step (moment t)

    abbrev postponed : ℕ → ℕ → Bool
    postponed t u = is_postponed (untils_of f) (chosen t).choice u

    abbrev counter : ℕ → ℕ
    counter t = (moment t).state.counter

    run : IsRun U postponed counter
    run = record { start = refl; next = λ t. refl }

    places : (n t : ℕ) → (moment (t + n)).place ≡ steps_on (shape_of loop) n (moment t).place
    places zero t = rw add-zero refl
    places (suc n) t = let e : t + suc n ≡ suc t + n = omega arith in ap (λ s. (moment s).place) e ∙ places n (suc t)

    -- what is put off is waited for
    waited : (t u : ℕ) (g : LtlTree) → slice_get (untils_of f) u ≡ Some g → postponed t u ≡ true →
        is_waited_for loop (moment t).place g ≡ true
    waited t u g at h =
        let among : list_any (same_formula g) (chosen t).choice.postponed ≡ true =
        ap (λ o. option_map_or (λ v. list_any (same_formula v) (chosen t).choice.postponed) o false) (sym at) ∙ h in
        let found = list_any_place (same_formula g) (chosen t).choice.postponed among in
        let all = (parts_of (moment t) (chosen t)).2 in
        ap (is_waited_for loop (moment t).place) (same_is g found.1 found.3)
        ∙ passes_at (is_waited_for loop (moment t).place) (chosen t).choice.postponed found.0 found.1 all found.2

    free : IsFreeWithin U P postponed
    free t u within = by (postponed t u) refl (slice_get_some (untils_of f) u within)
      where
        ends : (s : ℕ) (a b : LtlTree) → slice_get (untils_of f) u ≡ Some (until a b) → holds loop b (moment s).place ≡ true →
            postponed s u ≡ false
        ends s a b at right = on (postponed s u) refl
          where
            on : (v : Bool) → postponed s u ≡ v → v ≡ false
            on false h = refl
            on true h =
                let parts = and_parts (holds loop (until a b) (after (shape_of loop) (moment s).place))
                (not (holds loop b (moment s).place)) (waited s u (until a b) at h) in
                absurd (false≢true (sym (ap not right) ∙ parts.1))

        comes : (a b : LtlTree) → slice_get (untils_of f) u ≡ Some (until a b) → postponed t u ≡ true →
            (n : ℕ) × (n ≤ P) × (postponed (t + n) u ≡ false)
        comes a b at h =
            let parts = and_parts (holds loop (until a b) (after (shape_of loop) (moment t).place)) (not (holds loop b (moment t).place))
            (waited t u (until a b) at h) in
            let later = until_comes (shape_of loop) (holds loop a) (holds loop b) (moment (suc t)).place
            (moment (suc t)).is_position parts.0 in
            let right : holds loop b (moment (suc t + later.0)).place ≡ true = ap (holds loop b) (places later.0 (suc t)) ∙ later.2.there in
            let e : t + suc later.0 ≡ suc t + later.0 = omega arith in
            (suc later.0, omega (arith, later.1), ap (λ s. postponed s u) e ∙ ends (suc t + later.0) a b at right)

        by : (v : Bool) → postponed t u ≡ v → (g : LtlTree) × (slice_get (untils_of f) u ≡ Some g) →
            (n : ℕ) × (n ≤ P) × (postponed (t + n) u ≡ false)
        by false h g = (0, omega arith, ap (λ s. postponed s u) (add-zero t) ∙ h)
        by true h g =
            let is = each_at IsUntil (untils_of f) u g.0 (untils_are f) g.1 in
            comes is.left is.right (g.1 ∙ ap Some is.is) h

    abbrev edge_at : ℕ → EdgeTree
    edge_at t = edge_of (untils_of f) (moment t).number (moment t).state (chosen t).choice (chosen t).leads.to

    abbrev path_from : ℕ → ℕ → List EdgeTree
    path_from zero t = []
    path_from (suc n) t = edge_at t ∷ path_from n (suc t)

    is_path : (n t : ℕ) → IsPath edges loop (moment t).number (moment t).place (path_from n t)
    is_path zero t = tt
    is_path (suc n) t = (
      (chosen t).leads.edge,
      refl,
      ((chosen t).letter, (chosen t).reads, (parts_of (moment t) (chosen t)).0),
      is_path n (suc t),
    )

    length_is : (n t : ℕ) → length (path_from n t) ≡ n
    length_is zero t = refl
    length_is (suc n) t = ap suc (length_is n (suc t))

    abbrev turns : ℕ → Bool
    turns s = passes_last U (postponed s) (counter s)

    rejections_are : (n t : ℕ) → rejections (path_from n t) + count_of turns t ≡ count_of turns (t + n)
    rejections_are zero t = let e : t + 0 ≡ t = add-zero t in ap (λ c. 0 + c) (ap (count_of turns) (sym e)) ∙ omega arith
    rejections_are (suc n) t =
        let e : t + suc n ≡ suc t + n = omega arith in
        let rest = rejections_are n (suc t) in
        let same = ap (count_of turns) e in
        omega (arith, rest, same)

    pub law : (k : ℕ) → (path : List EdgeTree) × IsPath edges loop 0 0 path × (length path ≤ (k + 1) * ((U + 1) * (P + 1)))
        × (k + 1 ≤ rejections path)
    law k =
        let total : ℕ = (k + 1) * ((U + 1) * (P + 1)) in
        let enough = counted turns ((U + 1) * (P + 1)) (once U P postponed counter run free) (k + 1) in
        let made = rejections_are total 0 in
        let e : 0 + total ≡ total = omega arith in
        let same = ap (count_of turns) e in
        (path_from total 0, is_path total 0, (let l = length_is total 0 in omega (arith, l)), omega (arith, enough, made, same))
