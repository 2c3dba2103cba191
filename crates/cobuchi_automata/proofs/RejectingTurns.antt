-- Where a path of the automaton over a letter loop turns again and again through a rejecting edge, the formula holds on the loop.
use Rattle.std.proofs.Common.{◌≡◌, ◌∙◌, ℕ, zero, suc, ◌+◌, ◌<◌, ◌≤◌, ◌^◌, inl, inr, Bool, true, false, not, cond, if◌then◌else◌}
use Rattle.std.proofs.Common.{List, [], ◌∷◌, ◌++◌, length, Some, slice_get, refl, sym, ap, subst, arith, add-zero}
use Rattle.std.specs.List.{list_any, AllByRecursion}
use Rattle.std.specs.Option.{option_map_or}
use Rattle.std.proofs.lemmas.Bool.{false≢true, and_from, or_cases, or_left, or_right, false_from_ne_true}
use Rattle.std.proofs.lemmas.Option.{same_Some, slice_get_within}
use Rattle.base_library.specs.Kept.{is_kept, with_new}
use Rattle.base_library.proofs.Each.{each_at, each_contained, each_left, each_right}
use Rattle.base_library.proofs.Places.{contains_at}
use Rattle.base_library.proofs.Passes.{list_any_place, list_any_contained}
use Rattle.loop_shape.specs.LoopShape.{IsPosition, after, steps_on}
use Rattle.loop_shape.specs.AlongLoop.{until_at, ComesAfter}
use Rattle.loop_shape.proofs.Steps.{after_position}
use Rattle.loop_shape.proofs.Untils.{until_comes, comes_until}
use Rattle.ltl_formula.specs.LtlTree.{LtlTree, LtlTrees, top, bottom, bit, not_bit, conjunction, disjunction, next, until, release}
use Rattle.ltl_formula.specs.LtlTree.{no_formulas, more_formulas, ltl_formulas_in}
use Rattle.ltl_formula.specs.LetterLoop.{LetterLoop, shape_of, letter_at, bit_holds, holds, holds_all, holds_any}
use Rattle.ltl_formula.specs.Cubes.{has_bit, cube_matches}
use Rattle.obligations.specs.Expansion.{ChoiceTree, same_formula}
use Rattle.obligations.specs.Contained.{has_choice_of}
use Rattle.obligations.proofs.FormulaNumbers.{same_is, same_itself}
use Rattle.obligations.proofs.Contained.{contains_members, of_bottom, of_next, of_until, of_release, of_conjunction}
use Rattle.obligations.proofs.Contained.{of_disjunction, of_bit, of_not_bit}
use Rattle.cobuchi_automata.specs.Counters.{passes_last}
use Rattle.cobuchi_automata.specs.Automata.{StateTree, EdgeTree, untils_in, untils_in_all, untils_of, is_postponed, start_state}
use Rattle.cobuchi_automata.specs.Automata.{state_after}
use Rattle.cobuchi_automata.specs.Automata.{IsOfChoice, IsAutomaton}
use Rattle.cobuchi_automata.specs.Paths.{IsPath, rejections, FitsLetters, end_of, IsRejectingTurn}
use Rattle.cobuchi_automata.proofs.CounterLemmas.{IsRun}
use Rattle.cobuchi_automata.proofs.PassedUntils.{free}
use Rattle.cobuchi_automata.proofs.OnceLemmas.{Stands}

-- ---- each until in a formula is one of its untils

stands_more : {A : Type 0} (xs : List A) (y x : A) → Stands xs x → Stands (xs ++ y ∷ []) x
stands_more [] y x (i, at) = absurd (omega (arith, slice_get_within [] i x at))
stands_more (z ∷ xs) y x (zero, at) = (zero, at)
stands_more (z ∷ xs) y x (suc i, at) = let r = stands_more xs y x (i, at) in (suc r.0, r.1)

stands_last : {A : Type 0} (xs : List A) (y : A) → Stands (xs ++ y ∷ []) y
stands_last [] y = (0, refl)
stands_last (z ∷ xs) y = let r = stands_last xs y in (suc r.0, r.1)

stands_new : (kept fs : List LtlTree) (x : LtlTree) → Stands kept x → Stands (with_new same_formula kept fs) x
stands_new kept [] x h = h
stands_new kept (f ∷ fs) x h = by (is_kept same_formula kept f) (stands_new kept fs x h)
    (stands_new (kept ++ f ∷ []) fs x (stands_more kept f x h))
  where
    by : (b : Bool) → Stands (with_new same_formula kept fs) x → Stands (with_new same_formula (kept ++ f ∷ []) fs) x →
        Stands (with_new same_formula (if b then kept else kept ++ f ∷ []) fs) x
    by true here new = here
    by false here new = new

all_stand : (kept fs : List LtlTree) → AllByRecursion (Stands (with_new same_formula kept fs)) fs
all_stand kept [] = tt
all_stand kept (f ∷ fs) = by (is_kept same_formula kept f) refl (all_stand kept fs) (all_stand (kept ++ f ∷ []) fs)
  where
    by : (b : Bool) → is_kept same_formula kept f ≡ b → AllByRecursion (Stands (with_new same_formula kept fs)) fs
        → AllByRecursion (Stands (with_new same_formula (kept ++ f ∷ []) fs)) fs
        → AllByRecursion (Stands (with_new same_formula (if b then kept else kept ++ f ∷ []) fs)) (f ∷ fs)
    by true is here new =
        let place = list_any_place (λ k. same_formula k f) kept is in
        (stands_new kept fs f (place.0, place.2 ∙ ap Some (same_is place.1 f place.3)), here)
    by false is here new = (stands_new (kept ++ f ∷ []) fs f (stands_last kept f), new)

-- ---- a path that goes on for ever

module _ (f : LtlTree) (states : List StateTree) (edges : List EdgeTree) (automaton : IsAutomaton f states edges) (loop : LetterLoop)
    (letters : FitsLetters loop) (goes_on : 1 ≤ length loop.cycle) (stem : List EdgeTree) (first : EdgeTree) (others : List EdgeTree)
    (rejecting : IsRejectingTurn edges loop stem (first ∷ others)) where
  abbrev turn : List EdgeTree
  turn = first ∷ others

  abbrev turn_state : ℕ
  turn_state = end_of 0 stem

  abbrev turn_place : ℕ
  turn_place = steps_on (shape_of loop) (length stem) 0

  -- what is left of the path up to the next turn
  record Road (place number : ℕ) (rest : List EdgeTree) : Type 0 where
    is_position : IsPosition (shape_of loop) place
    path : IsPath edges loop number place rest
    ends : end_of number rest ≡ turn_state
    ends_there : steps_on (shape_of loop) (length rest) place ≡ turn_place

  -- an edge, and what is left after it
  record Moment : Type 0 where
    place : ℕ
    number : ℕ
    edge : EdgeTree
    rest : List EdgeTree
    road : Road place number (edge ∷ rest)

  -- at the end of what is left the turn begins again
  abbrev begin : (place number : ℕ) (rest : List EdgeTree) → Road place number rest → Moment
  begin place number [] road = record {
    place = place;
    number = number;
    edge = first;
    rest = others;
    road = record {
      is_position = road.is_position;
      path = subst (λ q. IsPath edges loop q place turn) (sym road.ends)
          (subst (λ i. IsPath edges loop turn_state i turn) (sym road.ends_there) rejecting.turns);
      ends = ap (λ q. end_of q turn) road.ends ∙ rejecting.same_state;
      ends_there = ap (steps_on (shape_of loop) (length turn)) road.ends_there ∙ rejecting.same_position;
    };
  }
  begin place number (e ∷ es) road = record { place = place; number = number; edge = e; rest = es; road = road }

  begin_place : (place number : ℕ) (rest : List EdgeTree) (road : Road place number rest) → (begin place number rest road).place ≡ place
  begin_place place number [] road = refl
  begin_place place number (e ∷ es) road = refl

  begin_number : (place number : ℕ) (rest : List EdgeTree) (road : Road place number rest) → (begin place number rest road).number ≡ number
  begin_number place number [] road = refl
  begin_number place number (e ∷ es) road = refl

  further : (m : Moment) → Road (after (shape_of loop) m.place) m.edge.to m.rest
  further m = record {
    is_position = after_position (shape_of loop) m.place m.road.is_position;
    path = m.road.path.3;
    ends = m.road.ends;
    ends_there = m.road.ends_there;
  }

  abbrev next_moment : Moment → Moment
  next_moment m = begin (after (shape_of loop) m.place) m.edge.to m.rest (further m)

  start_position : IsPosition (shape_of loop) 0
  start_position = record { goes_on = goes_on; within = omega (arith, goes_on) }

  abbrev moment : ℕ → Moment
  moment zero = begin 0 0 stem (record { is_position = start_position; path = rejecting.to_turn; ends = refl; ends_there = refl })
  moment (suc t) = next_moment (moment t)

  abbrev place : ℕ → ℕ
  place t = (moment t).place

  next_place : (t : ℕ) → place (suc t) ≡ after (shape_of loop) (place t)
  next_place t = begin_place (after (shape_of loop) (place t)) (moment t).edge.to (moment t).rest (further (moment t))

  start_place : place 0 ≡ 0
  start_place = begin_place 0 0 stem _

  -- ---- states and choices along it

  abbrev step : (t : ℕ) → IsOfChoice (untils_of f) states (moment t).edge
  step t = each_contained (IsOfChoice (untils_of f) states) edges (moment t).edge automaton.of_choices (moment t).road.path.0

  abbrev state : ℕ → StateTree
  state t = (step t).state

  abbrev choice : ℕ → ChoiceTree
  choice t = (step t).choice

  stands_at : (t : ℕ) → slice_get states (moment t).number ≡ Some (state t)
  stands_at t = ap (slice_get states) (sym (moment t).road.path.1) ∙ (step t).here

  start_at : state 0 ≡ start_state f
  start_at = same_Some (state 0) (start_state f) (sym (stands_at 0) ∙ ap (slice_get states) (begin_number 0 0 stem _) ∙ automaton.start)

  next_at : (t : ℕ) → state (suc t) ≡ state_after (untils_of f) (state t) (choice t)
  next_at t = same_Some (state (suc t)) (state_after (untils_of f) (state t) (choice t))
      (sym (stands_at (suc t))
      ∙ ap (slice_get states) (begin_number (after (shape_of loop) (place t)) (moment t).edge.to (moment t).rest (further (moment t)))
      ∙ (step t).there)

  abbrev has : ℕ → LtlTree → Type 0
  has t g = has_choice_of (choice t) g ≡ true

  members : (t : ℕ) → AllByRecursion (has t) (state t).set
  members t = contains_members (state t).set (step t).choices_here (choice t) (step t).are_choices (step t).chosen

  -- what a choice leaves has a choice in the next one
  carried : (t : ℕ) (g : LtlTree) → list_any (λ h. same_formula h g) (choice t).next_set ≡ true → has (suc t) g
  carried t g h =
      let found = list_any_place (λ k. same_formula k g) (choice t).next_set h in
      let at : slice_get (choice t).next_set found.0 ≡ Some g = found.2 ∙ ap Some (same_is found.1 g found.3) in
      each_at (has (suc t)) (choice t).next_set found.0 g
      (subst (AllByRecursion (has (suc t))) (ap (λ s. s.set) (next_at t)) (members (suc t))) at

  letter_of : (t : ℕ) → (l : ℕ) × (letter_at loop (place t) ≡ Some l) × (cube_matches (choice t).care (choice t).want l ≡ true)
  letter_of t =
      let read = (moment t).road.path.2 in (
        read.0,
        read.1,
        (λ i. cube_matches (sym (step t).is i).care (sym (step t).is i).want read.0) ∙ read.2,
      )

  -- ---- no until is put off for ever

  abbrev U : ℕ
  U = length (untils_of f)

  abbrev postponed : ℕ → ℕ → Bool
  postponed t u = is_postponed (untils_of f) (choice t) u

  abbrev counter : ℕ → ℕ
  counter t = (state t).counter

  run : IsRun U postponed counter
  run = record { start = ap (λ s. s.counter) start_at; next = λ t. ap (λ s. s.counter) (next_at t) }

  abbrev turns : ℕ → Bool
  turns t = passes_last U (postponed t) (counter t)

  turns_are : (t : ℕ) → (moment t).edge.rejecting ≡ turns t
  turns_are t = ap (λ e. e.rejecting) (step t).is

  abbrev left : ℕ → List EdgeTree
  left t = (moment t).edge ∷ (moment t).rest

  begin_left : (place number : ℕ) (rest : List EdgeTree) (road : Road place number rest) (e : EdgeTree) (es : List EdgeTree) →
      rest ≡ e ∷ es →
      ((begin place number rest road).edge ∷ (begin place number rest road).rest) ≡ e ∷ es
  begin_left place number [] road e es is = absurd cc
  begin_left place number (d ∷ ds) road e es is = is

  begin_turn : (place number : ℕ) (rest : List EdgeTree) (road : Road place number rest) → rest ≡ [] →
      ((begin place number rest road).edge ∷ (begin place number rest road).rest) ≡ turn
  begin_turn place number [] road is = refl
  begin_turn place number (d ∷ ds) road is = absurd cc

  left_next : (t : ℕ) (e : EdgeTree) (es : List EdgeTree) → (moment t).rest ≡ e ∷ es → left (suc t) ≡ e ∷ es
  left_next t = begin_left (after (shape_of loop) (place t)) (moment t).edge.to (moment t).rest (further (moment t))

  abbrev rest_of : List EdgeTree → List EdgeTree
  rest_of [] = []
  rest_of (e ∷ es) = es

  abbrev first_of : List EdgeTree → EdgeTree
  first_of [] = first
  first_of (e ∷ es) = e

  to_turn : (xs : List EdgeTree) (t : ℕ) → (moment t).rest ≡ xs → (n : ℕ) × (left (t + n) ≡ turn)
  to_turn [] t is = (
    1,
    (let e : t + 1 ≡ suc t = omega arith in ap left e)
        ∙ begin_turn (after (shape_of loop) (place t)) (moment t).edge.to (moment t).rest (further (moment t)) is,
  )
  to_turn (x ∷ xs) t is =
      let r = to_turn xs (suc t) (ap rest_of (left_next t x xs is)) in
      let e : t + suc r.0 ≡ suc t + r.0 = omega arith in
      (suc r.0, ap left e ∙ r.1)

  in_turn : (xs : List EdgeTree) (t : ℕ) → left t ≡ xs → 1 ≤ rejections xs → (n : ℕ) × (turns (t + n) ≡ true)
  in_turn [] t is some = absurd (omega arith)
  in_turn (x ∷ xs) t is some = by x.rejecting refl (in_turn xs (suc t))
    where
      rest_is : (moment t).rest ≡ xs
      rest_is = ap rest_of is

      later : (ys : List EdgeTree) → xs ≡ ys → 1 ≤ rejections ys
          → (left (suc t) ≡ xs → 1 ≤ rejections xs → (n : ℕ) × (turns (suc t + n) ≡ true)) → (n : ℕ) × (turns (t + n) ≡ true)
      later [] same some further_on = absurd (omega arith)
      later (y ∷ ys) same some further_on =
          let r = further_on (left_next t y ys (rest_is ∙ same) ∙ sym same) (subst (λ zs. 1 ≤ rejections zs) (sym same) some) in
          let e : t + suc r.0 ≡ suc t + r.0 = omega arith in
          (suc r.0, ap turns e ∙ r.1)

      by : (b : Bool) → x.rejecting ≡ b
          → (left (suc t) ≡ xs → 1 ≤ rejections xs → (n : ℕ) × (turns (suc t + n) ≡ true)) → (n : ℕ) × (turns (t + n) ≡ true)
      by true marked further_on = (0, ap turns (add-zero t) ∙ sym (turns_are t) ∙ ap (λ es. (first_of es).rejecting) is ∙ marked)
      by false marked further_on =
          let fewer : 1 ≤ 0 + rejections xs = subst (λ b. 1 ≤ cond b 1 0 + rejections xs) marked some in
          later xs refl (omega (arith, fewer)) further_on

  again : (t : ℕ) → (n : ℕ) × (turns (t + n) ≡ true)
  again t =
      let there = to_turn (moment t).rest t refl in
      let r = in_turn turn (t + there.0) there.1 rejecting.rejects in
      let e : t + (there.0 + r.0) ≡ (t + there.0) + r.0 = omega arith in
      (there.0 + r.0, ap turns e ∙ r.1)

  -- an until of the formula is not put off for ever
  ended : (u : LtlTree) → Stands (untils_of f) u → (t : ℕ) → (n : ℕ) × (list_any (same_formula u) (choice (t + n)).postponed ≡ false)
  ended u (k, at) t =
      let r = free U postponed counter run again t k (slice_get_within (untils_of f) k u at) in
      (r.0, ap (λ o. option_map_or (λ v. list_any (same_formula v) (choice (t + r.0)).postponed) o false) (sym at) ∙ r.1)

  turned_over : (fs : List LtlTree) (u : LtlTree) → list_any (λ g. same_formula g u) fs ≡ true → list_any (same_formula u) fs ≡ true
  turned_over fs u h =
      let found = list_any_place (λ g. same_formula g u) fs h in
      list_any_contained (same_formula u) fs found.1 (contains_at fs found.0 found.1 found.2)
      (ap (same_formula u) (same_is found.1 u found.3) ∙ same_itself u)

  -- ---- by connectives

  abbrev true_at : LtlTree → ℕ → Bool
  true_at g t = holds loop g (place t)

  module _ (a b : LtlTree) (sound_a : (t : ℕ) → has t a → true_at a t ≡ true) (sound_b : (t : ℕ) → has t b → true_at b t ≡ true) where
    -- a step earlier
    earlier : (p q : ℕ → Bool) (n t : ℕ) → p (place t) ≡ true → ComesAfter (shape_of loop) p q n (place (suc t)) →
        ComesAfter (shape_of loop) p q (suc n) (place t)
    earlier p q n t here comes = record {
      there = ap (λ i. q (steps_on (shape_of loop) n i)) (sym (next_place t)) ∙ comes.there;
      before = before;
    }
      where
        before : (k : ℕ) → k < suc n → p (steps_on (shape_of loop) k (place t)) ≡ true
        before zero below = here
        before (suc k) below = ap (λ i. p (steps_on (shape_of loop) k i)) (sym (next_place t)) ∙ comes.before k (omega arith)

    later : (p q : ℕ → Bool) (n t : ℕ) → ComesAfter (shape_of loop) p q (suc n) (place t) →
        ComesAfter (shape_of loop) p q n (place (suc t))
    later p q n t comes = record {
      there = ap (λ i. q (steps_on (shape_of loop) n i)) (next_place t) ∙ comes.there;
      before = λ k below. ap (λ i. p (steps_on (shape_of loop) k i)) (next_place t) ∙ comes.before (suc k) (omega arith);
    }

    -- up to where it is not put off
    until_ends : (k t : ℕ) → has t (until a b) → list_any (same_formula (until a b)) (choice (t + k)).postponed ≡ false →
        (n : ℕ) × ComesAfter (shape_of loop) (holds loop a) (holds loop b) n (place t)
    until_ends zero t h free_there = elim (of_until (choice t) a b h) [
      | inl right ↦ (0, record { there = sound_b t right; before = λ j below. absurd (omega arith) })
      | inr on ↦
          absurd (false≢true (sym free_there ∙ ap (λ s. list_any (same_formula (until a b)) (choice s).postponed) (add-zero t)
          ∙ turned_over (choice t).postponed (until a b) on.2))
    ]
    until_ends (suc k) t h free_there = elim (of_until (choice t) a b h) [
      | inl right ↦ (0, record { there = sound_b t right; before = λ j below. absurd (omega arith) })
      | inr on ↦
          let e : suc t + k ≡ t + suc k = omega arith in
          let r = until_ends k (suc t) (carried t (until a b) on.1)
          (ap (λ s. list_any (same_formula (until a b)) (choice s).postponed) e ∙ free_there) in
          (suc r.0, earlier (holds loop a) (holds loop b) r.0 t (sound_a t on.0) r.1)
    ]

    until_sound : Stands (untils_of f) (until a b) → (t : ℕ) → has t (until a b) → true_at (until a b) t ≡ true
    until_sound stands t h =
        let k = ended (until a b) stands t in
        let r = until_ends k.0 t h k.1 in
        comes_until (shape_of loop) (holds loop a) (holds loop b) r.0 (place t) (moment t).road.is_position r.1

    abbrev not_a : ℕ → Bool
    not_a i = not (holds loop a i)

    abbrev not_b : ℕ → Bool
    not_b i = not (holds loop b i)

    -- its right side fails nowhere before it is freed
    never_fails : (n t : ℕ) → has t (release a b) → ComesAfter (shape_of loop) not_a not_b n (place t) → ⊥
    never_fails zero t h comes =
        false≢true (ap not (sym (sound_b t (of_release (choice t) a b h).0)) ∙ comes.there)
    never_fails (suc n) t h comes = elim (of_release (choice t) a b h).1 [
      | inl freed ↦ false≢true (ap not (sym (sound_a t freed)) ∙ comes.before 0 (omega arith))
      | inr on ↦ never_fails n (suc t) (carried t (release a b) on) (later not_a not_b n t comes)
    ]

    release_sound : (t : ℕ) → has t (release a b) → true_at (release a b) t ≡ true
    release_sound t h = ap not (false_from_ne_true (until_at (shape_of loop) not_a not_b (place t)) never)
      where
        never : until_at (shape_of loop) not_a not_b (place t) ≡ true → ⊥
        never is =
            let r = until_comes (shape_of loop) not_a not_b (place t) (moment t).road.is_position is in
            never_fails r.0 t h r.2

  has_bit_at : (b t : ℕ) → bit_holds loop b (place t) ≡ has_bit b (letter_of t).0
  has_bit_at b t = ap (λ o. option_map_or (has_bit b) o false) (letter_of t).1

  fits : (t : ℕ) → (letter_of t).0 < 2 ^ 64
  fits t = each_at (λ l. l < 2 ^ 64) (loop.stem ++ loop.cycle) (place t) (letter_of t).0 letters (letter_of t).1

  abbrev Known : List LtlTree → Type 0
  Known us = AllByRecursion (Stands (untils_of f)) us

  mutual
    sound : (g : LtlTree) → Known (untils_in g) → (t : ℕ) → has t g → true_at g t ≡ true
    sound top known t h = refl
    sound bottom known t h = absurd (of_bottom (choice t) h)
    sound (bit b) known t h = has_bit_at b t ∙ of_bit (choice t) (letter_of t).0 (letter_of t).2 b h
    sound (not_bit b) known t h = ap not (has_bit_at b t) ∙ of_not_bit (choice t) (letter_of t).0 (letter_of t).2 (fits t) b h
    sound (conjunction gs) known t h = sound_all gs known t (of_conjunction (choice t) gs h)
    sound (disjunction gs) known t h = sound_any gs known t (of_disjunction (choice t) gs h)
    sound (next a) known t h =
        ap (holds loop a) (sym (next_place t)) ∙ sound a known (suc t) (carried t a (of_next (choice t) a h))
    sound (until a b) known t h =
        until_sound a b (sound a (each_left (Stands (untils_of f)) (untils_in a) (untils_in b) known.1))
        (sound b (each_right (Stands (untils_of f)) (untils_in a) (untils_in b) known.1)) known.0 t h
    sound (release a b) known t h =
        release_sound a b (sound a (each_left (Stands (untils_of f)) (untils_in a) (untils_in b) known))
        (sound b (each_right (Stands (untils_of f)) (untils_in a) (untils_in b) known)) t h

    sound_all : (gs : LtlTrees) → Known (untils_in_all gs) → (t : ℕ) → AllByRecursion (has t) (ltl_formulas_in gs) →
        holds_all loop gs (place t) ≡ true
    sound_all no_formulas known t each = refl
    sound_all (more_formulas g gs) known t each =
        and_from (holds loop g (place t)) (holds_all loop gs (place t))
        (sound g (each_left (Stands (untils_of f)) (untils_in g) (untils_in_all gs) known) t each.0)
        (sound_all gs (each_right (Stands (untils_of f)) (untils_in g) (untils_in_all gs) known) t each.1)

    sound_any : (gs : LtlTrees) → Known (untils_in_all gs) → (t : ℕ) → list_any (has_choice_of (choice t)) (ltl_formulas_in gs) ≡ true →
        holds_any loop gs (place t) ≡ true
    sound_any no_formulas known t some = absurd (false≢true some)
    sound_any (more_formulas g gs) known t some =
        elim (or_cases (has_choice_of (choice t) g) (list_any (has_choice_of (choice t)) (ltl_formulas_in gs)) some) [
          | inl here ↦ or_left (holds loop g (place t)) (holds_any loop gs (place t))
              (sound g (each_left (Stands (untils_of f)) (untils_in g) (untils_in_all gs) known) t here)
          | inr rest ↦ or_right (holds loop g (place t)) (holds_any loop gs (place t))
              (sound_any gs (each_right (Stands (untils_of f)) (untils_in g) (untils_in_all gs) known) t rest)
        ]

  pub sound_at_start : holds loop f 0 ≡ true
  sound_at_start =
      let h : has 0 f = (subst (AllByRecursion (has 0)) (ap (λ s. s.set) start_at) (members 0)).0 in
      ap (holds loop f) (sym start_place) ∙ sound f (all_stand [] (untils_in f)) 0 h

pub law : (f : LtlTree) (states : List StateTree) (edges : List EdgeTree) → IsAutomaton f states edges → (loop : LetterLoop) →
    FitsLetters loop → 1 ≤ length loop.cycle → (stem turn : List EdgeTree) → IsRejectingTurn edges loop stem turn → holds loop f 0 ≡ true
law f states edges automaton loop letters goes_on stem [] rejecting = absurd (omega (arith, rejecting.rejects))
law f states edges automaton loop letters goes_on stem (first ∷ others) rejecting =
    sound_at_start f states edges automaton loop letters goes_on stem first others rejecting
