-- What following one step leaves, and what is met by the steps so far.
use Rattle.std.proofs.Common.{◌≡◌, ℕ, ◌+◌, ◌≤◌, List, [], ◌∷◌, length, take, Option, Some, slice_get}
use Rattle.std.proofs.Common.{add-one, sym, subst}
use Rattle.std.specs.List.{AllByRecursion}
use Rattle.std.proofs.lemmas.List.{take_all}
use Rattle.base_library.proofs.Each.{each_joined, each_contained, each_weaker}
use Rattle.base_library.proofs.Places.{take_next}
use Rattle.annotation_check.specs.declared.growing.Rise.{Rise}
use Rattle.annotation_check.specs.declared.stepping.Step.{Step}
use Rattle.annotation_check.specs.Annotations.{IsAtLeast}
use Rattle.annotation_check.specs.internal.Pairs.{PairsTree, ArePairs}
use Rattle.annotation_check.specs.internal.Steps.{after_step}
use Rattle.annotation_check.specs.internal.Growth.{
  number_in,
  numbers_after,
  risen_after,
  IsOfPair,
  IsRightful,
  IsGrown,
  GrowsTo,
  IsStepFrom,
  HasSteps,
  IsMet,
  IsDone,
}
use Rattle.annotation_check.proofs.Following.{next_needed, met_later, grows_on}
use Rattle.annotation_check.proofs.Raising.{raised}

module _ (p : PairsTree) (pairs : ArePairs p) (r : Rise) (t : Step) (from : IsStepFrom p r.machine_state r.automaton_state t) (next : Rise)
    (is : next ≡ record { machine_state = t.machine_state; automaton_state = t.automaton_state; number = after_step r.number t }) where
  -- the pair after a step
  pub next_of_pair : IsOfPair p next
  next_of_pair = subst (IsOfPair p) (sym is) (subst (λ (x : Step). IsOfPair p (record {
    machine_state = x.machine_state;
    automaton_state = x.automaton_state;
    number = after_step r.number x;
  })) (sym from.is) (record {
    machine_state = pairs.moves_stay r.machine_state from.move from.moved;
    automaton_state = pairs.edges_stay r.automaton_state from.edge from.leaves;
  }))

  -- once it has what the step asks for
  pub step_followed : (numbers : List (Option ℕ)) (risen : List Rise) (next_numbers : List (Option ℕ)) (next_risen : List Rise) →
      IsGrown p numbers risen → IsRightful p r → after_step r.number t ≤ p.bound →
      next_numbers ≡ numbers_after p.automaton_states numbers next → next_risen ≡ risen_after p.automaton_states numbers risen next →
      GrowsTo p numbers risen next_numbers next_risen × IsMet p next_numbers r.number t
  step_followed numbers risen next_numbers next_risen grown rightful within numbers_are risen_are =
      let rightful_next : IsRightful p next =
      subst (IsRightful p) (sym is) (record { within = within; needed = next_needed p r t from rightful.needed }) in
      let made = raised p numbers risen next grown rightful_next next_of_pair in
      let grows = subst (GrowsTo p numbers risen next_numbers) (sym risen_are)
      (subst (λ ns. GrowsTo p numbers risen ns (risen_after p.automaton_states numbers risen next)) (sym numbers_are) made.0) in
      let at = subst (λ ns. IsAtLeast next.number (number_in p ns next.machine_state next.automaton_state)) (sym numbers_are) made.1 in
      (grows, subst (λ (x : Rise). IsAtLeast x.number (number_in p next_numbers x.machine_state x.automaton_state)) is at)

module _ (p : PairsTree) (n : ℕ) (numbers : List (Option ℕ)) (risen : List Rise) where
  -- a step more
  pub step_more : (steps : List Step) (i : ℕ) (t : Step) (now_numbers : List (Option ℕ)) (now_risen : List Rise)
      (next_numbers : List (Option ℕ)) (next_risen : List Rise) → slice_get steps i ≡ Some t →
      GrowsTo p numbers risen now_numbers now_risen × AllByRecursion (IsMet p now_numbers n) (take i steps) →
      GrowsTo p now_numbers now_risen next_numbers next_risen × IsMet p next_numbers n t →
      GrowsTo p numbers risen next_numbers next_risen × AllByRecursion (IsMet p next_numbers n) (take (i + 1) steps)
  step_more steps i t now_numbers now_risen next_numbers next_risen at so_far here = (
    grows_on p numbers risen now_numbers now_risen so_far.0 next_numbers next_risen here.0,
    rw add-one (subst (AllByRecursion (IsMet p next_numbers n)) (sym (take_next steps i t at))
        (each_joined (IsMet p next_numbers n) (take i steps) (t ∷ [])
        (each_weaker (IsMet p now_numbers n) (IsMet p next_numbers n)
        (λ x met. met_later p now_numbers now_risen next_numbers next_risen here.0 n x met) (take i steps) so_far.1)
        (here.1, tt))),
  )

-- and all of them
pub all_met : (p : PairsTree) (n s q : ℕ) (numbers : List (Option ℕ)) (steps : List Step) (i : ℕ) → length steps ≤ i → HasSteps p s q steps →
    AllByRecursion (IsMet p numbers n) (take i steps) → IsDone p numbers s q n
all_met p n s q numbers steps i past are each t from =
    each_contained (IsMet p numbers n) steps t (subst (AllByRecursion (IsMet p numbers n)) (take_all i steps past) each) ((are t).1 from)
