-- Internal: only private functions of this crate use these words.
-- Numbers of pairs that grow, and the pairs whose number rose since they were looked at.
use Rattle.std.specs.Prelude.{◌≡◌, ℕ, ◌+◌, ◌-◌, ◌*◌, ◌<◌, ◌≤◌, Bool, cond, List, [], ◌∷◌, ◌++◌, length, Option, None, Some}
use Rattle.std.specs.Prelude.{slice_index_or, slice_set, Contains, ◌⊎◌}
use Rattle.std.specs.List.{sum_by}
use Rattle.std.specs.Prelude.{Vec}
use Rattle.std.specs.declared.alloc.Global.{Global}
use Rattle.annotation_check.specs.declared.growing.Rise.{Rise}
use Rattle.annotation_check.specs.declared.stepping.Step.{Step}
use Rattle.annotation_check.specs.Annotations.{IsAtLeast, IsNumbering, IsAnnotation, IsLeast, number_of_pair}
use Rattle.annotation_check.specs.internal.Higher.{is_higher}
use Rattle.annotation_check.specs.internal.Pairs.{PairsTree}
use Rattle.annotation_check.specs.internal.Steps.{after_step, IsStepOf, AreSteps}

-- the place of a pair among the numbers
abbrev pub pair_place : ℕ → Rise → ℕ
pair_place states r = r.machine_state * states + r.automaton_state

-- whether a pair's number is raised
abbrev pub raises : ℕ → List (Option ℕ) → Rise → Bool
raises states numbers r = is_higher (slice_index_or numbers (pair_place states r) None) r.number

-- the numbers after a rise, and the rises that are to be looked at
abbrev pub numbers_after : ℕ → List (Option ℕ) → Rise → List (Option ℕ)
numbers_after states numbers r =
    cond (raises states numbers r) (slice_set numbers (pair_place states r) (Some r.number)) numbers

abbrev pub risen_after : ℕ → List (Option ℕ) → List Rise → Rise → List Rise
risen_after states numbers risen r = cond (raises states numbers r) (risen ++ r ∷ []) risen

-- how far a number may still rise, and all of them together with the rises that are to be looked at
abbrev pub rise_left : ℕ → Option ℕ → ℕ
rise_left bound None = bound + 1
rise_left bound (Some n) = bound - n

abbrev pub work_left : ℕ → List (Option ℕ) → List Rise → ℕ
work_left bound numbers risen = 2 * sum_by (rise_left bound) numbers + length risen

module _ (p : PairsTree) where
  -- the number of a pair
  abbrev pub number_in : List (Option ℕ) → ℕ → ℕ → Option ℕ
  number_in numbers s q = number_of_pair p.automaton_states numbers s q

  -- every numbering has at least this number there
  abbrev pub IsNeeded : ℕ → ℕ → ℕ → Type 0
  IsNeeded s q n = (other : ℕ → ℕ → Option ℕ) → IsNumbering p.edges p.moves other → IsAtLeast n (other s q)

  -- no numbering is within the bound
  abbrev pub HasNone : Type 0
  HasNone = (other : ℕ → ℕ → Option ℕ) → IsAnnotation p.edges p.moves p.bound other → ⊥

  -- numbers in a list that are an annotation within the bound, that are the least ones, and one for each pair
  abbrev pub HasAnnotation : List (Option ℕ) → Type 0
  HasAnnotation numbers = IsAnnotation p.edges p.moves p.bound (number_of_pair p.automaton_states numbers)

  abbrev pub HasLeast : List (Option ℕ) → Type 0
  HasLeast numbers = IsLeast p.edges p.moves (number_of_pair p.automaton_states numbers)

  abbrev pub HasShape : ℕ → List (Option ℕ) → Type 0
  HasShape bound numbers = (bound ≡ p.bound) × (length numbers ≡ p.machine_states * p.automaton_states)

  -- a rise of a pair of states
  pub record IsOfPair (r : Rise) : Type 0 where
    pub machine_state : r.machine_state < p.machine_states
    pub automaton_state : r.automaton_state < p.automaton_states

  -- a number within the bound that every numbering needs
  pub record IsRightful (r : Rise) : Type 0 where
    pub within : r.number ≤ p.bound
    pub needed : IsNeeded r.machine_state r.automaton_state r.number

  -- what holds of numbers at every moment
  pub record IsGrown (numbers : List (Option ℕ)) (risen : List Rise) : Type 0 where
    pub size : length numbers ≡ p.machine_states * p.automaton_states
    pub within : (s q n : ℕ) → number_in numbers s q ≡ Some n → n ≤ p.bound
    pub least : (s q n : ℕ) → number_in numbers s q ≡ Some n → IsNeeded s q n
    pub of_pairs : (r : Rise) → Contains risen r → IsOfPair r

  -- numbers that grew from others: none fell, and those that rose are to be looked at
  pub record GrowsTo (old_numbers : List (Option ℕ)) (old_risen : List Rise) (numbers : List (Option ℕ)) (risen : List Rise) : Type 0 where
    pub grown : IsGrown numbers risen
    pub kept : (s q n : ℕ) → number_in old_numbers s q ≡ Some n → IsAtLeast n (number_in numbers s q)
    pub rose : (s q n : ℕ) → number_in numbers s q ≡ Some n
        → (number_in old_numbers s q ≡ Some n) ⊎ Contains risen (record { machine_state = s; automaton_state = q; number = n })
    pub has : (r : Rise) → Contains old_risen r → Contains risen r
    pub less : work_left p.bound numbers risen ≤ work_left p.bound old_numbers old_risen

  -- a step from a pair, and all of them
  abbrev pub IsStepFrom : ℕ → ℕ → Step → Type 0
  IsStepFrom s q t = IsStepOf (p.moves s) (p.edges q) t

  abbrev pub HasSteps : ℕ → ℕ → List Step → Type 0
  HasSteps s q steps = AreSteps (p.moves s) (p.edges q) steps

  -- a place for each pair, where nothing is kept but its steps
  pub record AreKept (of_pairs : List (Option (Vec Step Global))) : Type 0 where
    pub size : length of_pairs ≡ p.machine_states * p.automaton_states
    pub steps : (s q : ℕ) → q < p.automaton_states → (kept : Vec Step Global)
        → slice_index_or of_pairs (s * p.automaton_states + q) None ≡ Some kept → HasSteps s q kept.items

  -- what a step asks for
  abbrev pub IsMet : List (Option ℕ) → ℕ → Step → Type 0
  IsMet numbers n t = IsAtLeast (after_step n t) (number_in numbers t.machine_state t.automaton_state)

  -- what all steps from a pair with a number ask for
  abbrev pub IsDone : List (Option ℕ) → ℕ → ℕ → ℕ → Type 0
  IsDone numbers s q n = (t : Step) → IsStepFrom s q t → IsMet numbers n t

  -- what holds before each look: the start is numbered, and each pair that is not to be looked at is done
  pub record IsOnTheWay (numbers : List (Option ℕ)) (risen : List Rise) : Type 0 where
    pub grown : IsGrown numbers risen
    pub start : IsAtLeast 0 (number_in numbers 0 0)
    pub others : (s q n : ℕ) → number_in numbers s q ≡ Some n
        → IsDone numbers s q n ⊎ Contains risen (record { machine_state = s; automaton_state = q; number = n })
