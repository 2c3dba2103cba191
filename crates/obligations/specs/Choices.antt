-- Choices: what one step asks of the letter, and what it leaves for the next one. The formulas that are left go by names
-- of any type, which an order sorts: here formulas are their own names, and the code names them by numbers.
-- Source: Gerth, Peled, Vardi, Wolper: Simple On-the-fly Automatic Verification of Linear Temporal Logic (PSTV 1995),
-- the expansion of a node. Here choices that another one lies within are dropped, and untils that are put off are kept.
use Rattle.std.specs.Prelude.{ℕ, ◌^◌, Bool, not, ◌&&◌, ◌==◌, List, [], ◌∷◌, ◌++◌, cond, length, filter, nat_lt, bit_and, bit_or, bit_xor}
use Rattle.std.specs.Prelude.{Option, None, Some}
use Rattle.std.specs.List.{list_any, list_all, filter_map}
use Rattle.std.specs.declared.cmp.Ordering.{Ordering}
use Rattle.std.specs.Cmp.Lexicographic.{pointwise}
use Rattle.base_library.specs.Kept.{with_new}
use Rattle.ltl_formula.specs.Increasing.{union}
use Rattle.obligations.specs.declared.expanding.TheConstants.{LETTER_BITS}
use Rattle.obligations.specs.declared.step_error.TheConstants.{MOST_CHOICES}

-- the bits that are asked for and those of them that are to be set, what the next step has to meet, and the untils that
-- are put off
pub record ChoiceOf (A : Type 0) : Type 0 where
  pub care : ℕ
  pub want : ℕ
  pub next_set : List A
  pub postponed : List A

-- how many choices a list may have
abbrev pub most_choices : ℕ
most_choices = MOST_CHOICES

-- how many bits a letter has
abbrev pub letter_bits : ℕ
letter_bits = LETTER_BITS

module _ {A : Type 0} where
  -- the choice that asks for nothing and leaves nothing
  abbrev pub empty_choice : ChoiceOf A
  empty_choice = record { care = 0; want = 0; next_set = []; postponed = [] }

  -- the choices of a bit that is to be set: none where a letter has no such bit
  abbrev pub bit_choices : ℕ → List (ChoiceOf A)
  bit_choices b = cond (nat_lt b letter_bits) ((record { care = 2 ^ b; want = 2 ^ b; next_set = []; postponed = [] }) ∷ []) []

  -- the choices of a bit that is not to be set: the empty one where a letter has no such bit
  abbrev pub not_bit_choices : ℕ → List (ChoiceOf A)
  not_bit_choices b = cond (nat_lt b letter_bits) ((record { care = 2 ^ b; want = 0; next_set = []; postponed = [] }) ∷ [])
      (empty_choice ∷ [])

  -- the choice that goes on with a formula, and the one that puts off an until
  abbrev pub goes_on : A → ChoiceOf A
  goes_on f = record { care = 0; want = 0; next_set = f ∷ []; postponed = [] }

  abbrev pub puts_off : A → ChoiceOf A
  puts_off u = record { care = 0; want = 0; next_set = u ∷ []; postponed = u ∷ [] }

  -- nothing, or what is made of a list
  abbrev pub then_list : Option (List (ChoiceOf A)) → (List (ChoiceOf A) → Option (List (ChoiceOf A))) → Option (List (ChoiceOf A))
  then_list None go = None
  then_list (Some cs) go = go cs

module _ {A : Type 0} (same : A → A → Bool) where
  -- whether each member of a set is in another
  abbrev pub is_subset : List A → List A → Bool
  is_subset small large = list_all (λ f. list_any (λ g. same g f) large) small

  abbrev pub same_choice : ChoiceOf A → ChoiceOf A → Bool
  same_choice c d =
      (c.care == d.care) && ((c.want == d.want) && (pointwise same c.next_set d.next_set && pointwise same c.postponed d.postponed))

  -- whether the literals and both sets of a choice are contained in those of another
  abbrev pub is_within : ChoiceOf A → ChoiceOf A → Bool
  is_within c d =
      (bit_and c.care d.care == c.care) && (bit_and d.want c.care == c.want)
      && is_subset c.next_set d.next_set && is_subset c.postponed d.postponed

  -- the choices of a list, equal ones once, in the order in which they first appear
  abbrev pub without_repeats : List (ChoiceOf A) → List (ChoiceOf A)
  without_repeats cs = with_new (λ kept c. same_choice c kept) [] cs

  -- whether a different choice of a list lies within one
  abbrev pub is_larger : List (ChoiceOf A) → ChoiceOf A → Bool
  is_larger cs c = list_any (λ d. is_within d c && not (same_choice d c)) cs

  -- the choices that no different one lies within
  abbrev pub without_larger : List (ChoiceOf A) → List (ChoiceOf A)
  without_larger cs = filter (λ c. not (is_larger cs c)) cs

  -- equal choices once, and no choice that another one lies within
  abbrev pub reduced : List (ChoiceOf A) → List (ChoiceOf A)
  reduced cs = without_larger (without_repeats cs)

  -- a list that was formed, reduced; nothing where it has too many members
  abbrev pub formed : List (ChoiceOf A) → Option (List (ChoiceOf A))
  formed cs = cond (nat_lt most_choices (length cs)) None (Some (reduced cs))

  module _ (cmp : A → A → Ordering) where
    -- both choices together, where their literals do not contradict each other
    abbrev pub joined : ChoiceOf A → ChoiceOf A → Option (ChoiceOf A)
    joined c d =
        cond (bit_and (bit_xor c.want d.want) (bit_and c.care d.care) == 0)
        (Some (record {
          care = bit_or c.care d.care;
          want = bit_or c.want d.want;
          next_set = union cmp c.next_set d.next_set;
          postponed = union cmp c.postponed d.postponed;
        }))
        None

    -- each choice of the left list with each of the right one, left first
    abbrev pub joins : List (ChoiceOf A) → List (ChoiceOf A) → List (ChoiceOf A)
    joins [] right = []
    joins (c ∷ left) right = filter_map (joined c) right ++ joins left right

    abbrev pub product : List (ChoiceOf A) → List (ChoiceOf A) → Option (List (ChoiceOf A))
    product left right = formed (joins left right)
