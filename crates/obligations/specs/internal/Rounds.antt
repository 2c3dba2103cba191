-- Internal: only private functions of this crate use these words.
-- The choices that no different one lies within, gathered by rising weight.
use Rattle.std.specs.Prelude.{ℕ, ◌+◌, zero, suc, Bool, true, cond, not, bit_and, nat_lt, ◌&&◌, ◌||◌, ◌==◌, List, [], ◌∷◌, ◌++◌, filter, map}
use Rattle.std.specs.Prelude.{length, nat_eq, count_ones}
use Rattle.std.specs.Borrow.{Bor}
use Rattle.std.specs.List.{list_any}
use Rattle.std.specs.Ordering.{nat_cmp}
use Rattle.ltl_formula.specs.Increasing.{IsIncreasing}
use Rattle.ltl_formula.specs.Cubes.{IsWithin}
use Rattle.obligations.specs.declared.numbered.NumberedChoice.{NumberedChoice}
use Rattle.obligations.specs.Choices.{is_within}
use Rattle.obligations.specs.Numbers.{ChoiceKey, choice_key}

-- how much a choice asks for and leaves
abbrev pub weight : ChoiceKey → ℕ
weight c = count_ones c.care + length c.next_set + length c.postponed

-- whether one of some choices lies within another
abbrev pub has_within : List ChoiceKey → ChoiceKey → Bool
has_within lighter c = list_any (λ d. is_within nat_eq d c) lighter

-- of one weight, and none of the lighter ones that are kept lies within it
abbrev pub is_kept : List ChoiceKey → ℕ → ChoiceKey → Bool
is_kept lighter w c = (weight c == w) && not (has_within lighter c)

-- those that are kept of weights below a number
abbrev pub rounds : List ChoiceKey → ℕ → List ChoiceKey
rounds cs zero = []
rounds cs (suc w) = rounds cs w ++ filter (is_kept (rounds cs w) w) cs

-- flags of a list's members, with those set besides at which a test holds, from a place on
abbrev pub with_flags : (ChoiceKey → Bool) → ℕ → List ChoiceKey → List Bool → List Bool
with_flags test n [] flags = flags
with_flags test n (c ∷ cs) [] = []
with_flags test zero (c ∷ cs) (flag ∷ flags) = (flag || test c) ∷ with_flags test zero cs flags
with_flags test (suc n) (c ∷ cs) (flag ∷ flags) = flag ∷ with_flags test n cs flags

-- the flags after the rounds of weights below a number
abbrev pub flags_after : List ChoiceKey → ℕ → List Bool → List Bool
flags_after cs zero flags = flags
flags_after cs (suc w) flags = with_flags (is_kept (rounds cs w) w) 0 cs (flags_after cs w flags)

-- the choices that are lent
abbrev pub lent_keys : List (Bor NumberedChoice) → List ChoiceKey
lent_keys cs = map (λ c. choice_key c.now) cs

-- whether numbers rise after a first one
abbrev pub rises_after : ℕ → List ℕ → Bool
rises_after n [] = true
rises_after n (m ∷ ms) = nat_lt n m && rises_after m ms

abbrev pub numbers_rise : List ℕ → Bool
numbers_rise [] = true
numbers_rise (n ∷ ns) = rises_after n ns

-- whether a cube wants no bit that it does not ask for, and both sets rise
abbrev pub is_rising : ChoiceKey → Bool
is_rising c = (bit_and c.want c.care == c.want) && (numbers_rise c.next_set && numbers_rise c.postponed)

-- the members of a list with flags that are set
abbrev pub flagged_members : List ChoiceKey → List Bool → List ChoiceKey
flagged_members [] flags = []
flagged_members (c ∷ cs) [] = []
flagged_members (c ∷ cs) (flag ∷ flags) = cond flag (c ∷ flagged_members cs flags) (flagged_members cs flags)

-- the cube wants no bit that it does not ask for, and both sets rise
pub record IsRisingChoice (c : ChoiceKey) : Type 0 where
  pub within : IsWithin c.care c.want
  pub next_rises : IsIncreasing nat_cmp c.next_set
  pub postponed_rises : IsIncreasing nat_cmp c.postponed
