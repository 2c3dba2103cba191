-- Internal: only private functions of this crate use these words.
-- Lists of choices of which none lies within another, and lists that have nothing in common.
use Rattle.std.specs.Prelude.{◌≡◌, ℕ, ◌^◌, ◌%◌, Bool, false, true, not, ◌&&◌, ◌==◌, List, [], ◌∷◌, bit_and, bit_or, nat_eq, ⊤}
use Rattle.std.specs.List.{list_all, AllByRecursion}
use Rattle.obligations.specs.Choices.{is_within, same_choice}
use Rattle.obligations.specs.Numbers.{ChoiceKey}
use Rattle.obligations.specs.internal.Rounds.{is_rising}

-- two choices differ, and neither lies within the other
pub record AreApart (c d : ChoiceKey) : Type 0 where
  pub differ : same_choice nat_eq d c ≡ false
  pub first : is_within nat_eq c d ≡ false
  pub second : is_within nat_eq d c ≡ false

-- no choice of a list lies within another one
abbrev pub IsAntichain : List ChoiceKey → Type 0
IsAntichain [] = ⊤
IsAntichain (c ∷ cs) = AllByRecursion (AreApart c) cs × IsAntichain cs

-- the tests of both
abbrev pub are_apart : ChoiceKey → ChoiceKey → Bool
are_apart c d = not (is_within nat_eq c d) && (not (is_within nat_eq d c) && not (same_choice nat_eq c d))

abbrev pub is_antichain : List ChoiceKey → Bool
is_antichain [] = true
is_antichain (c ∷ cs) = list_all (are_apart c) cs && is_antichain cs

-- all bits of the members of a list
abbrev pub gathered : {A : Type 0} → (A → ℕ) → List A → ℕ
gathered bits [] = 0
gathered bits (x ∷ xs) = bit_or (bits x) (gathered bits xs)

-- all bits that the choices of a list ask for
abbrev pub cares : List ChoiceKey → ℕ
cares cs = gathered (λ c. c.care) cs

-- the bit that stands for a number: it may stand for others too
abbrev pub mark : ℕ → ℕ
mark n = 2 ^ (n % 64)

-- the bits that stand for what a choice leaves and puts off, and for what those of a list do
abbrev pub marks_of : ChoiceKey → ℕ
marks_of c = bit_or (gathered mark c.next_set) (gathered mark c.postponed)

abbrev pub all_marks : List ChoiceKey → ℕ
all_marks cs = gathered marks_of cs

-- whether no bit is asked for in two lists, and none stands for something that both leave or put off
abbrev pub have_nothing_in_common : List ChoiceKey → List ChoiceKey → Bool
have_nothing_in_common left right =
    (bit_and (cares left) (cares right) == 0) && ((bit_and (all_marks left) (all_marks right) == 0)
    && (list_all is_rising left && list_all is_rising right))
