-- Literals as pure values.
use Rattle.std.specs.Prelude.{◌≡◌, ◌≢◌, ℕ, zero, suc, pred, ◌+◌, ◌*◌, Bool, true, false, not, cond, ℤ, pos, negsuc, refl, List}
use Rattle.std.specs.Ordering.{int_eq}
use Rattle.std.specs.List.{list_any}

-- A variable, and whether it is wanted true. Variables are counted from 0 here: the one that numbers
-- and texts call v has the index v - 1.
pub record Lit : Type 0 where
  pub index : ℕ
  pub positive : Bool

-- the number that stands for a literal: v for the variable v, and -v for its negation
abbrev pub signed_number_of : Lit → ℤ
signed_number_of l = cond l.positive (pos (suc l.index)) (negsuc l.index)

-- the literal that a number other than 0 stands for
abbrev pub literal_of : ℤ → Lit
literal_of (pos n) = record { index = pred n; positive = true }
literal_of (negsuc n) = record { index = n; positive = false }

-- the literal of the opposite number
abbrev pub negation : Lit → Lit
negation l = record { index = l.index; positive = not l.positive }

-- the place of a literal in a list with two members for each variable: the negative literal's before the positive one's
abbrev pub code_of : Lit → ℕ
code_of l = 2 * l.index + cond l.positive 1 0

-- whether two literals are one
abbrev pub same : Lit → Lit → Bool
same a b = int_eq (signed_number_of a) (signed_number_of b)

-- whether a list has a literal
abbrev pub has : List Lit → Lit → Bool
has literals l = list_any (λ m. same m l) literals

-- a number other than 0 is the number of its literal
pub signed_number_of-literal_of : (n : ℤ) → n ≢ pos 0 → signed_number_of (literal_of n) ≡ n
signed_number_of-literal_of (pos zero) h = absurd (h refl)
signed_number_of-literal_of (pos (suc n)) h = refl
signed_number_of-literal_of (negsuc n) h = refl
