-- Small cases of the definitions, accepted and refused.
use Rattle.std.proofs.Common.{◌≡◌, ℕ, zero, suc, Bool, true, false, List, [], ◌∷◌, length, pos, negsuc, refl, ap, ◌∙◌, arith, lit<}
use Rattle.std.proofs.Common.{Contains}
use Rattle.std.proofs.lemmas.Bool.{true≢false, false≢true}
use Rattle.clause_core.specs.Literals.{Lit, signed_number_of, literal_of, negation, has}
use Rattle.clause_core.specs.Clauses.{in_order, is_contained, has_pair, meets, meets_all}
use Rattle.clause_core.specs.Propagation.{not_false, IsFalse, IsUnit, is_satisfied, Reaches, HasReversePropagation, IsQuiet}
use Rattle.clause_core.specs.Propagation.Reaches.{done, turn}
use Rattle.clause_core.proofs.Semantics.{reached_within}

abbrev a : Lit
a = literal_of (pos 1)

abbrev b : Lit
b = literal_of (pos 2)

-- variable 2, wanted false
number : signed_number_of (record { index = 1; positive = false }) ≡ negsuc 1
number = refl

opposite : negation (literal_of (negsuc 1)) ≡ b
opposite = refl

-- 2, -1, 2, 1 in order: -1, 1, 2
ordered : in_order (b ∷ negation a ∷ b ∷ a ∷ []) ≡ negation a ∷ a ∷ b ∷ []
ordered = refl

ordered_empty : in_order [] ≡ []
ordered_empty = refl

contained : is_contained (a ∷ []) (negation b ∷ a ∷ []) ≡ true
contained = refl

not_contained : is_contained (negation a ∷ b ∷ []) (a ∷ b ∷ []) ≡ false
not_contained = refl

pair : has_pair (negation a ∷ a ∷ b ∷ []) ≡ true
pair = refl

no_pair : has_pair (negation a ∷ b ∷ []) ≡ false
no_pair = refl

abbrev first_only : ℕ → Bool
first_only zero = true
first_only (suc n) = false

met : meets first_only (negation b ∷ []) ≡ true
met = refl

unmet : meets first_only (negation a ∷ b ∷ []) ≡ false
unmet = refl

empty_unmet : meets first_only [] ≡ false
empty_unmet = refl

none_to_meet : meets_all first_only [] ≡ true
none_to_meet = refl

-- with 1 true: -1 2 has the one unassigned literal 2
unit : IsUnit (a ∷ []) (negation a ∷ b ∷ []) b
unit = record { others_false = refl; unassigned = refl }

-- a true literal is not unassigned
not_unit : IsUnit (a ∷ b ∷ []) (negation a ∷ b ∷ []) b → ⊥
not_unit u = true≢false u.unassigned

false' : IsFalse (a ∷ negation b ∷ []) (negation a ∷ b ∷ [])
false' = refl

satisfied : is_satisfied (a ∷ b ∷ []) (negation a ∷ b ∷ []) ≡ true
satisfied = refl

not_satisfied : is_satisfied (a ∷ []) (negation a ∷ b ∷ []) ≡ false
not_satisfied = refl

-- the clauses 1 2, 1 -2, -1 2 and -1 -2
abbrev square : List (List Lit)
square = (a ∷ b ∷ []) ∷ (negation b ∷ a ∷ []) ∷ (negation a ∷ b ∷ []) ∷ (negation b ∷ negation a ∷ []) ∷ []

-- 1 follows: with 1 false, 1 2 makes 2 true, and 1 -2 is false
reverse : HasReversePropagation square (a ∷ [])
reverse = (
  b ∷ negation a ∷ [],
  turn {clause = a ∷ b ∷ []} {l = b} (0, lit< tt, refl)
      (record { others_false = refl; unassigned = refl }) done,
  (negation b ∷ a ∷ [], (1, lit< tt, refl), refl),
)

-- the clause 1 2 alone is quiet, so unit propagation over it makes nothing true
abbrev one_clause : List (List Lit)
one_clause = (a ∷ b ∷ []) ∷ []

two_open : (c : List Lit) (l : Lit) → Contains one_clause c → not_false [] c ≡ l ∷ [] → ⊥
two_open c l (zero, below, is) u = differ (ap length (ap (not_false []) is ∙ u))
  where
    differ : ◌≡◌ {A = ℕ} 2 1 → ⊥
    differ h = omega arith
two_open c l (suc k, below, is) u = omega arith

none_open : (c : List Lit) → Contains one_clause c → not_false [] c ≡ [] → ⊥
none_open c (zero, below, is) u = differ (ap length (ap (not_false []) is ∙ u))
  where
    differ : ◌≡◌ {A = ℕ} 2 0 → ⊥
    differ h = omega arith
none_open c (suc k, below, is) u = omega arith

quiet : IsQuiet one_clause []
quiet = record { none_false = λ (c, in', f). none_open c in' f; none_unit = λ c l in' u. two_open c l in' u.others_false }

still : (trues : List Lit) → Reaches one_clause [] trues → (l : Lit) → has trues l ≡ true → ⊥
still trues r l h = false≢true (reached_within one_clause [] trues [] r (λ m k. k) quiet l h)
