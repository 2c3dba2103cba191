-- The entry of a table at arguments, and the value of a cell at first.
use Rattle.std.proofs.Common.{◌≡◌, ◌∙◌, ℕ, suc, ◌+◌, ◌*◌, ◌^◌, ◌<◌, ◌≤◌, ◌==◌, Bool, true, false, List, [], ◌∷◌}
use Rattle.std.proofs.Common.{length, map, take, get_or, Option, Some, None, Bor, refl, sym, ap, arith}
use Rattle.std.specs.Prelude.{nat_eq, slice_get, option_copied, option_and_then, IsSome, if◌then◌else◌}
use Rattle.std.specs.Map.{lookup}
use Rattle.std.proofs.lemmas.Bool.{eqb-true, eq-eqb}
use Rattle.std.proofs.Math.Nat.{mul-le-mul_right, pow-le-pow_right, pow-suc, add-mul}
use Rattle.base_library.proofs.Booleans.{same_tests}
use Rattle.tsl_terms.specs.Value.{beside}
use Rattle.tsl_meaning.specs.Interpretation.{Interpretation, are_values, place_of_arguments, entry_of, entry_at}

-- ---- arguments one by one

-- the arguments up to a place are values, and this is their place in a table for so many
pub record PlacedUpTo (domain : ℕ) (xs : List ℕ) (i place : ℕ) : Type 0 where
  pub values : are_values domain (take i xs) ≡ true
  pub place_is : place ≡ place_of_arguments domain (take i xs)
  pub below : place < domain ^ i

-- one argument more
pub step_within : (domain : ℕ) (xs : List ℕ) (i d place : ℕ) → i < length xs → get_or xs i d < domain → PlacedUpTo domain xs i place →
    place * domain + get_or xs i d < domain ^ (i + 1)
step_within domain xs i d place within value h =
    let more : (place + 1) * domain ≤ (domain ^ i) * domain = mul-le-mul_right domain (omega (arith, h.below)) in
    let power : domain ^ suc i ≡ (domain ^ i) * domain = pow-suc domain i in
    let wide : (place + 1) * domain ≡ place * domain + domain = add-mul place 1 domain ∙ omega arith in
    let next : domain ^ (i + 1) ≡ domain ^ suc i = ap (λ n. domain ^ n) (omega arith) in
    omega (arith, more, power, wide, next, value)

-- and it fits, where the table's size does
pub step_fits : (domain : ℕ) (xs : List ℕ) (i d place : ℕ) → i < length xs → get_or xs i d < domain → PlacedUpTo domain xs i place →
    domain ^ length xs < 2 ^ 64 → place * domain + get_or xs i d < 2 ^ 64
step_fits domain xs i d place within value h small =
    let some : 0 < domain = omega (arith, value) in
    let bound : domain ^ (i + 1) ≤ domain ^ length xs = pow-le-pow_right some (omega (arith, within)) in
    omega (arith, step_within domain xs i d place within value h, bound, small)

-- ---- the entry

-- what stands where a symbol has an entry at its arguments
pub record HasTable (interpretation : Interpretation) (id : ℕ) (arguments : List ℕ) : Type 0 where
  pub table : List ℕ
  pub there : slice_get interpretation.tables id ≡ Some table
  pub size : length table ≡ interpretation.domain ^ length arguments

pub has_table : (interpretation : Interpretation) (id : ℕ) (arguments : List ℕ) → IsSome (entry_at interpretation id arguments) →
    HasTable interpretation id arguments
has_table interpretation id arguments h = by (slice_get interpretation.tables id) refl h where
  by : (found : Option (List ℕ)) → slice_get interpretation.tables id ≡ found →
      IsSome (option_and_then (entry_of interpretation.domain arguments) found) → HasTable interpretation id arguments
  by None e k = cc
  by (Some table) e k = sized (length table == (interpretation.domain ^ length arguments)) refl k where
    sized : (b : Bool) → (length table == (interpretation.domain ^ length arguments)) ≡ b →
        IsSome (if b then (if are_values interpretation.domain arguments
        then slice_get table (place_of_arguments interpretation.domain arguments) else Some 0) else None) →
        HasTable interpretation id arguments
    sized true same l = record { table = table; there = e; size = eqb-true _ _ same }
    sized false same l = cc

-- ---- the value of a cell at first

pub beside_lookup : (s : ℕ) (es : List (ℕ × ℕ)) →
    beside s (map (λ e. e.0) es) (map (λ e. e.1) es) ≡ lookup (nat_eq s) es
beside_lookup s [] = refl
beside_lookup s (e ∷ es) =
    rw (beside_lookup s es, same_either_way e.0 s) refl where
      same_either_way : (a b : ℕ) → (a == b) ≡ nat_eq b a
      same_either_way a b = same_tests (a == b) (b == a) (λ h. eq-eqb b a (sym (eqb-true a b h))) (λ h. eq-eqb a b (sym (eqb-true b a h)))

pub copied_some : (found : Option (Bor ℕ)) (value : Option ℕ) → option_copied found ≡ value → IsSome value → IsSome found
copied_some (Some b) value e h = refl
copied_some None value e h = rw (← e) at h
