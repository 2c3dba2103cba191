-- Paths by their numbers: each path of vectors has one.
use Rattle.std.proofs.Common.{◌≡◌, ◌∙◌, ℕ, zero, suc, ◌+◌, ◌*◌, ◌^◌, ◌/◌, ◌%◌, ◌<◌}
use Rattle.std.proofs.Common.{◌≤◌, ◌-◌, ◌∷◌, length, Some, slice_get, refl, sym, ap, arith, add-one}
use Rattle.std.specs.List.{AllByRecursion}
use Rattle.std.proofs.lemmas.Nat.{mod-mul-add, div-mul-add}
use Rattle.std.proofs.Math.Nat.{mod-lt, pow-suc, pow-zero, mul-one, one-mul, mul_assoc, mul-le-mul_left, pow-le-pow_right, one-le-pow}
use Rattle.std.proofs.lemmas.Nat.{mul-le}
use Rattle.branch_finder.specs.internal.Paths.{path_of}

pub path_length : (vectors steps number : ℕ) → length (path_of vectors steps number) ≡ steps
path_length vectors zero number = refl
path_length vectors (suc steps) number = ap suc (path_length vectors steps (number / vectors))

pub path_within : (vectors steps number : ℕ) → 0 < vectors → AllByRecursion (λ v. v < vectors) (path_of vectors steps number)
path_within vectors zero number some = tt
path_within vectors (suc steps) number some = (mod-lt number some, path_within vectors steps (number / vectors) some)

-- the number of a path where at each step there is a number of which something holds
pub record IsNumberOf (numbers steps : ℕ) (P : ℕ → ℕ → Type 0) : Type 0 where
  pub number : ℕ
  pub below : number < numbers ^ steps
  pub each : (t : ℕ) → t < steps → (k : ℕ) × (slice_get (path_of numbers steps number) t ≡ Some k) × P t k

pub number_of_path : (numbers steps : ℕ) (P : ℕ → ℕ → Type 0) → ((t : ℕ) → t < steps → (k : ℕ) × (k < numbers) × P t k) →
    IsNumberOf numbers steps P
number_of_path numbers zero P some = record {
  number = 0;
  below = let one : numbers ^ 0 ≡ 1 = pow-zero numbers in omega (arith, one);
  each = λ t below. absurd (omega (arith, below));
}
number_of_path numbers (suc steps) P some =
    let rest = number_of_path numbers steps (λ t k. P (suc t) k) (λ t below. some (suc t) (omega (arith, below))) in
    let here = some 0 (omega arith) in
    let digit : (rest.number * numbers + here.0) % numbers ≡ here.0 = mod-mul-add rest.number numbers here.0 here.1 in
    let above : (rest.number * numbers + here.0) / numbers ≡ rest.number = div-mul-add rest.number numbers here.0 here.1 in
    record {
      number = rest.number * numbers + here.0;
      below = by rest here.0 here.1;
      each = digits rest here.0 here.2 digit above;
    }
  where
    by : (rest : IsNumberOf numbers steps (λ t k. P (suc t) k)) (here : ℕ) → here < numbers →
        rest.number * numbers + here < numbers ^ suc steps
    by rest here below =
        let most : (rest.number + 1) * numbers ≤ numbers ^ steps * numbers
        = mul-le (rest.number + 1) numbers (numbers ^ steps) numbers (omega (arith, rest.below)) (omega arith) in
        let whole : numbers ^ suc steps ≡ numbers ^ steps * numbers = pow-suc numbers steps in
        let split : (rest.number + 1) * numbers ≡ rest.number * numbers + numbers = grind arith in
        omega (arith, most, whole, split, below)

    digits : (rest : IsNumberOf numbers steps (λ t k. P (suc t) k)) (here : ℕ) → P 0 here →
        (rest.number * numbers + here) % numbers ≡ here → (rest.number * numbers + here) / numbers ≡ rest.number →
        (t : ℕ) → t < suc steps → (k : ℕ) × (slice_get (path_of numbers (suc steps) (rest.number * numbers + here)) t ≡ Some k) × P t k
    digits rest here holds digit above zero below = (here, ap Some digit, holds)
    digits rest here holds digit above (suc t) below =
        let there = rest.each t (omega (arith, below)) in
        (there.0, ap (λ n. slice_get (path_of numbers steps n) t) above ∙ there.1, there.2)

-- one vector more of a path that is made
pub made_more : (vectors left rest : ℕ) → 0 < left →
    path_of vectors left rest ≡ (rest % vectors) ∷ path_of vectors (left - 1) (rest / vectors)
made_more vectors zero rest some = absurd (omega (arith, some))
made_more vectors (suc left) rest some = let same : suc left - 1 ≡ left = omega arith in
    ap (λ n. (rest % vectors) ∷ path_of vectors n (rest / vectors)) (sym same)

-- ---- counts

module _ (predicates vectors : ℕ) (some : 1 ≤ vectors) where
  pub counted_first : predicates * predicates ≡ predicates ^ 2 * vectors ^ 0
  counted_first =
      let one : vectors ^ 0 ≡ 1 = pow-zero vectors in
      let none : predicates ^ 0 ≡ 1 = pow-zero predicates in
      let first : predicates ^ 1 ≡ predicates ^ 0 * predicates = pow-suc predicates 0 in
      let second : predicates ^ 2 ≡ predicates ^ 1 * predicates = pow-suc predicates 1 in
      sym (ap (λ n. predicates ^ 2 * n) one ∙ mul-one (predicates ^ 2) ∙ second
      ∙ ap (λ n. n * predicates) (first ∙ ap (λ n. n * predicates) none ∙ one-mul predicates))

  pub counted_more : (count step : ℕ) → count ≡ predicates ^ 2 * vectors ^ step → count * vectors ≡ predicates ^ 2 * vectors ^ (step + 1)
  counted_more count step is =
      ap (λ n. n * vectors) is ∙ mul_assoc (predicates ^ 2) (vectors ^ step) vectors
      ∙ ap (λ n. predicates ^ 2 * n) (sym (ap (λ n. vectors ^ n) (add-one step) ∙ pow-suc vectors step))

  pub counts_grow : (step depth : ℕ) → step ≤ depth → predicates ^ 2 * vectors ^ step ≤ predicates ^ 2 * vectors ^ depth
  counts_grow step depth within = mul-le-mul_left (predicates ^ 2) (pow-le-pow_right (omega (arith, some)) within)

  -- with a predicate term, paths are no more than branches
  pub paths_within : (depth : ℕ) → 1 ≤ predicates → vectors ^ depth ≤ predicates ^ 2 * vectors ^ depth
  paths_within depth one =
      let squared : 1 ≤ predicates ^ 2 = one-le-pow 2 predicates (omega (arith, one)) in
      let more : 1 * vectors ^ depth ≤ predicates ^ 2 * vectors ^ depth
      = mul-le 1 (vectors ^ depth) (predicates ^ 2) (vectors ^ depth) squared (omega arith) in
      omega (arith, more, one-mul (vectors ^ depth))

pub powers_below : (few many steps : ℕ) → few ≤ many → few ^ steps ≤ many ^ steps
powers_below few many zero within = omega (arith, pow-zero few, pow-zero many)
powers_below few many (suc steps) within =
    let most = mul-le (few ^ steps) few (many ^ steps) many (powers_below few many steps within) within in
    omega (arith, most, pow-suc few steps, pow-suc many steps)

pub powers_grow : (vectors step depth : ℕ) → 1 ≤ vectors → step ≤ depth → vectors ^ step ≤ vectors ^ depth
powers_grow vectors step depth some within = pow-le-pow_right (omega (arith, some)) within

pub power_more : (vectors count step : ℕ) → count ≡ vectors ^ step → count * vectors ≡ vectors ^ (step + 1)
power_more vectors count step is = ap (λ n. n * vectors) is ∙ sym (ap (λ n. vectors ^ n) (add-one step) ∙ pow-suc vectors step)
