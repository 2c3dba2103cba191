-- The entry of a function's table at arguments is its value at them.
use Rattle.std.proofs.Common.{◌≡◌, ◌∙◌, ℕ, zero, suc, ◌+◌, ◌*◌, ◌^◌, ◌<◌, ◌≤◌, ◌==◌, Bool, true, false, ◌&&◌, cond, List, [], ◌∷◌, ◌++◌}
use Rattle.std.proofs.Common.{length, map, Some, None, refl, sym, ap, arith, inl, inr, length-append}
use Rattle.std.specs.Prelude.{slice_get, flat_map, nat_lt, option_map, IsSome}
use Rattle.std.proofs.Math.Nat.{mul-le-mul_left, pow-le-pow_right, pow-suc, pow-zero}
use Rattle.std.proofs.lemmas.Bool.{and_parts, ltb-true, eqb-true, eq-eqb, cases_lt}
use Rattle.std.proofs.lemmas.List.{length-map}
use Rattle.std.proofs.lemmas.Option.{none-some, slice_get-map}
use Rattle.base_library.specs.Numbers.{numbers_from}
use Rattle.base_library.proofs.Numbers.{length-numbers, numbers_at}
use Rattle.base_library.proofs.Places.{slice_get-front, slice_get-append}
use Rattle.tsl_meaning.specs.Interpretation.{are_values, place_of_arguments, entry_of}
use Rattle.word_interp.specs.Operations.{WordFunction, constant, unary, binary, arity_of, entries_of}
use Rattle.word_interp.specs.internal.Applied.{applied}

-- ---- as many entries as lists of arguments

some_power : (d n : ℕ) → 2 ≤ d → 1 ≤ d ^ n
some_power d n two = let least : d ^ 0 ≤ d ^ n = pow-le-pow_right (omega (arith, two)) (omega arith) in omega (arith, least, pow-zero d)

power_grows : (d m n : ℕ) → 2 ≤ d → m < n → d ^ m < d ^ n
power_grows d m n two less =
    let twice : (d ^ m) * 2 ≤ (d ^ m) * d = mul-le-mul_left (d ^ m) two in
    let next : d ^ suc m ≡ (d ^ m) * d = pow-suc d m in
    let rest : d ^ suc m ≤ d ^ n = pow-le-pow_right (omega (arith, two)) (omega (arith, less)) in
    omega (arith, twice, next, rest, some_power d m two)

pub least_words : (bits : ℕ) → 1 ≤ bits → 2 ≤ 2 ^ bits
least_words bits some =
    let least : 2 ^ 1 ≤ 2 ^ bits = pow-le-pow_right (omega arith) some in
    omega (arith, least)

-- lists of different lengths are as many as different powers
pub one_power : (d m n : ℕ) → 2 ≤ d → d ^ m ≡ d ^ n → m ≡ n
one_power d m n two same = elim (cases_lt m n) [
  | inl less ↦ absurd (omega (arith, power_grows d m n two less, same))
  | inr back ↦ elim (cases_lt n m) [
    | inl more ↦ absurd (omega (arith, power_grows d n m two more, same))
    | inr also ↦ omega (arith, back, also)
  ]
]

module _ {X : Type 0} (rows : ℕ → List X) (width : ℕ) (wide : (n : ℕ) → length (rows n) ≡ width) where
  rows_length : (ns : List ℕ) → length (flat_map rows ns) ≡ length ns * width
  rows_length [] = omega arith
  rows_length (n ∷ ns) =
      let step : suc (length ns) * width ≡ width + length ns * width = grind arith in
      omega (arith, length-append (rows n) (flat_map rows ns), rows_length ns, wide n, step)

  row_at : (ns : List ℕ) (i j n : ℕ) → slice_get ns i ≡ Some n → j < width → slice_get (flat_map rows ns) (i * width + j) ≡ slice_get (rows n) j
  row_at [] i j n at within = absurd (none-some n at)
  row_at (m ∷ ns) zero j n at within =
      ap (slice_get (rows m ++ flat_map rows ns)) (let e : 0 * width + j ≡ j = omega arith in e)
      ∙ slice_get-front (rows m) (flat_map rows ns) j (omega (arith, within, wide m)) ∙ first at where
        first : Some m ≡ Some n → slice_get (rows m) j ≡ slice_get (rows n) j
        first e = cc
  row_at (m ∷ ns) (suc i) j n at within =
      let place : suc i * width + j ≡ width + (i * width + j) = grind arith in
      slice_get-append (rows m) (flat_map rows ns) (i * width + j) (suc i * width + j) (omega (arith, place, wide m))
      ∙ row_at ns i j n at within

power_one : (d : ℕ) → d ^ 1 ≡ d
power_one d = pow-suc d 0 ∙ ap (λ n. n * d) (pow-zero d) ∙ (let e : 1 * d ≡ d = omega arith in e)

power_two : (d : ℕ) → d ^ 2 ≡ d * d
power_two d = pow-suc d 1 ∙ ap (λ n. n * d) (power_one d)

pub entries_many : (domain : ℕ) (f : WordFunction) → length (entries_of domain f) ≡ domain ^ arity_of f
entries_many domain (constant n) = sym (pow-zero domain)
entries_many domain (unary f) =
    length-map (numbers_from 0 domain) f ∙ length-numbers 0 domain ∙ sym (power_one domain)
entries_many domain (binary f) =
    rows_length (λ x. map (f x) (numbers_from 0 domain)) domain
    (λ x. length-map (numbers_from 0 domain) (f x) ∙ length-numbers 0 domain) (numbers_from 0 domain)
    ∙ ap (λ n. n * domain) (length-numbers 0 domain) ∙ sym (power_two domain)

-- ---- the entry at words

number_there : (domain x : ℕ) → x < domain → slice_get (numbers_from 0 domain) x ≡ Some x
number_there domain x within = numbers_at 0 domain x within ∙ ap (λ n. Some n) (let e : 0 + x ≡ x = omega arith in e)

value_there : (domain : ℕ) (f : ℕ → ℕ) (x : ℕ) → x < domain → slice_get (map f (numbers_from 0 domain)) x ≡ Some (f x)
value_there domain f x within = slice_get-map f (numbers_from 0 domain) x ∙ ap (option_map f) (number_there domain x within)

word : (domain x : ℕ) (rest : Bool) → (nat_lt x domain && rest) ≡ true → x < domain
word domain x rest h = ltb-true x domain (and_parts (nat_lt x domain) rest h).0

single_place : (domain x : ℕ) → 0 * domain + x ≡ x
single_place domain x = omega arith

-- where the arguments are words
entry_there : (domain : ℕ) (f : WordFunction) (arguments : List ℕ) → arity_of f ≡ length arguments → are_values domain arguments ≡ true →
    slice_get (entries_of domain f) (place_of_arguments domain arguments) ≡ applied f arguments
entry_there domain (constant n) [] same all = refl
entry_there domain (constant n) (x ∷ xs) same all = absurd (omega (arith, same))
entry_there domain (unary f) [] same all = absurd (omega (arith, same))
entry_there domain (unary f) (x ∷ []) same all =
    ap (slice_get (map f (numbers_from 0 domain))) (single_place domain x) ∙ value_there domain f x (word domain x true all)
entry_there domain (unary f) (x ∷ y ∷ xs) same all = absurd (omega (arith, same))
entry_there domain (binary f) [] same all = absurd (omega (arith, same))
entry_there domain (binary f) (x ∷ []) same all = absurd (omega (arith, same))
entry_there domain (binary f) (x ∷ y ∷ []) same all =
    ap (λ n. slice_get (entries_of domain (binary f)) (n * domain + y)) (single_place domain x)
    ∙ row_at (λ m. map (f m) (numbers_from 0 domain)) domain
    (λ m. length-map (numbers_from 0 domain) (f m) ∙ length-numbers 0 domain) (numbers_from 0 domain) x y x
    (number_there domain x (word domain x (nat_lt y domain && true) all))
    (word domain y true (and_parts (nat_lt x domain) (nat_lt y domain && true) all).1)
    ∙ value_there domain (f x) y (word domain y true (and_parts (nat_lt x domain) (nat_lt y domain && true) all).1)
entry_there domain (binary f) (x ∷ y ∷ z ∷ xs) same all = absurd (omega (arith, same))

-- a table is for so many arguments
pub sized : (domain : ℕ) (arguments table : List ℕ) → IsSome (entry_of domain arguments table) →
    length table ≡ domain ^ length arguments
sized domain arguments table h = by (length table == (domain ^ length arguments)) refl h where
  by : (b : Bool) → (length table == (domain ^ length arguments)) ≡ b →
      IsSome (cond b (cond (are_values domain arguments) (slice_get table (place_of_arguments domain arguments)) (Some 0)) None) →
      length table ≡ domain ^ length arguments
  by true e k = eqb-true _ _ e
  by false e k = cc

pub entry_by : (domain : ℕ) (arguments table : List ℕ) (b : Bool) → length table ≡ domain ^ length arguments →
    are_values domain arguments ≡ b →
    entry_of domain arguments table ≡ cond b (slice_get table (place_of_arguments domain arguments)) (Some 0)
entry_by domain arguments table b size all =
    ap (λ t. cond t (cond (are_values domain arguments) (slice_get table (place_of_arguments domain arguments)) (Some 0)) None)
    (eq-eqb (length table) (domain ^ length arguments) size)
    ∙ ap (λ t. cond t (slice_get table (place_of_arguments domain arguments)) (Some 0)) all

module _ (domain : ℕ) (two : 2 ≤ domain) (f : WordFunction) (arguments : List ℕ)
    (had : IsSome (entry_of domain arguments (entries_of domain f))) where
  fitting : arity_of f ≡ length arguments
  fitting =
      one_power domain (arity_of f) (length arguments) two
      (sym (entries_many domain f) ∙ sized domain arguments (entries_of domain f) had)

  pub at_words : are_values domain arguments ≡ true → entry_of domain arguments (entries_of domain f) ≡ applied f arguments
  at_words all =
      entry_by domain arguments (entries_of domain f) true (sized domain arguments (entries_of domain f) had) all
      ∙ entry_there domain f arguments fitting all

  pub has_value : are_values domain arguments ≡ true → IsSome (applied f arguments)
  has_value all = rw (at_words all) at had
