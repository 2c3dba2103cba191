-- The vectors of a space have numbers of 64 bits.
use Rattle.std.proofs.Common.{◌≡◌, ◌∙◌, ℕ, zero, suc, ◌*◌, ◌^◌, ◌<◌, ◌≤◌, true, List, [], ◌∷◌, length, map, sym, ap, arith}
use Rattle.std.specs.List.{list_all}
use Rattle.std.proofs.Math.Nat.{pow-suc, mul-one}
use Rattle.std.proofs.Math.Pow.{pow_mono}
use Rattle.std.proofs.lemmas.List.{drop_all}
use Rattle.std.proofs.lemmas.Nat.{mul-le, pow-add}
use Rattle.letter_space.specs.declared.limits.TheConstants.{MOST_BITS}
use Rattle.letter_space.specs.declared.controlled.Controlled.{Controlled}
use Rattle.letter_space.specs.SpaceTree.{ControlledTree, choice_count, has_choice}
use Rattle.letter_space.specs.ControlledView.{controlled_tree}
use Rattle.letter_space.specs.Vectors.{vector_count}
use Rattle.letter_space.proofs.Bounds.{vectors_left, some_vector_left}

-- twice a number is at most its power of two
twice_at_most : (n : ℕ) → n * 2 ≤ 2 ^ n
twice_at_most zero = omega arith
twice_at_most (suc zero) = omega arith
twice_at_most (suc (suc n)) = let before = twice_at_most (suc n) in let next = pow-suc 2 (suc n) in omega (arith, before, next)

pub at_most_power : (cs : List ControlledTree) → vector_count cs ≤ 2 ^ choice_count cs
at_most_power [] = omega arith
at_most_power (c ∷ cs) =
    let twice = twice_at_most (length c.choices) in
    let product = mul-le (length c.choices) (vector_count cs) (2 ^ length c.choices) (2 ^ choice_count cs)
    (omega (arith, twice)) (at_most_power cs) in
    omega (arith, product, pow-add 2 (length c.choices) (choice_count cs))

pub few_vectors : (cs : List ControlledTree) → choice_count cs ≤ MOST_BITS → vector_count cs < 2 ^ 64
few_vectors [] few = omega arith
few_vectors (c ∷ cs) few =
    let twice = twice_at_most (length c.choices) in
    let product = mul-le (length c.choices * 2) (vector_count cs) (2 ^ length c.choices) (2 ^ choice_count cs) twice (at_most_power cs) in
    let power = pow_mono {i = choice_count (c ∷ cs)} {j = 64} few in
    let doubled : length c.choices * 2 * vector_count cs ≡ vector_count (c ∷ cs) * 2 = grind arith in
    omega (arith, product, pow-add 2 (length c.choices) (choice_count cs), power, doubled)

module _ (xs : List Controlled) where
  -- a count that is a factor of the whole fits
  pub count_fits : (i count : ℕ) → choice_count (map controlled_tree xs) ≤ MOST_BITS →
      list_all has_choice (map controlled_tree xs) ≡ true → count * vectors_left xs i ≡ vectors_left xs 0 → count < 2 ^ 64
  count_fits i count few chosen whole =
      let factor : count * 1 ≤ count * vectors_left xs i = mul-le count 1 count (vectors_left xs i) (omega arith)
      (some_vector_left xs i chosen) in
      omega (arith, factor, few_vectors (map controlled_tree xs) few, whole)

  pub counted_whole : (i count : ℕ) → length xs ≤ i → count * vectors_left xs i ≡ vectors_left xs 0 → count ≡ vectors_left xs 0
  counted_whole i count past whole =
      let none : vectors_left xs i ≡ 1 = ap (λ ys. vector_count (map controlled_tree ys)) (drop_all i xs past) in
      sym (mul-one count) ∙ (ap (λ n. count * n) (sym none) ∙ whole)
