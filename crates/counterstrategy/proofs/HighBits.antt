-- A letter and a cube by the bits of predicate terms and those behind them.
use Rattle.std.proofs.Common.{◌≡◌, ◌∙◌, ℕ, ◌+◌, ◌-◌, ◌/◌, ◌%◌, ◌^◌, ◌<◌, ◌==◌, ◌||◌, inl, inr, true, List, [], ◌∷◌, length, min}
use Rattle.std.proofs.Common.{sym, ap, arith}
use Rattle.std.specs.Int.{bit_at}
use Rattle.std.proofs.lemmas.Nat.{shr-shr, pow_pos}
use Rattle.std.proofs.lemmas.Nat.Bits.{bit_at_and, bit_at-lt}
use Rattle.std.proofs.lemmas.Bool.{cases_lt}
use Rattle.std.proofs.lemmas.Bool.Decides.{eqb_tells}
use Rattle.ltl_formula.specs.Cubes.{has_bit, cube_matches, IsWithin}
use Rattle.letter_space.specs.SpaceTree.{ControlledTree, SpaceTree}
use Rattle.letter_space.specs.Letters.{valuation_count, with_bit, with_picks, letter_of}
use Rattle.letter_space.proofs.LetterBits.{has_bit_more}
use Rattle.bounded_encoding.proofs.SolutionsAreAssignments.CubeBits.{same_bits, bits_from_match, match_from_bits}
use Rattle.counterstrategy.proofs.PassingBits.{no_bit_above}

-- the bits behind the first ones
pub bit_behind : (n k i : ℕ) → bit_at (n / 2 ^ k) i ≡ bit_at n (k + i)
bit_behind n k i = ap (λ m. m % 2) (shr-shr n k i)

-- picks set the same bits whatever was set before
pub same_behind : (cs : List ControlledTree) (picks : List ℕ) (b m n : ℕ) → has_bit b m ≡ has_bit b n →
    has_bit b (with_picks m cs picks) ≡ has_bit b (with_picks n cs picks)
same_behind [] picks b m n same = same
same_behind (c ∷ cs) [] b m n same = same
same_behind (c ∷ cs) (pick ∷ picks) b m n same =
    same_behind cs picks b (with_bit m (c.first + pick)) (with_bit n (c.first + pick))
    (has_bit_more b m (c.first + pick)
    ∙ (ap (λ t. t || (b == (c.first + pick))) same ∙ sym (has_bit_more b n (c.first + pick))))

module _ (space : SpaceTree) (truths : ℕ) (below : truths < valuation_count space) (picks : List ℕ) where
  -- a letter without its truths has the same bits behind those of predicate terms
  choices_same : (i : ℕ) → bit_at (letter_of space truths picks) (length space.predicates + i)
      ≡ bit_at (letter_of space 0 picks) (length space.predicates + i)
  choices_same i =
      same_bits (length space.predicates + i) (letter_of space truths picks) (letter_of space 0 picks)
      (same_behind space.controlled picks (length space.predicates + i) truths 0
      (no_bit_above truths (length space.predicates) (length space.predicates + i) below (omega arith)
      ∙ sym (no_bit_above 0 (length space.predicates) (length space.predicates + i) (pow_pos (length space.predicates)) (omega arith))))

  module _ (care want : ℕ) where
    pub choices_match : cube_matches care want (letter_of space truths picks) ≡ true →
        cube_matches (care / 2 ^ length space.predicates) (want / 2 ^ length space.predicates)
        (letter_of space 0 picks / 2 ^ length space.predicates) ≡ true
    choices_match matches =
        match_from_bits (care / 2 ^ length space.predicates) (want / 2 ^ length space.predicates)
        (letter_of space 0 picks / 2 ^ length space.predicates) (λ i.
        let bits = bits_from_match care want (letter_of space truths picks) matches (length space.predicates + i) in
        omega (
          arith,
          bits,
          choices_same i,
          bit_behind (letter_of space 0 picks) (length space.predicates) i,
          bit_behind care (length space.predicates) i,
          bit_behind want (length space.predicates) i,
        ))

    -- a cube that wants only what it asks for
    pub match_from_halves : IsWithin care want →
        ((b : ℕ) → b < length space.predicates → has_bit b care ≡ true → has_bit b (letter_of space truths picks) ≡ has_bit b want) →
        cube_matches (care / 2 ^ length space.predicates) (want / 2 ^ length space.predicates)
        (letter_of space 0 picks / 2 ^ length space.predicates) ≡ true →
        cube_matches care want (letter_of space truths picks) ≡ true
    match_from_halves itself lows high_matches = match_from_bits care want (letter_of space truths picks) each
      where
        inside : (i : ℕ) → min (bit_at want i) (bit_at care i) ≡ bit_at want i
        inside i = sym (bit_at_and want care i) ∙ ap (λ n. bit_at n i) itself

        low : (i : ℕ) → i < length space.predicates →
            min (bit_at (letter_of space truths picks) i) (bit_at care i) ≡ bit_at want i
        low i within = elim (eqb_tells (bit_at care i) 1) [
          | inl asked ↦
              let same = same_bits i (letter_of space truths picks) want (lows i within asked.0) in
              omega (arith, same, asked.1, bit_at-lt want i)
          | inr free ↦
              let none : bit_at care i ≡ 0 = omega (arith, free.1, bit_at-lt care i) in
              omega (arith, none, inside i)
        ]

        high : (i : ℕ) → min (bit_at (letter_of space truths picks) (length space.predicates + i))
            (bit_at care (length space.predicates + i)) ≡ bit_at want (length space.predicates + i)
        high i =
            let bits = bits_from_match (care / 2 ^ length space.predicates) (want / 2 ^ length space.predicates)
            (letter_of space 0 picks / 2 ^ length space.predicates) high_matches i in
            omega (
              arith,
              bits,
              choices_same i,
              bit_behind (letter_of space 0 picks) (length space.predicates) i,
              bit_behind care (length space.predicates) i,
              bit_behind want (length space.predicates) i,
            )

        each : (i : ℕ) → min (bit_at (letter_of space truths picks) i) (bit_at care i) ≡ bit_at want i
        each i = elim (cases_lt i (length space.predicates)) [
          | inl here ↦ low i here
          | inr behind ↦
              let place : length space.predicates + (i - length space.predicates) ≡ i = omega arith in
              ap (λ k. min (bit_at (letter_of space truths picks) k) (bit_at care k)) (sym place)
              ∙ (high (i - length space.predicates) ∙ ap (bit_at want) place)
        ]
