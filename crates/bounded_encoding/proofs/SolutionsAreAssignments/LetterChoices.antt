-- The bits of a letter: those of its valuation, then one bit for each choice of each signal, and none behind.
use Rattle.std.proofs.Common.{◌≡◌, ◌∙◌, ℕ, zero, suc, ◌+◌, ◌-◌, ◌%◌, ◌^◌, ◌<◌, ◌≤◌, ◌==◌, ◌||◌, inl, inr, true, false, List, [], ◌∷◌}
use Rattle.std.proofs.Common.{length, map}
use Rattle.std.proofs.Common.{Some, slice_get, refl, sym, ap, subst, arith}
use Rattle.std.specs.List.{list_all}
use Rattle.std.proofs.Math.Nat.{mod-lt}
use Rattle.std.proofs.Math.Pow.{pow-lt, pow_mono}
use Rattle.std.proofs.lemmas.Nat.{or_lt, pow_pos}
use Rattle.std.proofs.lemmas.Nat.Bits.{bit_at_above, same_from_bits}
use Rattle.std.proofs.lemmas.Bool.{and_parts, eqb-true, eq-eqb, cases_lt, ltb-true}
use Rattle.std.proofs.lemmas.Bool.Decides.{eqb_tells}
use Rattle.std.proofs.lemmas.Option.{none-some, same_Some}
use Rattle.ltl_formula.specs.Cubes.{has_bit}
use Rattle.letter_space.specs.SpaceTree.{ControlledTree, SpaceTree, choice_count, bit_count, bits_follow, has_choice, IsSpace}
use Rattle.letter_space.specs.Letters.{valuation_count, ArePicks, with_bit, with_picks, letter_of}
use Rattle.letter_space.proofs.LetterBits.{has_bit_more, bit_below_picks}
use Rattle.bounded_encoding.proofs.SolutionsAreAssignments.CubeBits.{same_bits, low_bit}

-- ---- signals and their places

-- the choices of a signal stand between the first and the last one
pub signal_within : (first : ℕ) (cs : List ControlledTree) → bits_follow first cs ≡ true → (i : ℕ) (c : ControlledTree) →
    slice_get cs i ≡ Some c → (first ≤ c.first) × (c.first + length c.choices ≤ first + choice_count cs)
signal_within first [] follow i c at = absurd (none-some c at)
signal_within first (d ∷ cs) follow zero c at =
    let parts = and_parts (d.first == first) (bits_follow (first + length d.choices) cs) follow in
    let here = eqb-true d.first first parts.0 in
    subst (λ (e : ControlledTree). (first ≤ e.first) × (e.first + length e.choices ≤ first + (length d.choices + choice_count cs)))
    (same_Some d c at) (omega arith, omega arith)
signal_within first (d ∷ cs) follow (suc i) c at =
    let parts = and_parts (d.first == first) (bits_follow (first + length d.choices) cs) follow in
    let rest = signal_within (first + length d.choices) cs parts.1 i c at in
    (omega (arith, rest.0), omega (arith, rest.1))

-- each bit is that of a choice of some signal
pub signal_of_bit : (first : ℕ) (cs : List ControlledTree) → bits_follow first cs ≡ true → (b : ℕ) → first ≤ b →
    b < first + choice_count cs →
    (i : ℕ) × (c : ControlledTree) × (slice_get cs i ≡ Some c) × (place : ℕ) × (place < length c.choices) × (b ≡ c.first + place)
signal_of_bit first [] follow b from below = absurd (omega arith)
signal_of_bit first (c ∷ cs) follow b from below =
    let parts = and_parts (c.first == first) (bits_follow (first + length c.choices) cs) follow in
    let here = eqb-true c.first first parts.0 in
    elim (cases_lt b (first + length c.choices)) [
      | inl within ↦ (0, c, refl, b - first, omega arith, omega arith)
      | inr later ↦ (let r = signal_of_bit (first + length c.choices) cs parts.1 b later (omega arith) in
          (suc r.0, r.1, r.2, r.3, r.4, r.5))
    ]

-- the pick of a signal
pub pick_at : (cs : List ControlledTree) (picks : List ℕ) → ArePicks cs picks → (i : ℕ) (c : ControlledTree) → slice_get cs i ≡ Some c →
    (pick : ℕ) × (slice_get picks i ≡ Some pick) × (pick < length c.choices)
pick_at [] picks are i c at = absurd (none-some c at)
pick_at (d ∷ cs) [] are i c at = absurd are
pick_at (d ∷ cs) (pick ∷ picks) are zero c at =
    (pick, refl, subst (λ (e : ControlledTree). pick < length e.choices) (same_Some d c at) are.0)
pick_at (d ∷ cs) (pick ∷ picks) are (suc i) c at = pick_at cs picks are.1 i c at

-- picks that are made signal by signal
pub are_picks : (f : ControlledTree → ℕ) → ((c : ControlledTree) → 1 ≤ length c.choices → f c < length c.choices) →
    (cs : List ControlledTree) → list_all has_choice cs ≡ true → ArePicks cs (map f cs)
are_picks f within [] some = tt
are_picks f within (c ∷ cs) some =
    let parts = and_parts (has_choice c) (list_all has_choice cs) some in
    (within c (ltb-true 0 (length c.choices) parts.0), are_picks f within cs parts.1)

-- ---- picks and bits

-- a bit of a choice is set where that choice is picked
pub choice_bit : (first : ℕ) (cs : List ControlledTree) (picks : List ℕ) (letter : ℕ) → bits_follow first cs ≡ true → ArePicks cs picks →
    ((b : ℕ) → first ≤ b → has_bit b letter ≡ false) → (i : ℕ) (c : ControlledTree) (pick : ℕ) → slice_get cs i ≡ Some c →
    slice_get picks i ≡ Some pick → (place : ℕ) → place < length c.choices →
    has_bit (c.first + place) (with_picks letter cs picks) ≡ (place == pick)
choice_bit first [] picks letter follow are clear i c pick at picked place within = absurd (none-some c at)
choice_bit first (d ∷ cs) [] letter follow are clear i c pick at picked place within = absurd are
choice_bit first (d ∷ cs) (chosen ∷ picks) letter follow are clear i c pick at picked place within =
    by i at picked (λ j more follows_more clear_behind later taken.
    choice_bit (first + length d.choices) cs picks (with_bit letter (d.first + chosen)) follows_more more clear_behind j c pick later taken
    place within)
  where
    parts : (d.first ≡ first) × (bits_follow (first + length d.choices) cs ≡ true)
    parts =
        let both = and_parts (d.first == first) (bits_follow (first + length d.choices) cs) follow in
        (eqb-true d.first first both.0, both.1)

    clear_more : (b : ℕ) → first + length d.choices ≤ b → has_bit b (with_bit letter (d.first + chosen)) ≡ false
    clear_more b above =
        has_bit_more b letter (d.first + chosen)
        ∙ elim (eqb_tells b (d.first + chosen)) [
          | inl same ↦ absurd (omega (arith, same.1, above, parts.0, are.0))
          | inr other ↦ (λ k. clear b (omega (arith, above)) k || other.0 k)
        ]

    shifted : (m : ℕ) → ((d.first + m) == (d.first + chosen)) ≡ (m == chosen)
    shifted m = elim (eqb_tells m chosen) [
      | inl same ↦ eq-eqb (d.first + m) (d.first + chosen) (ap (λ n. d.first + n) same.1) ∙ sym same.0
      | inr other ↦
          elim (eqb_tells (d.first + m) (d.first + chosen)) [
            | inl same ↦ absurd (other.1 (omega (arith, same.1)))
            | inr differ ↦ differ.0 ∙ sym other.0
          ]
    ]

    in_front : (m : ℕ) → m < length d.choices →
        has_bit (d.first + m) (with_picks (with_bit letter (d.first + chosen)) cs picks) ≡ (m == chosen)
    in_front m inside =
        bit_below_picks (first + length d.choices) cs picks (with_bit letter (d.first + chosen)) (d.first + m) parts.1
        (omega (arith, inside, parts.0))
        ∙ has_bit_more (d.first + m) letter (d.first + chosen)
        ∙ ap (λ b. b || ((d.first + m) == (d.first + chosen))) (clear (d.first + m) (omega (arith, parts.0)))
        ∙ shifted m

    by : (j : ℕ) → slice_get (d ∷ cs) j ≡ Some c → slice_get (chosen ∷ picks) j ≡ Some pick →
        ((k : ℕ) → ArePicks cs picks → bits_follow (first + length d.choices) cs ≡ true →
        ((b : ℕ) → first + length d.choices ≤ b → has_bit b (with_bit letter (d.first + chosen)) ≡ false) → slice_get cs k ≡ Some c →
        slice_get picks k ≡ Some pick →
        has_bit (c.first + place) (with_picks (with_bit letter (d.first + chosen)) cs picks) ≡ (place == pick)) →
        has_bit (c.first + place) (with_picks (with_bit letter (d.first + chosen)) cs picks) ≡ (place == pick)
    by zero here taken rest =
        subst (λ (e : ControlledTree). place < length e.choices →
        has_bit (e.first + place) (with_picks (with_bit letter (d.first + chosen)) cs picks) ≡ (place == chosen))
        (same_Some d c here) (in_front place) within
        ∙ ap (λ n. place == n) (same_Some chosen pick taken)
    by (suc j) later taken rest = rest j are.1 parts.1 clear_more later taken

-- no bit is set behind the choices
picks_below : (bits first : ℕ) (cs : List ControlledTree) (picks : List ℕ) (letter : ℕ) → bits_follow first cs ≡ true → ArePicks cs picks →
    first + choice_count cs ≤ bits → letter < 2 ^ bits → with_picks letter cs picks < 2 ^ bits
picks_below bits first [] picks letter follow are few below = below
picks_below bits first (c ∷ cs) [] letter follow are few below = below
picks_below bits first (c ∷ cs) (pick ∷ picks) letter follow are few below =
    let both = and_parts (c.first == first) (bits_follow (first + length c.choices) cs) follow in
    let within : c.first + pick < bits = omega (arith, eqb-true c.first first both.0, are.0, few) in
    picks_below bits (first + length c.choices) cs picks (with_bit letter (c.first + pick)) both.1 are.1 (omega (arith, few))
    (or_lt bits letter (2 ^ (c.first + pick)) below (pow-lt within))

module _ (space : SpaceTree) (is_space : IsSpace space) (v : ℕ) (below : v < valuation_count space) (picks : List ℕ)
    (are : ArePicks space.controlled picks) where
  pub valuation_bits : (b : ℕ) → b < length space.predicates → has_bit b (letter_of space v picks) ≡ has_bit b v
  valuation_bits b within = bit_below_picks (length space.predicates) space.controlled picks v b is_space.in_order within

  pub choice_bits : (i : ℕ) (c : ControlledTree) (pick : ℕ) → slice_get space.controlled i ≡ Some c → slice_get picks i ≡ Some pick →
      (place : ℕ) → place < length c.choices → has_bit (c.first + place) (letter_of space v picks) ≡ (place == pick)
  choice_bits = choice_bit (length space.predicates) space.controlled picks v is_space.in_order are
      (λ b above. ap (λ m. m == 1) (bit_at_above v (length space.predicates) b below above))

  pub letter_below : letter_of space v picks < 2 ^ bit_count space
  letter_below =
      let more : 2 ^ length space.predicates ≤ 2 ^ bit_count space = pow_mono (omega arith) in
      picks_below (bit_count space) (length space.predicates) space.controlled picks v is_space.in_order are (omega arith) (omega arith)

  pub letter_low : letter_of space v picks % 2 ^ length space.predicates ≡ v
  letter_low = same_from_bits (letter_of space v picks % 2 ^ length space.predicates) v (λ i. elim (cases_lt i (length space.predicates)) [
    | inl within ↦ low_bit (letter_of space v picks) (length space.predicates) i within
        ∙ same_bits i (letter_of space v picks) v (valuation_bits i within)
    | inr past ↦ bit_at_above (letter_of space v picks % 2 ^ length space.predicates) (length space.predicates) i
        (mod-lt (letter_of space v picks) (pow_pos (length space.predicates))) past
        ∙ sym (bit_at_above v (length space.predicates) i below past)
  ])
