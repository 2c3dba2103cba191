-- One bit as a print, and masks and prints that are made bit by bit and state by state.
use Rattle.std.proofs.Common.{◌≡◌, ◌∙◌, ℕ, ◌+◌, ◌*◌, ◌%◌, ◌^◌, ◌<◌, ◌≤◌, ◌==◌, Bool, true, false, ◌&&◌, ◌||◌, List, [], ◌∷◌, ◌++◌, length}
use Rattle.std.proofs.Common.{min, bit_and, bit_or, cond, Option, Some, slice_get, inl, inr, refl, sym, ap, subst, arith, eq-eqb}
use Rattle.std.specs.Prelude.{◌↔◌}
use Rattle.std.specs.Int.{bit_at}
use Rattle.std.proofs.Math.Nat.{mod-eq_of_lt, one-mul}
use Rattle.std.proofs.Math.Pow.{pow-lt}
use Rattle.std.proofs.lemmas.Bool.{and_from, and_parts, cases_eq, eqb-true, ne_eqb, false≢true, false_from_ne_true}
use Rattle.std.proofs.lemmas.Nat.Bits.{bit_at_and, bit_at-lt, bit_at-zero, bit_at-pow_same, bit_at-pow_other, same_from_bits}
use Rattle.std.proofs.lemmas.Option.{slice_get_within}
use Rattle.lane_planes.proofs.BitLemmas.{and_word, or_word}
use Rattle.ltl_formula.specs.Cubes.{has_bit}
use Rattle.base_library.specs.Numbers.{is_among}
use Rattle.base_library.proofs.Numbers.{among_place}
use Rattle.base_library.proofs.Each.{each_joined}
use Rattle.base_library.proofs.Places.{slice_get_one, slice_get_grown, slice_get-behind}
use Rattle.tsl_terms.specs.TermTree.{ProbeTree}
use Rattle.tsl_terms.specs.Congruence.{IsEquality}
use Rattle.letter_space.specs.SpaceTree.{SpaceTree}
use Rattle.machines.specs.MachineTree.{EnvironmentTree}
use Rattle.branch_finder.specs.internal.Prints.{AreEqualityBits, ArePrintsWithin, ArePrints}
use Rattle.branch_finder.proofs.LoopFacts.{before_or_here}
use Rattle.branch_finder.proofs.PlaneLemmas.{or_cases, or_from_left, or_from_right}
use Rattle.branch_finder.proofs.SetLemmas.{match_tells}

-- ---- one bit

pub half_bit : (bit : ℕ) → bit < 32 → 1 * 2 ^ bit % 4294967296 ≡ 2 ^ bit
half_bit bit below = ap (λ n. n % 4294967296) (one-mul (2 ^ bit)) ∙ mod-eq_of_lt (pow-lt below)

-- which bits a power of two has
pub power_has : (bit b : ℕ) → has_bit b (2 ^ bit) ≡ (b == bit)
power_has bit b = elim (cases_eq b bit) [
  | inl same ↦ ap (λ n. bit_at (2 ^ bit) n == 1) same ∙ ap (λ n. n == 1) (bit_at-pow_same bit) ∙ sym (eq-eqb b bit same)
  | inr other ↦ ap (λ n. n == 1) (bit_at-pow_other bit b other) ∙ sym (ne_eqb b bit other)
]

pub bit_is_set : (bit truths : ℕ) → (bit_and truths (2 ^ bit) ≡ 2 ^ bit) ↔ (has_bit bit truths ≡ true)
bit_is_set bit truths = (
  λ same.
      (and_parts (has_bit bit truths) (has_bit bit (2 ^ bit))
      (sym (and_word truths (2 ^ bit) bit) ∙ ap (has_bit bit) same ∙ power_has bit bit ∙ eq-eqb bit bit refl)).0,
  λ has.
      eqb-true (bit_and truths (2 ^ bit)) (2 ^ bit) ((match_tells (2 ^ bit) truths).1
      (λ b there. ap (λ n. has_bit n truths) (eqb-true b bit (sym (power_has bit b) ∙ there)) ∙ has)),
)

pub bit_is_clear : (bit truths : ℕ) → (bit_and truths (2 ^ bit) ≡ 0) ↔ (has_bit bit truths ≡ false)
bit_is_clear bit truths = (
  λ none. false_from_ne_true (has_bit bit truths) (λ has.
      let set = and_from (has_bit bit truths) (has_bit bit (2 ^ bit)) has (power_has bit bit ∙ eq-eqb bit bit refl) in
      false≢true (sym (ap (λ n. n == 1) (bit_at-zero bit)) ∙ sym (ap (has_bit bit) none) ∙ and_word truths (2 ^ bit) bit ∙ set)),
  λ clear. same_from_bits (bit_and truths (2 ^ bit)) 0 (λ i. bit_at_and truths (2 ^ bit) i ∙ none clear i ∙ sym (bit_at-zero i)),
)
  where
    none : has_bit bit truths ≡ false → (i : ℕ) → min (bit_at truths i) (bit_at (2 ^ bit) i) ≡ 0
    none clear i = elim (cases_eq i bit) [
      | inr other ↦ let zero_there = bit_at-pow_other bit i other in omega (arith, zero_there)
      | inl same ↦
          let zero_here : bit_at truths i ≡ 0 = elim (cases_eq (bit_at truths i) 1) [
            | inl one ↦
                absurd (false≢true (sym clear ∙ ap (λ n. bit_at truths n == 1) (sym same) ∙ eq-eqb (bit_at truths i) 1 one))
            | inr other ↦ let below = bit_at-lt truths i in omega (arith, below, other)
          ] in
          omega (arith, zero_here)
    ]

pub with_bit_has : (bits bit b : ℕ) → has_bit b (bit_or bits (2 ^ bit)) ≡ (has_bit b bits || (b == bit))
with_bit_has bits bit b = or_word bits (2 ^ bit) b ∙ ap (λ c. has_bit b bits || c) (power_has bit b)

-- ---- the bits of equalities, probe by probe

-- the bits of those of the first so many predicate terms that are equalities
pub record AreBitsUpTo (probes : List ProbeTree) (equality : Option ℕ) (count bits : ℕ) : Type 0 where
  pub each : (bit : ℕ) → has_bit bit bits ≡ true → (p : ProbeTree) × (slice_get probes bit ≡ Some p) × IsEquality equality p
  pub all : (bit : ℕ) (p : ProbeTree) → bit < count → slice_get probes bit ≡ Some p → IsEquality equality p → has_bit bit bits ≡ true

module _ (probes : List ProbeTree) (equality : Option ℕ) where
  pub no_bits_yet : AreBitsUpTo probes equality 0 0
  no_bits_yet = record {
    each = λ bit has. absurd (false≢true (sym (ap (λ n. n == 1) (bit_at-zero bit)) ∙ has));
    all = λ bit p below at is. absurd (omega (arith, below));
  }

  pub one_bit_more : (count bits more : ℕ) (p : ProbeTree) (is : Bool) → slice_get probes count ≡ Some p →
      (is ≡ true) ↔ IsEquality equality p → ((b : ℕ) → has_bit b more ≡ (has_bit b bits || (is && (b == count)))) →
      AreBitsUpTo probes equality count bits → AreBitsUpTo probes equality (count + 1) more
  one_bit_more count bits more p is at tells has are = record {
    each = λ bit set. elim (or_cases (has_bit bit bits) (is && (bit == count)) (sym (has bit) ∙ set)) [
      | inl before ↦ are.each bit before
      | inr here ↦
          let parts = and_parts is (bit == count) here in
          (p, ap (slice_get probes) (eqb-true bit count parts.1) ∙ at, tells.0 parts.0)
    ];
    all = λ bit q below there one. has bit ∙ elim (before_or_here bit count below) [
      | inl before ↦ or_from_left (has_bit bit bits) (is && (bit == count)) (are.all bit q before there one)
      | inr same ↦
          or_from_right (has_bit bit bits) (is && (bit == count))
          (and_from is (bit == count)
          (tells.1 (subst (IsEquality equality)
          (slice_get_one probes count q p (ap (slice_get probes) (sym same) ∙ there) at) one))
          (eq-eqb bit count same))
    ];
  }

pub all_bits : (space : SpaceTree) (equality : Option ℕ) (count bits : ℕ) → length space.predicates ≤ count →
    AreBitsUpTo space.predicates equality count bits → AreEqualityBits space equality bits
all_bits space equality count bits past are = record {
  each = are.each;
  all = λ bit p at is. are.all bit p (omega (arith, slice_get_within space.predicates bit p at, past)) at is;
}

-- ---- the prints, state by state

-- the prints of the first so many states are there
pub record ArePrintsUpTo (e : EnvironmentTree) (mask count : ℕ) (prints : List ℕ) : Type 0 where
  pub within : ArePrintsWithin mask prints
  pub all : (state truths : ℕ) → state < count → slice_get e.truths state ≡ Some truths →
      (i : ℕ) × (slice_get prints i ≡ Some (bit_and truths mask))

module _ (e : EnvironmentTree) (mask : ℕ) where
  pub no_prints_yet : (prints : List ℕ) → prints ≡ [] → ArePrintsUpTo e mask 0 prints
  no_prints_yet prints empty = record {
    within = subst (ArePrintsWithin mask) (sym empty) tt;
    all = λ state truths below at. absurd (omega (arith, below));
  }

  pub one_print_more : (count truths : ℕ) (old new : List ℕ) → slice_get e.truths count ≡ Some truths →
      new ≡ cond (is_among old (bit_and truths mask)) old (old ++ bit_and truths mask ∷ []) → ArePrintsUpTo e mask count old →
      ArePrintsUpTo e mask (count + 1) new
  one_print_more count truths old new at is are = by (is_among old (bit_and truths mask)) refl is
    where
      own : (b : ℕ) → has_bit b (bit_and truths mask) ≡ true → has_bit b mask ≡ true
      own b has = (and_parts (has_bit b truths) (has_bit b mask) (sym (and_word truths mask b) ∙ has)).1

      last : (state other : ℕ) → state ≡ count → slice_get e.truths state ≡ Some other → bit_and truths mask ≡ bit_and other mask
      last state other same there =
          ap (λ n. bit_and n mask) (slice_get_one e.truths count truths other at (ap (slice_get e.truths) (sym same) ∙ there))

      by : (among : Bool) → is_among old (bit_and truths mask) ≡ among →
          new ≡ cond among old (old ++ bit_and truths mask ∷ []) → ArePrintsUpTo e mask (count + 1) new
      by true there same =
          let place = among_place old (bit_and truths mask) there in
          record {
            within = subst (ArePrintsWithin mask) (sym same) are.within;
            all = λ state other below known. elim (before_or_here state count below) [
              | inl before ↦ subst (λ ns. (i : ℕ) × (slice_get ns i ≡ Some (bit_and other mask))) (sym same)
                  (are.all state other before known)
              | inr here ↦ (place.0, ap (λ ns. slice_get ns place.0) same ∙ place.1 ∙ ap Some (last state other here known))
            ];
          }
      by false absent same = record {
        within = subst (ArePrintsWithin mask) (sym same)
            (each_joined (λ n. (b : ℕ) → has_bit b n ≡ true → has_bit b mask ≡ true) old (bit_and truths mask ∷ []) are.within (own, tt));
        all = λ state other below known. elim (before_or_here state count below) [
          | inl before ↦
              let there = are.all state other before known in (
                there.0,
                ap (λ ns. slice_get ns there.0) same
                    ∙ slice_get_grown old (bit_and truths mask ∷ []) there.0 (bit_and other mask) there.1,
              )
          | inr here ↦ (
            length old,
            ap (λ ns. slice_get ns (length old)) same ∙ slice_get-behind old (bit_and truths mask) []
                ∙ ap Some (last state other here known),
          )
        ];
      }

pub all_prints : (e : EnvironmentTree) (mask count : ℕ) (prints : List ℕ) → length e.truths ≤ count → ArePrintsUpTo e mask count prints →
    ArePrints e mask prints
all_prints e mask count prints past are = record {
  within = are.within;
  all = λ state truths at. are.all state truths (omega (arith, slice_get_within e.truths state truths at, past)) at;
}
