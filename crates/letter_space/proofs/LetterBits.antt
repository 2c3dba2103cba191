-- Which bits a letter has: those of its valuation, and the bit of each pick.
use Rattle.std.proofs.Common.{
  ◌≡◌,
  ◌∙◌,
  ℕ,
  zero,
  suc,
  ◌+◌,
  ◌<◌,
  ◌≤◌,
  ◌^◌,
  ◌==◌,
  Bool,
  true,
  false,
  cond,
  ◌||◌,
  max,
  List,
  [],
  ◌∷◌,
  length,
  Option,
  Some,
  None,
  option_map,
  option_and_then,
  slice_get,
  inl,
  inr,
  refl,
  sym,
  ap,
  arith,
}
use Rattle.std.specs.List.{position}
use Rattle.std.specs.Option.{option_map_or}
use Rattle.std.specs.Int.{bit_at}
use Rattle.std.proofs.lemmas.Bool.{and_parts, eqb-true, eq-eqb, false_from_ne_true}
use Rattle.std.proofs.lemmas.Bool.Decides.{eqb_tells}
use Rattle.std.proofs.lemmas.Nat.Bits.{bit_at_or, bit_at-pow_same, bit_at-pow_other, bit_at_above, bit_at-lt}
use Rattle.std.proofs.lemmas.Nat.{or_lt}
use Rattle.std.proofs.Math.Bool.{or-false}
use Rattle.std.proofs.Math.Pow.{pow-lt}
use Rattle.base_library.proofs.Finds.{find_none_at}
use Rattle.tsl_terms.specs.TermTree.{TermTree}
use Rattle.tsl_terms.specs.FormulaTree.{Atom, test, update}
use Rattle.tsl_terms.specs.SameTree.{same_tree, same_probe_tree}
use Rattle.tsl_terms.proofs.SameLemmas.{same_tree_is}
use Rattle.ltl_formula.specs.Cubes.{has_bit}
use Rattle.letter_space.specs.SpaceTree.{ControlledTree, SpaceTree, choice_count, bits_follow, IsSpace}
use Rattle.base_library.specs.Once.{StandOnce}
use Rattle.letter_space.specs.Bits.{bit_of_probe, bit_of_choice, controlled_with, bit_of_atom}
use Rattle.letter_space.specs.Letters.{
  valuation_count,
  ArePicks,
  with_bit,
  with_picks,
  letter_of,
  term_taken,
  atom_holds_of,
}
use Rattle.letter_space.proofs.Places.{position_tells, place_within}

-- a bit more
pub has_bit_more : (b letter n : ℕ) → has_bit b (with_bit letter n) ≡ (has_bit b letter || (b == n))
has_bit_more b letter n = elim (eqb_tells b n) [
  | inl same ↦
      ap (λ m. m == 1) (bit_at_or letter (2 ^ n) b
      ∙ ap (λ m. max (bit_at letter b) m) (ap (λ k. bit_at (2 ^ n) k) same.1 ∙ bit_at-pow_same n))
      ∙ set (bit_at letter b) (bit_at-lt letter b) ∙ ap (λ here. has_bit b letter || here) (sym same.0)
  | inr other ↦
      ap (λ m. m == 1) (bit_at_or letter (2 ^ n) b ∙ ap (λ m. max (bit_at letter b) m) (bit_at-pow_other n b other.1))
      ∙ kept (bit_at letter b) (bit_at-lt letter b) ∙ ap (λ here. has_bit b letter || here) (sym other.0)
]
  where
    set : (m : ℕ) → m < 2 → (max m 1 == 1) ≡ ((m == 1) || true)
    set zero below = refl
    set (suc zero) below = refl
    set (suc (suc m)) below = absurd (omega arith)

    kept : (m : ℕ) → m < 2 → (max m 0 == 1) ≡ ((m == 1) || false)
    kept zero below = refl
    kept (suc zero) below = refl
    kept (suc (suc m)) below = absurd (omega arith)

-- picks set no bit below their first one
pub bit_below_picks : (first : ℕ) (cs : List ControlledTree) (picks : List ℕ) (letter b : ℕ) → bits_follow first cs ≡ true → b < first →
    has_bit b (with_picks letter cs picks) ≡ has_bit b letter
bit_below_picks first [] picks letter b follow below = refl
bit_below_picks first (c ∷ cs) [] letter b follow below = refl
bit_below_picks first (c ∷ cs) (pick ∷ picks) letter b follow below =
    let parts = and_parts (c.first == first) (bits_follow (first + length c.choices) cs) follow in
    bit_below_picks (first + length c.choices) cs picks (with_bit letter (c.first + pick)) b parts.1 (omega arith)
    ∙ has_bit_more b letter (c.first + pick)
    ∙ elim (eqb_tells b (c.first + pick)) [
      | inl same ↦ absurd (omega (arith, same.1, below, eqb-true c.first first parts.0))
      | inr other ↦ ap (λ here. has_bit b letter || here) other.0 ∙ or-false (has_bit b letter)
    ]

-- the first place of a tree is the place of a pick where the picked tree is that one
pub place_is_pick : {X : Type 0} (same : X → X → Bool) → ((a b : X) → same a b ≡ true → a ≡ b) → (xs : List X) → StandOnce xs →
    (t : X) (pick : ℕ) →
    option_map_or (λ place. place == pick) (position (λ u. same u t) xs) false ≡ option_map_or (λ u. same u t) (slice_get xs pick) false
place_is_pick same is xs once t pick = elim (position_tells (λ u. same u t) xs) [
  | inl found ↦ here found.0 found.1 found.2 found.3 found.4
  | inr none ↦
      ap (λ o. option_map_or (λ place. place == pick) o false) none.0
      ∙ never (slice_get xs pick) (λ u at. find_none_at (λ v. same v t) xs pick u none.1 at)
]
  where
    never : (o : Option _) → ((u : _) → o ≡ Some u → same u t ≡ false) → false ≡ option_map_or (λ u. same u t) o false
    never None fails = refl
    never (Some u) fails = sym (fails u refl)

    here : (place : ℕ) (x : _) → position (λ u. same u t) xs ≡ Some place → slice_get xs place ≡ Some x → same x t ≡ true →
        option_map_or (λ p. p == pick) (position (λ u. same u t) xs) false ≡ option_map_or (λ u. same u t) (slice_get xs pick) false
    here place x at stands passes =
        ap (λ o. option_map_or (λ p. p == pick) o false) at
        ∙ elim (eqb_tells place pick) [
          | inl equal ↦
              equal.0
              ∙ sym passes ∙ ap (λ o. option_map_or (λ u. same u t) o false) (sym stands ∙ ap (slice_get xs) equal.1)
          | inr other ↦
              other.0
              ∙ never (slice_get xs pick) (λ u there. false_from_ne_true _ (λ equal.
              other.1 (once place pick u (stands ∙ ap Some (is x t passes ∙ sym (is u t equal))) there)))
        ]

-- the bit of an update is set where its signal takes its term
pub update_is_read : (first : ℕ) (cs : List ControlledTree) (picks : List ℕ) (letter s : ℕ) (t : TermTree) →
    bits_follow first cs ≡ true → ArePicks cs picks →
    ((i : ℕ) (c : ControlledTree) → slice_get cs i ≡ Some c → StandOnce c.choices) →
    ((b : ℕ) → first ≤ b → has_bit b letter ≡ false) →
    option_map_or (λ b. has_bit b (with_picks letter cs picks)) (option_and_then (λ c. bit_of_choice c t) (controlled_with cs s)) false
    ≡ option_map_or (λ taken. same_tree taken t) (term_taken cs picks s) false
update_is_read first [] [] letter s t follow are once clear = refl
update_is_read first [] (pick ∷ picks) letter s t follow are once clear = absurd are
update_is_read first (c ∷ cs) [] letter s t follow are once clear = absurd are
update_is_read first (c ∷ cs) (pick ∷ picks) letter s t follow are once clear =
    by (c.signal == s)
    (update_is_read (first + length c.choices) cs picks (with_bit letter (c.first + pick)) s t parts.1 are.1
    (λ i d at. once (suc i) d at) clear_more)
  where
    parts : (c.first ≡ first) × (bits_follow (first + length c.choices) cs ≡ true)
    parts =
        let both = and_parts (c.first == first) (bits_follow (first + length c.choices) cs) follow in
        (eqb-true c.first first both.0, both.1)

    clear_more : (b : ℕ) → first + length c.choices ≤ b → has_bit b (with_bit letter (c.first + pick)) ≡ false
    clear_more b above =
        has_bit_more b letter (c.first + pick)
        ∙ elim (eqb_tells b (c.first + pick)) [
          | inl same ↦ absurd (omega (arith, same.1, above, parts.0, are.0))
          | inr other ↦ (λ k. clear b (omega (arith, above)) k || other.0 k)
        ]

    in_front : (place : ℕ) → place < length c.choices →
        has_bit (c.first + place) (with_picks (with_bit letter (c.first + pick)) cs picks) ≡ (place == pick)
    in_front place within =
        bit_below_picks (first + length c.choices) cs picks (with_bit letter (c.first + pick)) (c.first + place) parts.1
        (omega (arith, within, parts.0))
        ∙ has_bit_more (c.first + place) letter (c.first + pick)
        ∙ ap (λ b. b || ((c.first + place) == (c.first + pick))) (clear (c.first + place) (omega (arith, parts.0)))
        ∙ shifted
      where
        shifted : ((c.first + place) == (c.first + pick)) ≡ (place == pick)
        shifted = elim (eqb_tells place pick) [
          | inl same ↦ eq-eqb (c.first + place) (c.first + pick) (ap (λ n. c.first + n) same.1) ∙ sym same.0
          | inr other ↦
              elim (eqb_tells (c.first + place) (c.first + pick)) [
                | inl same ↦ absurd (other.1 (omega (arith, same.1)))
                | inr differ ↦ differ.0 ∙ sym other.0
              ]
        ]

    chosen : (o : Option ℕ) → ((place : ℕ) → o ≡ Some place → place < length c.choices) →
        option_map_or (λ b. has_bit b (with_picks (with_bit letter (c.first + pick)) cs picks)) (option_map (λ k. c.first + k) o) false
        ≡ option_map_or (λ place. place == pick) o false
    chosen None within = refl
    chosen (Some place) within = in_front place (within place refl)

    by : (here : Bool) →
        option_map_or (λ b. has_bit b (with_picks (with_bit letter (c.first + pick)) cs picks))
        (option_and_then (λ d. bit_of_choice d t) (controlled_with cs s)) false
        ≡ option_map_or (λ taken. same_tree taken t) (term_taken cs picks s) false →
        option_map_or (λ b. has_bit b (with_picks (with_bit letter (c.first + pick)) cs picks))
        (option_and_then (λ d. bit_of_choice d t) (cond here (Some c) (controlled_with cs s))) false
        ≡ option_map_or (λ taken. same_tree taken t) (cond here (slice_get c.choices pick) (term_taken cs picks s)) false
    by false rest = rest
    by true rest =
        chosen (position (λ u. same_tree u t) c.choices) (place_within (λ u. same_tree u t) c.choices)
        ∙ place_is_pick same_tree same_tree_is c.choices (once zero c refl) t pick

-- a letter has the bit of an atom where the atom holds
module _ (space : SpaceTree) (is_space : IsSpace space) (valuation : ℕ) (below : valuation < valuation_count space)
    (picks : List ℕ) (are : ArePicks space.controlled picks) where
  test_is_read : (place : Option ℕ) → ((b : ℕ) → place ≡ Some b → b < length space.predicates) →
      option_map_or (λ b. has_bit b (letter_of space valuation picks)) place false ≡ option_map_or (λ b. has_bit b valuation) place false
  test_is_read None within = refl
  test_is_read (Some b) within =
      bit_below_picks (length space.predicates) space.controlled picks valuation b is_space.in_order (within b refl)

  pub atom_is_read : (a : Atom) →
      option_map_or (λ b. has_bit b (letter_of space valuation picks)) (bit_of_atom space a) false ≡ atom_holds_of space valuation picks a
  atom_is_read (test p) = test_is_read (bit_of_probe space p) (place_within (λ q. same_probe_tree q p) space.predicates)
  atom_is_read (update s t) =
      update_is_read (length space.predicates) space.controlled picks valuation s t is_space.in_order are is_space.choices_once
      (λ b above. ap (λ m. m == 1) (bit_at_above valuation (length space.predicates) b below above))

  pub bit_is_read : (a : Atom) (b : ℕ) → bit_of_atom space a ≡ Some b →
      has_bit b (letter_of space valuation picks) ≡ atom_holds_of space valuation picks a
  bit_is_read a b is =
      ap (λ o. option_map_or (λ n. has_bit n (letter_of space valuation picks)) o false) (sym is) ∙ atom_is_read a

-- letters are words of 64 bits
picks_within : (first : ℕ) (cs : List ControlledTree) (picks : List ℕ) (letter : ℕ) → bits_follow first cs ≡ true → ArePicks cs picks →
    first + choice_count cs ≤ 64 → letter < 2 ^ 64 → with_picks letter cs picks < 2 ^ 64
picks_within first [] picks letter follow are few below = below
picks_within first (c ∷ cs) [] letter follow are few below = below
picks_within first (c ∷ cs) (pick ∷ picks) letter follow are few below =
    let both = and_parts (c.first == first) (bits_follow (first + length c.choices) cs) follow in
    let within : c.first + pick < 64 = omega (arith, eqb-true c.first first both.0, are.0, few) in
    picks_within (first + length c.choices) cs picks (with_bit letter (c.first + pick)) both.1 are.1 (omega (arith, few))
    (or_lt 64 letter (2 ^ (c.first + pick)) below (pow-lt within))

pub letter_is_word : (space : SpaceTree) → IsSpace space → (valuation : ℕ) → valuation < valuation_count space →
    (picks : List ℕ) → ArePicks space.controlled picks → letter_of space valuation picks < 2 ^ 64
letter_is_word space is_space valuation below picks are =
    picks_within (length space.predicates) space.controlled picks valuation is_space.in_order are is_space.few_bits
    (omega (arith, below, pow-lt small))
  where
    small : length space.predicates < 64
    small = omega (arith, is_space.few_predicates)
