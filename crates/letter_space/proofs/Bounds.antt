-- What follows from the limits of a space: how many choices one signal has, which bits they have, and how many vectors there are.
use Rattle.std.proofs.Common.{
  ◌≡◌,
  ℕ,
  zero,
  suc,
  ◌+◌,
  ◌*◌,
  ◌^◌,
  ◌%◌,
  bit_or,
  ◌<◌,
  ◌≤◌,
  nat_le,
  true,
  List,
  [],
  ◌∷◌,
  length,
  map,
  drop,
  get_or,
  Some,
  None,
  slice_get,
  cond,
  refl,
  sym,
  ap,
  ◌∙◌,
  arith,
}
use Rattle.std.specs.List.{list_all}
use Rattle.std.proofs.lemmas.List.{drop_more, drop_all, length-map}
use Rattle.std.proofs.lemmas.Nat.{mul-le}
use Rattle.std.proofs.Math.Nat.{mul_assoc, mul-one}
use Rattle.tsl_terms.specs.TermTree.{term_tree}
use Rattle.letter_space.specs.declared.limits.TheConstants.{MOST_VECTORS, MOST_BITS}
use Rattle.std.proofs.lemmas.Bool.{and_parts, eqb-true, ltb-true, le-leb, leb-true, false_from_ne_true}
use Rattle.std.proofs.lemmas.Option.{none-some, same_Some, slice_get_read}
use Rattle.tsl_terms.specs.declared.term.Probe.{Probe}
use Rattle.tsl_terms.specs.TermTree.{probe_tree}
use Rattle.letter_space.specs.declared.controlled.Controlled.{Controlled}
use Rattle.letter_space.specs.SpaceTree.{ControlledTree, choice_count, bits_follow, has_choice, IsSpace}
use Rattle.letter_space.specs.ControlledView.{controlled_tree, space_with}
use Rattle.letter_space.specs.Letters.{ArePicks, with_picks}
use Rattle.letter_space.specs.Vectors.{vector_count}
use Rattle.letter_space.proofs.Places.{slice_get_image}
use Rattle.std.proofs.Math.Nat.{mod-eq_of_lt}
use Rattle.std.proofs.Math.Pow.{pow-lt}

-- the choices of one signal, and their bits, are within those of all
pub choices_within : (cs : List ControlledTree) (i : ℕ) (c : ControlledTree) → slice_get cs i ≡ Some c → length c.choices ≤ choice_count cs
choices_within [] i c at = absurd (none-some c at)
choices_within (d ∷ cs) zero c at = let same : d ≡ c = same_Some d c at in omega (arith, ap (λ e. length e.choices) same)
choices_within (d ∷ cs) (suc i) c at = omega (arith, choices_within cs i c at)

pub bits_within : (first : ℕ) (cs : List ControlledTree) (i : ℕ) (c : ControlledTree) → bits_follow first cs ≡ true →
    slice_get cs i ≡ Some c → c.first + length c.choices ≤ first + choice_count cs
bits_within first [] i c follow at = absurd (none-some c at)
bits_within first (d ∷ cs) zero c follow at =
    let same : d ≡ c = same_Some d c at in
    let here = eqb-true d.first first (and_parts _ _ follow).0 in
    omega (arith, ap (λ e. length e.choices) same, ap (λ e. e.first) same, here)
bits_within first (d ∷ cs) (suc i) c follow at =
    omega (arith, bits_within (first + length d.choices) cs i c (and_parts _ _ follow).1 at)

-- there is a vector
pub some_vector : (cs : List ControlledTree) → list_all has_choice cs ≡ true → 1 ≤ vector_count cs
some_vector [] all = omega arith
some_vector (c ∷ cs) all =
    let parts = and_parts (has_choice c) (list_all has_choice cs) all in
    let here : 0 < length c.choices = ltb-true 0 (length c.choices) parts.0 in
    let rest = some_vector cs parts.1 in
    mul-le 1 1 (length c.choices) (vector_count cs) here rest

pub some_vector_left : (xs : List Controlled) (i : ℕ) → list_all has_choice (map controlled_tree xs) ≡ true →
    1 ≤ vector_count (map controlled_tree (drop i xs))
some_vector_left xs zero all = some_vector (map controlled_tree xs) all
some_vector_left [] (suc i) all = omega arith
some_vector_left (x ∷ xs) (suc i) all = some_vector_left xs i (and_parts _ _ all).1

no_more : {m n : ℕ} → m ≤ n → n < m → ⊥
no_more few past = omega (arith, few, past)

-- a loop that counts vectors: the count so far and what is left make the whole count
module _ (xs : List Controlled) where
  abbrev pub vectors_left : ℕ → ℕ
  vectors_left i = vector_count (map controlled_tree (drop i xs))

  pub counted_next : (i : ℕ) (x : Controlled) (count : ℕ) → i < length xs → x ≡ get_or xs i x →
      (count * length x.choices) * vectors_left (i + 1) ≡ count * vectors_left i
  counted_next i x count within is =
      mul_assoc count (length x.choices) (vectors_left (i + 1))
      ∙ ap (λ n. count * n)
      (ap (λ n. n * vectors_left (i + 1)) (sym (length-map x.choices term_tree))
      ∙ ap (λ ys. vector_count (map controlled_tree ys)) (ap (λ y. y ∷ drop (i + 1) xs) is ∙ sym (drop_more xs i x within)))

  pub counted_all : (i count : ℕ) → length xs ≤ i → count ≤ MOST_VECTORS → count * vectors_left i ≡ vectors_left 0 →
      Some count ≡ cond (nat_le (vectors_left 0) MOST_VECTORS) (Some (vectors_left 0)) None
  counted_all i count past few whole =
      let none : vectors_left i ≡ 1 = ap (λ ys. vector_count (map controlled_tree ys)) (drop_all i xs past) in
      let same : count ≡ vectors_left 0 = sym (mul-one count) ∙ ap (λ n. count * n) (sym none) ∙ whole in
      ap Some same ∙ sym (ap (λ b. cond b (Some (vectors_left 0)) None) (le-leb (vectors_left 0) MOST_VECTORS (omega (arith, few, same))))

  pub too_many : (i count : ℕ) → list_all has_choice (map controlled_tree xs) ≡ true → MOST_VECTORS < count →
      count * vectors_left i ≡ vectors_left 0 →
      None ≡ cond (nat_le (vectors_left 0) MOST_VECTORS) (Some (vectors_left 0)) None
  too_many i count all many whole =
      let more : count * 1 ≤ count * vectors_left i = mul-le count 1 count (vectors_left i) (omega arith) (some_vector_left xs i all) in
      let past : MOST_VECTORS < vectors_left 0 = omega (arith, more, many, whole, mul-one count) in
      sym (ap (λ b. cond b (Some (vectors_left 0)) None) (false_from_ne_true _
      (λ few. no_more (leb-true (vectors_left 0) MOST_VECTORS few) past)))

-- the bits of one signal's choices are below the limit
pub item_bits : (predicates : List Probe) (xs : List Controlled) (i : ℕ) (x : Controlled) → IsSpace (space_with predicates xs) →
    i < length xs → x ≡ get_or xs i x → x.first + length x.choices ≤ MOST_BITS
item_bits predicates xs i x is_space within is =
    let at : slice_get (map controlled_tree xs) i ≡ Some (controlled_tree x) =
    slice_get_image controlled_tree xs i x (slice_get_read xs (length xs) i x refl within is) in
    let bits = bits_within (length (map probe_tree predicates)) (map controlled_tree xs) i (controlled_tree x) is_space.in_order at in
    omega (arith, bits, is_space.few_bits, length-map x.choices term_tree)

-- a loop that sets the bit of each pick: what is set and what is left make the whole letter

pub picks_length : (xs : List Controlled) (picks : List ℕ) → ArePicks (map controlled_tree xs) picks → length picks ≡ length xs
picks_length [] [] are = refl
picks_length (x ∷ xs) (pick ∷ picks) are = ap suc (picks_length xs picks are.1)
picks_length [] (pick ∷ picks) are = absurd are
picks_length (x ∷ xs) [] are = absurd are

pub pick_within : (xs : List Controlled) (picks : List ℕ) (n : ℕ) (d : Controlled) → ArePicks (map controlled_tree xs) picks →
    n < length xs → get_or picks n 0 < length (get_or xs n d).choices
pick_within [] picks n d are within = absurd (omega arith)
pick_within (x ∷ xs) [] n d are within = absurd are
pick_within (x ∷ xs) (pick ∷ picks) zero d are within = omega (arith, are.0, length-map x.choices term_tree)
pick_within (x ∷ xs) (pick ∷ picks) (suc n) d are within = pick_within xs picks n d are.1 (omega arith)

-- the bit of a pick
pub turn_below : (predicates : List Probe) (xs : List Controlled) (picks : List ℕ) (n : ℕ) (x : Controlled) (pick : ℕ) →
    IsSpace (space_with predicates xs) → ArePicks (map controlled_tree xs) picks → n < length xs → x ≡ get_or xs n x →
    pick ≡ get_or picks n 0 → x.first + pick < 64
turn_below predicates xs picks n x pick is_space are within is_x is_pick =
    let bits = item_bits predicates xs n x is_space within is_x in
    let below = pick_within xs picks n x are within in
    omega (arith, bits, below, is_pick, ap (λ y. length y.choices) is_x)

-- a bit of a word
pub word_bit : (b : ℕ) → b < 64 → 1 * 2 ^ b % 18446744073709551616 ≡ 2 ^ b
word_bit b below = mod-eq_of_lt (omega (arith, pow-lt below)) ∙ omega arith

pub picked_next : (xs : List Controlled) (picks : List ℕ) (n letter : ℕ) (x : Controlled) (pick : ℕ) →
    n < length xs → n < length picks → x ≡ get_or xs n x → pick ≡ get_or picks n 0 → x.first + pick < 64 →
    with_picks (bit_or letter (1 * 2 ^ (x.first + pick) % 18446744073709551616))
    (map controlled_tree (drop (n + 1) xs)) (drop (n + 1) picks)
    ≡ with_picks letter (map controlled_tree (drop n xs)) (drop n picks)
picked_next xs picks n letter x pick within inside is_x is_pick below =
    ap (λ bit. with_picks (bit_or letter bit) (map controlled_tree (drop (n + 1) xs)) (drop (n + 1) picks))
    (word_bit (x.first + pick) below)
    ∙ sym ((λ i. with_picks letter (map controlled_tree (signals i)) (left i)))
  where
    signals : drop n xs ≡ x ∷ drop (n + 1) xs
    signals = drop_more xs n x within ∙ ap (λ y. y ∷ drop (n + 1) xs) (sym is_x)

    left : drop n picks ≡ pick ∷ drop (n + 1) picks
    left = drop_more picks n 0 inside ∙ ap (λ m. m ∷ drop (n + 1) picks) (sym is_pick)

pub picked_all : (xs : List Controlled) (picks : List ℕ) (n letter : ℕ) → length xs ≤ n →
    letter ≡ with_picks letter (map controlled_tree (drop n xs)) (drop n picks)
picked_all xs picks n letter past = ap (λ ys. with_picks letter (map controlled_tree ys) (drop n picks)) (sym (drop_all n xs past))
