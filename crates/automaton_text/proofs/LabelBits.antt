-- The bits of a cube and the literals of its label are each other's.
use Rattle.std.proofs.Common.{◌≡◌, ◌∙◌, ℕ, zero, suc, ◌+◌, ◌<◌, ◌≤◌, ◌^◌, ◌==◌, Bool, true, false, cond, ◌&&◌, ◌||◌, leb, ltb, min}
use Rattle.std.proofs.Common.{List, [], ◌∷◌, ◌++◌, length, map, drop, get_or, add-one, inl, inr, refl, sym, ap, subst, arith, codes}
use Rattle.std.specs.Prelude.{filter, decimal, bit_and, if◌then◌else◌}
use Rattle.std.specs.List.{list_any}
use Rattle.std.specs.Int.{bit_at}
use Rattle.std.proofs.lemmas.Bool.{cases_lt, cond_both, and_parts, and_from, eqb-true, eq-eqb, ne_eqb, leb-true, ltb-true, le-leb, lt-ltb}
use Rattle.std.proofs.lemmas.Bool.Decides.{eqb_tells, nat_tests}
use Rattle.std.proofs.lemmas.Nat.{or_lt, pow_below}
use Rattle.std.proofs.lemmas.Nat.Bits.{bit_at_and, bit_at_or, bit_at-lt, bit_at-zero, bit_at_above, same_from_bits}
use Rattle.std.proofs.Math.Bool.{or-false, or_assoc, and-true, and-false}
use Rattle.std.proofs.Math.Seq.{drop-cons}
use Rattle.base_library.specs.Numbers.{numbers_from, is_among}
use Rattle.base_library.proofs.Booleans.{same_tests}
use Rattle.base_library.proofs.Numbers.{among_filter, among_numbers}
use Rattle.base_library.proofs.Passes.{list_any-map}
use Rattle.ltl_formula.specs.Cubes.{has_bit, IsWithin}
use Rattle.letter_space.specs.Letters.{with_bit}
use Rattle.letter_space.proofs.LetterBits.{has_bit_more}
use Rattle.automaton_text.specs.HoaText.{literal_text, bits_asked}
use Rattle.automaton_text.specs.declared.literals.Literal.{Literal}
use Rattle.automaton_text.specs.HoaView.{literal_tree, literal_trees}
use Rattle.automaton_text.specs.HoaLines.{LiteralTree, rise, care_with, with_wanted, want_with}

-- ---- numbers by their bits

same_number : (a b : ℕ) → ((i : ℕ) → has_bit i a ≡ has_bit i b) → a ≡ b
same_number a b same = same_from_bits a b (λ i. digit (bit_at a i) (bit_at b i) (bit_at-lt a i) (bit_at-lt b i) (same i)) where
  digit : (m n : ℕ) → m < 2 → n < 2 → (m == 1) ≡ (n == 1) → m ≡ n
  digit m n k l e = grind (arith, nat_tests)

-- a bit that is wanted is asked for
bit_within : (care want i : ℕ) → IsWithin care want → (has_bit i care && has_bit i want) ≡ has_bit i want
bit_within care want i within =
    both (bit_at care i) (bit_at want i) (bit_at-lt care i) (bit_at-lt want i) (sym (bit_at_and want care i) ∙ ap (λ n. bit_at n i) within)
  where
    both : (c w : ℕ) → c < 2 → w < 2 → min w c ≡ w → ((c == 1) && (w == 1)) ≡ (w == 1)
    both c w k l e = grind (arith, nat_tests)

-- one literal more
pub within_more : (care want : ℕ) (l : LiteralTree) → IsWithin care want → IsWithin (with_bit care l.bit) (with_wanted want l)
within_more care want l within = by l.wanted where
  at : (i : ℕ) → min (bit_at want i) (bit_at care i) ≡ bit_at want i
  at i = sym (bit_at_and want care i) ∙ ap (λ n. bit_at n i) within

  by : (w : Bool) → IsWithin (with_bit care l.bit) (if w then with_bit want l.bit else want)
  by true = same_from_bits (bit_and (with_bit want l.bit) (with_bit care l.bit)) (with_bit want l.bit)
      (λ i. omega (
        arith,
        at i,
        bit_at_and (with_bit want l.bit) (with_bit care l.bit) i,
        bit_at_or want (2 ^ l.bit) i,
        bit_at_or care (2 ^ l.bit) i,
      ))
  by false = same_from_bits (bit_and want (with_bit care l.bit)) want
      (λ i. omega (arith, at i, bit_at_and want (with_bit care l.bit) i, bit_at_or care (2 ^ l.bit) i))

-- the cube of literals wants only what it asks for
pub cube_within : (care want : ℕ) (ls : List LiteralTree) → IsWithin care want → IsWithin (care_with care ls) (want_with want ls)
cube_within care want [] within = within
cube_within care want (l ∷ ls) within = cube_within (with_bit care l.bit) (with_wanted want l) ls (within_more care want l within)

-- ---- the bits of literals

-- whether a bit is that of a literal of some kind
abbrev among : (LiteralTree → Bool) → List LiteralTree → ℕ → Bool
among kind ls b = list_any (λ l. kind l && (l.bit == b)) ls

abbrev asks : List LiteralTree → ℕ → Bool
asks = among (λ l. true)

abbrev wants : List LiteralTree → ℕ → Bool
wants = among (λ l. l.wanted)

bit_more : (n k b : ℕ) → has_bit b (with_bit n k) ≡ (has_bit b n || (k == b))
bit_more n k b =
    has_bit_more b n k
    ∙ ap (λ e. has_bit b n || e)
    (same_tests (b == k) (k == b) (λ e. eq-eqb k b (sym (eqb-true b k e))) (λ e. eq-eqb b k (sym (eqb-true k b e))))

care_bits : (care : ℕ) (ls : List LiteralTree) (b : ℕ) → has_bit b (care_with care ls) ≡ (has_bit b care || asks ls b)
care_bits care [] b = sym (or-false (has_bit b care))
care_bits care (l ∷ ls) b =
    care_bits (with_bit care l.bit) ls b ∙ ap (λ p. p || asks ls b) (bit_more care l.bit b)
    ∙ or_assoc (has_bit b care) (l.bit == b) (asks ls b)

want_bits : (want : ℕ) (ls : List LiteralTree) (b : ℕ) → has_bit b (want_with want ls) ≡ (has_bit b want || wants ls b)
want_bits want [] b = sym (or-false (has_bit b want))
want_bits want (l ∷ ls) b =
    want_bits (with_wanted want l) ls b ∙ ap (λ p. p || wants ls b) (by l.wanted)
    ∙ or_assoc (has_bit b want) (l.wanted && (l.bit == b)) (wants ls b)
  where
    by : (w : Bool) → has_bit b (if w then with_bit want l.bit else want) ≡ (has_bit b want || (w && (l.bit == b)))
    by true = bit_more want l.bit b
    by false = sym (or-false (has_bit b want))

-- those of a cube of literals alone
care_has : (ls : List LiteralTree) (b : ℕ) → has_bit b (care_with 0 ls) ≡ asks ls b
care_has ls b = care_bits 0 ls b ∙ ap (λ m. (m == 1) || asks ls b) (bit_at-zero b)

want_has : (ls : List LiteralTree) (b : ℕ) → has_bit b (want_with 0 ls) ≡ wants ls b
want_has ls b = want_bits 0 ls b ∙ ap (λ m. (m == 1) || wants ls b) (bit_at-zero b)

-- ---- literals in order

pub rise_parts : (bits least : ℕ) (l : LiteralTree) (ls : List LiteralTree) → rise bits least (l ∷ ls) ≡ true →
    (least ≤ l.bit) × (l.bit < bits) × (rise bits (suc l.bit) ls ≡ true)
rise_parts bits least l ls up =
    let parts = and_parts (leb least l.bit && ltb l.bit bits) (rise bits (suc l.bit) ls) up in
    let ends = and_parts (leb least l.bit) (ltb l.bit bits) parts.0 in
    (leb-true least l.bit ends.0, ltb-true l.bit bits ends.1, parts.1)

rise_more : (bits least : ℕ) (l : LiteralTree) (ls : List LiteralTree) → least ≤ l.bit → l.bit < bits → rise bits (suc l.bit) ls ≡ true →
    rise bits least (l ∷ ls) ≡ true
rise_more bits least l ls from to up =
    and_from (leb least l.bit && ltb l.bit bits) (rise bits (suc l.bit) ls)
    (and_from (leb least l.bit) (ltb l.bit bits) (le-leb least l.bit from) (lt-ltb l.bit bits to)) up

module _ (kind : LiteralTree → Bool) where
  among_rest : (l : LiteralTree) (ls : List LiteralTree) (b : ℕ) → (l.bit ≡ b → ⊥) → among kind (l ∷ ls) b ≡ among kind ls b
  among_rest l ls b apart =
      ap (λ q. (kind l && q) || among kind ls b) (ne_eqb l.bit b apart) ∙ ap (λ p. p || among kind ls b) (and-false (kind l))

  -- no bit is below the first one
  none_below : (bits least b : ℕ) (ls : List LiteralTree) → rise bits least ls ≡ true → b < least → among kind ls b ≡ false
  none_below bits least b [] up below = refl
  none_below bits least b (l ∷ ls) up below =
      let parts = rise_parts bits least l ls up in
      let from = parts.0 in
      among_rest l ls b (λ e. omega (arith, e, from, below)) ∙ none_below bits (suc l.bit) b ls parts.2 (omega (arith, from, below))

-- the literals of a cube, by the bits that it asks for
abbrev pub literals_from : ℕ → List ℕ → List LiteralTree
literals_from want bs = map (λ b. record { bit = b; wanted = has_bit b want }) bs

-- literals in order are those of the bits that they ask for and want
literals_are : (bits least count want : ℕ) (p : ℕ → Bool) (ls : List LiteralTree) → least + count ≡ bits → rise bits least ls ≡ true →
    ((b : ℕ) → least ≤ b → (p b ≡ asks ls b) × (has_bit b want ≡ wants ls b)) →
    literals_from want (filter p (numbers_from least count)) ≡ ls
literals_are bits least zero want p [] sum up same = refl
literals_are bits least zero want p (l ∷ ls) sum up same =
    let parts = rise_parts bits least l ls up in absurd (omega (arith, parts.0, parts.1, sum))
literals_are bits least (suc count) want p [] sum up same =
    ap (λ b. literals_from want (cond b (least ∷ filter p (numbers_from (suc least) count)) (filter p (numbers_from (suc least) count))))
    (same least (omega arith)).0
    ∙ literals_are bits (suc least) count want p [] (omega (arith, sum)) refl (λ b above. same b (omega (arith, above)))
literals_are bits least (suc count) want p (l ∷ ls) sum up same = elim (eqb_tells l.bit least) [
  | inl here ↦
      (let is = here.1 in
      let at = same least (omega arith) in
      let wanted : has_bit least want ≡ l.wanted =
      at.1 ∙ ap (λ e. (l.wanted && e) || wants ls least) here.0
      ∙ ap (λ q. (l.wanted && true) || q) (none_below (λ l. l.wanted) bits (suc l.bit) least ls parts.2 (omega (arith, is)))
      ∙ or-false (l.wanted && true) ∙ and-true l.wanted in
      ap (λ b. literals_from want (cond b (least ∷ rest) rest)) (at.0 ∙ ap (λ e. e || asks ls least) here.0)
      ∙ (λ i. record { bit = sym is i; wanted = wanted i }
      ∷ literals_are bits (suc least) count want p ls (omega (arith, sum)) (subst (λ k. rise bits (suc k) ls ≡ true) is parts.2)
      (λ b above. (
        (same b (omega (arith, above))).0 ∙ among_rest (λ l. true) l ls b (λ e. omega (arith, e, is, above)),
        (same b (omega (arith, above))).1 ∙ among_rest (λ l. l.wanted) l ls b (λ e. omega (arith, e, is, above)),
      )) i))
  | inr other ↦
      (let apart = other.1 in
      let from = parts.0 in
      let later = rise_more bits (suc least) l ls (omega (arith, from, apart)) parts.1 parts.2 in
      ap (λ b. literals_from want (cond b (least ∷ rest) rest))
      ((same least (omega arith)).0 ∙ none_below (λ l. true) bits (suc least) least (l ∷ ls) later (omega arith))
      ∙ literals_are bits (suc least) count want p (l ∷ ls) (omega (arith, sum)) later (λ b above. same b (omega (arith, above))))
]
  where
    parts : (least ≤ l.bit) × (l.bit < bits) × (rise bits (suc l.bit) ls ≡ true)
    parts = rise_parts bits least l ls up

    rest : List ℕ
    rest = filter p (numbers_from (suc least) count)

-- ---- texts

abbrev pub text_of_literal : LiteralTree → List ℕ
text_of_literal l = (if l.wanted then [] else codes "!") ++ decimal l.bit

pub texts_from : (want : ℕ) (bs : List ℕ) → map text_of_literal (literals_from want bs) ≡ map (literal_text want) bs
texts_from want [] = refl
texts_from want (b ∷ bs) = ap (λ ts. literal_text want b ∷ ts) (texts_from want bs)

-- the label of the cube of literals is these literals
pub literals_written : (bits : ℕ) (ls : List LiteralTree) → rise bits 0 ls ≡ true →
    map (literal_text (want_with 0 ls)) (bits_asked bits (care_with 0 ls)) ≡ map text_of_literal ls
literals_written bits ls up =
    sym (texts_from (want_with 0 ls) (bits_asked bits (care_with 0 ls)))
    ∙ ap (map text_of_literal)
    (literals_are bits 0 bits (want_with 0 ls) (λ b. has_bit b (care_with 0 ls)) ls (omega arith) up
    (λ b above. (care_has ls b, want_has ls b)))

-- the cube of literals below a bound is below its power of two
pub care_below : (bits least care : ℕ) (ls : List LiteralTree) → care < 2 ^ bits → rise bits least ls ≡ true → care_with care ls < 2 ^ bits
care_below bits least care [] few up = few
care_below bits least care (l ∷ ls) few up =
    let parts = rise_parts bits least l ls up in
    care_below bits (suc l.bit) (with_bit care l.bit) ls (or_lt bits care (2 ^ l.bit) few (pow_below l.bit bits parts.1)) parts.2

-- ---- one literal of a list more

pub cube_next : (care want more_care more_want all_care all_want : ℕ) (ls : List Literal) (i : ℕ) (d : Literal) → i < length ls →
    more_care ≡ with_bit care (get_or ls i d).bit → more_want ≡ with_wanted want (literal_tree (get_or ls i d)) →
    (care_with care (literal_trees (drop i ls)) ≡ all_care) × (want_with want (literal_trees (drop i ls)) ≡ all_want) × IsWithin care want →
    (care_with more_care (literal_trees (drop (i + 1) ls)) ≡ all_care) × (want_with more_want (literal_trees (drop (i + 1) ls)) ≡ all_want)
    × IsWithin more_care more_want
cube_next care want more_care more_want all_care all_want ls i d within asked wanted so_far =
    let left : drop (i + 1) ls ≡ drop (suc i) ls = ap (λ k. drop k ls) (add-one i) in
    let next : get_or ls i d ∷ drop (suc i) ls ≡ drop i ls = sym (drop-cons ls i d within) in (
      (λ j. care_with (asked j) (literal_trees (left j))) ∙ ap (λ xs. care_with care (literal_trees xs)) next ∙ so_far.0,
      (λ j. want_with (wanted j) (literal_trees (left j))) ∙ ap (λ xs. want_with want (literal_trees xs)) next ∙ so_far.1,
      (λ j. bit_and (wanted j) (asked j)) ∙ within_more care want (literal_tree (get_or ls i d)) so_far.2 ∙ sym wanted,
    )

-- ---- from a cube to literals and back

rise_from : (want : ℕ) (p : ℕ → Bool) (bits low least count : ℕ) → low ≤ least → least + count ≤ bits →
    rise bits low (literals_from want (filter p (numbers_from least count))) ≡ true
rise_from want p bits low least zero from within = refl
rise_from want p bits low least (suc count) from within =
    cond_both (p least) (least ∷ rest) rest (λ bs. rise bits low (literals_from want bs) ≡ true)
    (λ asked. rise_more bits low (record { bit = least; wanted = has_bit least want }) (literals_from want rest) from
    (omega (arith, within))
    (rise_from want p bits (suc least) (suc least) count (omega arith) (omega (arith, within))))
    (λ skipped. rise_from want p bits low (suc least) count (omega (arith, from)) (omega (arith, within)))
  where
    rest : List ℕ
    rest = filter p (numbers_from (suc least) count)

-- the literals of a cube
abbrev pub cube_literals : ℕ → ℕ → ℕ → List LiteralTree
cube_literals bits care want = literals_from want (bits_asked bits care)

pub cube_rises : (bits care want : ℕ) → rise bits 0 (cube_literals bits care want) ≡ true
cube_rises bits care want = rise_from want (λ b. has_bit b care) bits 0 0 bits (omega arith) (omega arith)

asked_care : (bits care : ℕ) → care < 2 ^ bits → (b : ℕ) → is_among (bits_asked bits care) b ≡ has_bit b care
asked_care bits care few b =
    among_filter (λ b. has_bit b care) b (numbers_from 0 bits) ∙ elim (cases_lt b bits) [
      | inl below ↦ ap (λ t. t && has_bit b care) (among_numbers 0 bits b (omega arith) (omega (arith, below)))
      | inr above ↦
          (let none : has_bit b care ≡ false = ap (λ m. m == 1) (bit_at_above care bits b few above) in
          ap (λ t. is_among (numbers_from 0 bits) b && t) none ∙ and-false (is_among (numbers_from 0 bits) b) ∙ sym none)
    ]

pub care_back : (bits care want : ℕ) → care < 2 ^ bits → care_with 0 (cube_literals bits care want) ≡ care
care_back bits care want few =
    same_number (care_with 0 (cube_literals bits care want)) care
    (λ b. care_has (cube_literals bits care want) b
    ∙ list_any-map (λ b. record { bit = b; wanted = has_bit b want }) (λ (l : LiteralTree). l.bit == b) (bits_asked bits care)
    ∙ asked_care bits care few b)

-- the bits that are asked for and wanted
asked_wanted : (want b : ℕ) (bs : List ℕ) → list_any (λ m. has_bit m want && (m == b)) bs ≡ (is_among bs b && has_bit b want)
asked_wanted want b [] = refl
asked_wanted want b (m ∷ bs) =
    ap (λ q. (has_bit m want && (m == b)) || q) (asked_wanted want b bs) ∙ elim (eqb_tells m b) [
      | inl same ↦
          (ap (λ e. (has_bit m want && e) || (is_among bs b && has_bit b want)) same.0
          ∙ ap (λ k. (has_bit k want && true) || (is_among bs b && has_bit b want)) same.1
          ∙ absorbed (has_bit b want) (is_among bs b)
          ∙ sym (ap (λ e. (e || is_among bs b) && has_bit b want) same.0))
      | inr other ↦
          (ap (λ e. (has_bit m want && e) || (is_among bs b && has_bit b want)) other.0
          ∙ ap (λ q. q || (is_among bs b && has_bit b want)) (and-false (has_bit m want))
          ∙ sym (ap (λ e. (e || is_among bs b) && has_bit b want) other.0))
    ]
  where
    absorbed : (w a : Bool) → ((w && true) || (a && w)) ≡ w
    absorbed true a = refl
    absorbed false a = and-false a

pub want_back : (bits care want : ℕ) → care < 2 ^ bits → IsWithin care want → want_with 0 (cube_literals bits care want) ≡ want
want_back bits care want few within =
    same_number (want_with 0 (cube_literals bits care want)) want
    (λ b. want_has (cube_literals bits care want) b
    ∙ list_any-map (λ b. record { bit = b; wanted = has_bit b want }) (λ (l : LiteralTree). l.wanted && (l.bit == b)) (bits_asked bits care)
    ∙ asked_wanted want b (bits_asked bits care)
    ∙ ap (λ p. p && has_bit b want) (asked_care bits care few b)
    ∙ bit_within care want b within)
