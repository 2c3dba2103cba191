-- Tables of literals that are halved.
use Rattle.std.proofs.Common.{◌≡◌, ◌∙◌, ℕ, zero, suc, ◌+◌, ◌-◌, ◌*◌, ◌/◌, ◌%◌, ◌^◌, ◌<◌, ◌==◌, Bool, false, List, [], ◌∷◌, ◌++◌, length, get_or}
use Rattle.std.proofs.Common.{map, refl, sym, ap, subst, arith, if◌then◌else◌, inl, inr}
use Rattle.std.specs.Int.{bit_at}
use Rattle.std.proofs.Math.Nat.{suc-mul, div-eq_of_lt}
use Rattle.std.proofs.lemmas.Nat.Bits.{bit_at-lt}
use Rattle.std.proofs.lemmas.Option.{none-some, slice_get_within, slice_get-get_or, get_or_from_slice_get, slice_get-map}
use Rattle.std.specs.Prelude.{option_map}
use Rattle.std.proofs.lemmas.List.{length_push}
use Rattle.base_library.proofs.Places.{slice_get_push, slice_get_mapped}
use Rattle.ltl_formula.specs.Cubes.{has_bit}
use Rattle.circuits.specs.Circuits.{IsLiteral, AreLiterals, truth}
use Rattle.controller_circuits.specs.Bits.{binary_digits}
use Rattle.controller_circuits.specs.OfController.{constant_literal}
use Rattle.controller_circuits.specs.internal.Gates.{GatesTree, variables_so_far, value, Becomes, GivesLiteral}
use Rattle.controller_circuits.specs.internal.Tables.{AreChosen, AreTested, AreOfWords}
use Rattle.controller_circuits.proofs.Truths.{literal_stays}
use Rattle.controller_circuits.proofs.GateLemmas.{stays_same, becomes_further, value_false, value_true}
use Rattle.controller_circuits.proofs.DigitLemmas.{length-bits_from, digit_at, half_again, place_below, power_halved}

-- literals of old gates are literals of new ones
pub literals_stay : (a b : GatesTree) (ls : List ℕ) → Becomes a b → AreLiterals (variables_so_far a) ls → AreLiterals
    (variables_so_far b) ls
literals_stay a b ls to are i l at = omega (arith, are i l at, to.before, to.longer)

pub literals_pushed : (most : ℕ) (ls : List ℕ) (x : ℕ) → AreLiterals most ls → IsLiteral most x → AreLiterals most (ls ++ x ∷ [])
literals_pushed most ls x are is i l at = elim (slice_get_push ls x i l at) [
  | inl p ↦ are i l p.1
  | inr p ↦ subst (λ (y : ℕ). IsLiteral most y) p.1 is
]

pub literal_at : (most : ℕ) (ls : List ℕ) (i : ℕ) → AreLiterals most ls → i < length ls → IsLiteral most (get_or ls i 0)
literal_at most ls i are within = are i (get_or ls i 0) (slice_get-get_or ls i 0 within)

-- a variable's literal
pub variable_value : (g : GatesTree) (bits : List Bool) (k : ℕ) → k < length bits → value g bits (2 * (k + 1)) ≡ get_or bits k false
variable_value g bits k within =
    literal_stays (false ∷ bits) g.gates (2 * (k + 1)) (omega (arith, within)) ∙ plain (2 * (k + 1)) (omega arith)
    ∙ (let half : 2 * (k + 1) / 2 ≡ suc k = omega arith in ap (λ v. get_or (false ∷ bits) v false) half)
  where
    plain : (l : ℕ) → l % 2 ≡ 0 → truth (false ∷ bits) l ≡ get_or (false ∷ bits) (l / 2) false
    plain l even = rw even refl

pub none_chosen : (g : GatesTree) (test : ℕ) (literals : List ℕ) → AreChosen g g test literals []
none_chosen g test literals = record {
  becomes = stays_same g;
  few = omega arith;
  are_literals = λ i l at. absurd (none-some l at);
  means = λ j l at. absurd (none-some l at);
  same = λ x are j l at. absurd (none-some l at);
}

pub one_more_chosen : (old mid new : GatesTree) (test : ℕ) (literals made : List ℕ) (place x : ℕ) → length made ≡ place
    → place < length literals / 2 → IsLiteral (variables_so_far old) test → AreLiterals (variables_so_far old) literals
    → AreChosen old mid test literals made
    → GivesLiteral mid new 3 x (λ t. if t test then t (get_or literals (2 * place + 1) 0) else t (get_or literals (2 * place) 0))
    → (get_or literals (2 * place + 1) 0 ≡ get_or literals (2 * place) 0 → x ≡ get_or literals (2 * place) 0)
    → AreChosen old new test literals (made ++ x ∷ [])
one_more_chosen old mid new test literals made place x count within is_test are chosen gives same = record {
  becomes = becomes_further old mid new chosen.becomes gives.becomes;
  few = omega (arith, chosen.few, gives.few, length_push made x);
  are_literals = literals_pushed (variables_so_far new) made x
      (literals_stay mid new made gives.becomes chosen.are_literals) gives.is_literal;
  means = λ j l at bits size.
      let size_mid : length bits ≡ mid.before = size ∙ sym chosen.becomes.before in
      elim (slice_get_push made x j l at) [
        | inl p ↦ gives.becomes.keeps bits size_mid l (chosen.are_literals j l p.1) ∙ chosen.means j l p.1 bits size
        | inr p ↦
            let here : j ≡ place = p.0 ∙ count in
            subst (λ (y : ℕ). value new bits y ≡ (if value old bits test then value old bits
            (get_or literals (2 * j + 1) 0) else value old bits (get_or literals (2 * j) 0)))
            p.1
            (subst (λ (q : ℕ). value new bits x ≡ (if value old bits test then value old bits
            (get_or literals (2 * q + 1) 0) else value old bits (get_or literals (2 * q) 0)))
            (sym here)
            (gives.means bits size_mid
            ∙ three (chosen.becomes.keeps bits size test is_test)
            (chosen.becomes.keeps bits size (get_or literals (2 * place + 1) 0)
            (literal_at (variables_so_far old) literals (2 * place + 1) are (omega (arith, within))))
            (chosen.becomes.keeps bits size (get_or literals (2 * place) 0)
            (literal_at (variables_so_far old) literals (2 * place) are (omega (arith, within))))))
      ];
  same = λ y all j l at. elim (slice_get_push made x j l at) [
    | inl p ↦ chosen.same y all j l p.1
    | inr p ↦
        let low : get_or literals (2 * place) 0 ≡ y = all (2 * place) _
        (slice_get-get_or literals (2 * place) 0 (omega (arith, within))) in
        let high : get_or literals (2 * place + 1) 0 ≡ y = all (2 * place + 1) _
        (slice_get-get_or literals (2 * place + 1) 0 (omega (arith, within))) in
        sym p.1 ∙ same (high ∙ sym low) ∙ low
  ];
}
  where
    three : {a b c d e f : Bool} → a ≡ b → c ≡ d → e ≡ f → (if a then c else e) ≡ (if b then d else f)
    three p q r = rw (p, q, r) refl

-- no variable is tested yet
pub none_tested : (g : GatesTree) (table : List ℕ) → length table ≡ 2 ^ g.before → AreLiterals (variables_so_far g) table
    → AreTested g g table 0 table
none_tested g table count are = record {
  within = omega arith;
  becomes = stays_same g;
  count = count ∙ (let e : g.before ≡ g.before - 0 = omega arith in ap (λ n. 2 ^ n) e);
  few = omega (arith, count);
  are_literals = are;
  means = λ i below. (let e : i / 2 ^ 0 ≡ i = omega arith in ap (λ p. value g (binary_digits g.before i) (get_or table p 0)) e);
  same = λ x all. all;
}

-- the next variable is tested
pub one_more_tested : (old mid new : GatesTree) (table literals chosen : List ℕ) (k : ℕ) → k < old.before
    → AreTested old mid table k literals → AreChosen mid new (2 * (k + 1)) literals chosen → length chosen ≡ length literals / 2
    → AreTested old new table (k + 1) chosen
one_more_tested old mid new table literals chosen k within tested halved count =
    let power : 2 ^ (old.before - k) ≡ 2 ^ (old.before - (k + 1)) * 2 = power_halved old.before k within in
    let counted : length chosen ≡ 2 ^ (old.before - (k + 1)) = omega (arith, count, tested.count, power) in
    record {
      within = omega arith;
      becomes = becomes_further old mid new tested.becomes halved.becomes;
      count = counted;
      few = omega (arith, halved.few, tested.few, count, tested.count, power, counted);
      are_literals = halved.are_literals;
      means = λ i below.
          let bits = binary_digits old.before i in
          let size : length bits ≡ old.before = length-bits_from 0 old.before i in
          let j_below : i / 2 ^ (k + 1) < length chosen = omega (arith, place_below i old.before (k + 1) (omega arith) below, counted) in
          let test : value mid bits (2 * (k + 1)) ≡ (i / 2 ^ k % 2 == 1) =
          variable_value mid bits k (omega (arith, size, within)) ∙ digit_at 0 old.before i k within
          ∙ (let e : 0 + k ≡ k = omega arith in ap (λ n. has_bit n i) e) in
          halved.means (i / 2 ^ (k + 1)) (get_or chosen (i / 2 ^ (k + 1)) 0) (slice_get-get_or chosen (i / 2 ^ (k + 1)) 0 j_below) bits
          (size ∙ sym tested.becomes.before)
          ∙ by_test (value mid bits) literals (i / 2 ^ (k + 1)) (i / 2 ^ k) (2 * (k + 1)) (half_again i k) test
          ∙ tested.means i below;
      same = λ x all. halved.same x (tested.same x all);
    }
  where
    by_rest : (f : ℕ → Bool) (ls : List ℕ) (j p r : ℕ) → j ≡ p / 2 → p % 2 ≡ r → r < 2
        → (if r == 1 then f (get_or ls (2 * j + 1) 0) else f (get_or ls (2 * j) 0)) ≡ f (get_or ls p 0)
    by_rest f ls j p zero half rest few = let e : 2 * j ≡ p = omega (arith, half, rest) in ap (λ q. f (get_or ls q 0)) e
    by_rest f ls j p (suc zero) half rest few = let e : 2 * j + 1 ≡ p = omega (arith, half, rest) in ap (λ q. f (get_or ls q 0)) e
    by_rest f ls j p (suc (suc r)) half rest few = absurd (omega arith)

    by_test : (f : ℕ → Bool) (ls : List ℕ) (j p t : ℕ) → j ≡ p / 2 → f t ≡ (p % 2 == 1)
        → (if f t then f (get_or ls (2 * j + 1) 0) else f (get_or ls (2 * j) 0)) ≡ f (get_or ls p 0)
    by_test f ls j p t half test = rw test (by_rest f ls j p (p % 2) half refl (omega arith))

-- all variables are tested: there is one literal
pub one_literal : (old new : GatesTree) (table literals : List ℕ) (k : ℕ) → k ≡ old.before → AreTested old new table k literals
    → literals ≡ get_or literals 0 0 ∷ []
one_literal old new table literals k all tested =
    let none : old.before - k ≡ 0 = omega (arith, all) in
    alone literals (tested.count ∙ ap (λ n. 2 ^ n) none)
  where
    alone : (ls : List ℕ) → length ls ≡ 1 → ls ≡ get_or ls 0 0 ∷ []
    alone [] e = absurd (omega (arith, e))
    alone (l ∷ []) e = refl
    alone (l ∷ m ∷ ls) e = absurd (omega (arith, e))

pub all_tested : (old new : GatesTree) (table literals : List ℕ) (k : ℕ) → k ≡ old.before → AreTested old new table k literals
    → AreTested old new table old.before (get_or literals 0 0 ∷ [])
all_tested old new table literals k all tested =
    subst (λ (ls : List ℕ). AreTested old new table old.before ls) (one_literal old new table literals k all tested)
    (subst (λ (n : ℕ). AreTested old new table n literals) all tested)

-- the literal of a bit
bit_value : (g : GatesTree) (bits : List Bool) (b : ℕ) → b < 2 → value g bits b ≡ (b == 1)
bit_value g bits zero few = value_false g bits
bit_value g bits (suc zero) few = value_true g bits
bit_value g bits (suc (suc b)) few = absurd (omega arith)

bit_literal : (n : ℕ) (b : Bool) → n < 2 → (n == 1) ≡ b → n ≡ constant_literal b
bit_literal zero b few is = ap constant_literal is
bit_literal (suc zero) b few is = ap constant_literal is
bit_literal (suc (suc n)) b few is = absurd (omega arith)

pub bits_are_literals : (most : ℕ) (words : List ℕ) (b : ℕ) → AreLiterals most (map (λ w. bit_at w b) words)
bits_are_literals most words b i l at =
    let p = slice_get_mapped (λ w. bit_at w b) words i l at in
    omega (arith, bit_at-lt p.0 b, p.2)

pub none_of_words : (g : GatesTree) (words : List ℕ) (first : ℕ) → AreOfWords g g words first 0 []
none_of_words g words first = record {
  becomes = stays_same g;
  few = omega arith;
  counted = refl;
  are_literals = λ i l at. absurd (none-some l at);
  means = λ k l at. absurd (none-some l at);
  same = λ k l at. absurd (none-some l at);
}

pub one_more_of_words : (old mid new : GatesTree) (words : List ℕ) (first count bit : ℕ) (literals : List ℕ) (x : ℕ)
    → bit ≡ first + count → length words ≡ 2 ^ old.before → AreOfWords old mid words first count literals
    → AreTested mid new (map (λ w. bit_at w bit) words) mid.before (x ∷ []) → AreOfWords old new words first (count + 1)
    (literals ++ x ∷ [])
one_more_of_words old mid new words first count bit literals x place sized so_far tested =
    let before : mid.before ≡ old.before = so_far.becomes.before in
    let power : 2 ^ mid.before ≡ 2 ^ old.before = ap (λ n. 2 ^ n) before in
    let product : (count + 1) * (3 * 2 ^ old.before) ≡ count * (3 * 2 ^ old.before) + 3 * 2 ^ old.before =
    (let e : count + 1 ≡ suc count = omega arith in ap (λ n. n * (3 * 2 ^ old.before)) e ∙ suc-mul count (3 * 2 ^ old.before)) in
    record {
      becomes = becomes_further old mid new so_far.becomes tested.becomes;
      few = omega (arith, so_far.few, tested.few, power, product);
      counted = length_push literals x ∙ ap (λ n. n + 1) so_far.counted;
      are_literals = literals_pushed (variables_so_far new) literals x (literals_stay mid new literals tested.becomes so_far.are_literals)
          (tested.are_literals 0 x refl);
      means = λ k l at i w there. elim (slice_get_push literals x k l at) [
        | inl p ↦
            let size : length (binary_digits old.before i) ≡ mid.before = length-bits_from 0 old.before i ∙ sym before in
            tested.becomes.keeps (binary_digits old.before i) size l (so_far.are_literals k l p.1) ∙ so_far.means k l p.1 i w there
        | inr p ↦
            let here : bit ≡ first + k = omega (arith, place, p.0, so_far.counted) in
            let below : i < 2 ^ mid.before = omega (arith, slice_get_within words i w there, sized, power) in
            let table_bit : get_or (map (λ w. bit_at w bit) words) i 0 ≡ bit_at w bit =
            get_or_from_slice_get (map (λ w. bit_at w bit) words) i (bit_at w bit) 0
            (slice_get-map (λ w. bit_at w bit) words i ∙ ap (option_map (λ w. bit_at w bit)) there) in
            let first_place : i / 2 ^ mid.before ≡ 0 = div-eq_of_lt below in
            subst (λ (y : ℕ). value new (binary_digits old.before i) y ≡ has_bit (first + k) w) p.1
            (ap (λ n. value new (binary_digits n i) x) (sym before)
            ∙ ap (λ q. value new (binary_digits mid.before i) (get_or (x ∷ []) q 0)) (sym first_place)
            ∙ tested.means i below
            ∙ ap (value mid (binary_digits mid.before i)) table_bit
            ∙ bit_value mid (binary_digits mid.before i) (bit_at w bit) (bit_at-lt w bit)
            ∙ ap (λ b. has_bit b w) here)
      ];
      same = λ k l at b all. elim (slice_get_push literals x k l at) [
        | inl p ↦ so_far.same k l p.1 b all
        | inr p ↦
            let here : first + k ≡ bit = omega (arith, place, p.0, so_far.counted) in
            sym p.1 ∙ tested.same (constant_literal b) (λ i y at_i.
            let q = slice_get_mapped (λ w. bit_at w bit) words i y at_i in
            sym q.2 ∙ bit_literal (bit_at q.0 bit) b (bit_at-lt q.0 bit) (ap (λ n. has_bit n q.0) (sym here) ∙ all i q.0 q.1)) 0 x refl
      ];
    }

-- the same where the lists are given by equations
pub words_so_far : (old mid new : GatesTree) (words : List ℕ) (first count bit next : ℕ) (literals table pushed : List ℕ) (x : ℕ)
    → bit ≡ first + count → next ≡ count + 1 → table ≡ map (λ w. bit_at w bit) words → pushed ≡ literals ++ x ∷ []
    → length words ≡ 2 ^ old.before → AreOfWords old mid words first count literals → AreTested mid new table mid.before (x ∷ [])
    → AreOfWords old new words first next pushed
words_so_far old mid new words first count bit next literals table pushed x place more is_table is_pushed sized so_far tested =
    subst (λ (ls : List ℕ). AreOfWords old new words first next ls) (sym is_pushed)
    (subst (λ (n : ℕ). AreOfWords old new words first n (literals ++ x ∷ [])) (sym more)
    (one_more_of_words old mid new words first count bit literals x place sized so_far
    (subst (λ (t : List ℕ). AreTested mid new t mid.before (x ∷ [])) is_table tested)))
