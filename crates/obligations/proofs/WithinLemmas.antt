-- Choices over numbers that lie within others: the order is one of inclusion, and a different one within is lighter.
use Rattle.std.proofs.Common.{◌≡◌, ◌∙◌, ℕ, zero, suc, ◌+◌, ◌/◌, ◌%◌, ◌<◌, ◌≤◌, Bool, true, false, ◌&&◌, ◌==◌, nat_eq, List, [], ◌∷◌, length}
use Rattle.std.proofs.Common.{◌⊎◌, inl, inr, refl, sym, ap, arith, bit_and, eq-eqb}
use Rattle.std.specs.List.{list_any, list_all, AllByRecursion}
use Rattle.std.specs.Cmp.Lexicographic.{pointwise}
use Rattle.std.specs.declared.cmp.Ordering.TheVariants.{Less}
use Rattle.std.specs.Ordering.{nat_cmp}
use Rattle.std.specs.Int.Count.{ones, ones_step}
use Rattle.std.specs.Int.Bits.{and_step, and_self}
use Rattle.std.proofs.lemmas.Nat.{and_assoc, and_comm}
use Rattle.std.proofs.lemmas.Bool.{eqb-true, eqb-false, false≢true, and_parts, and_from, or_cases, or_left, or_right}
use Rattle.std.proofs.lemmas.Slice.Eq.{bytes_eq-Decides}
use Rattle.std.proofs.lemmas.Cmp.{ranked}
use Rattle.base_library.proofs.Booleans.{eqb_self}
use Rattle.obligations.specs.Named.{IsWell}
use Rattle.ltl_formula.specs.LtlTree.{LtlTree}
use Rattle.ltl_formula.specs.Increasing.{IsIncreasing}
use Rattle.obligations.specs.Choices.{is_subset, same_choice, is_within}
use Rattle.obligations.specs.Numbers.{ChoiceKey}
use Rattle.obligations.specs.internal.Rounds.{IsRisingChoice, weight}

-- a number whose bits are among those of another is it, or has fewer
fewer_within : (d y x : ℕ) → y ≤ d → x ≤ d → bit_and y x ≡ y → (y ≡ x) ⊎ (ones y < ones x)
fewer_within zero y x a b h = inl (omega arith)
fewer_within (suc d) y x a b h =
    let step = and_step y x in
    let half : bit_and (y / 2) (x / 2) ≡ y / 2 = omega (arith, step, h) in
    let low : y % 2 ≤ x % 2 = omega (arith, step, h) in
    by low (ones_step y) (ones_step x) (fewer_within d (y / 2) (x / 2) (omega arith) (omega arith) half)
  where
    by : y % 2 ≤ x % 2 → ones y ≡ y % 2 + ones (y / 2) → ones x ≡ x % 2 + ones (x / 2) → (y / 2 ≡ x / 2) ⊎ (ones (y / 2) < ones (x / 2)) →
        (y ≡ x) ⊎ (ones y < ones x)
    by low oy ox (inr less) = inr (omega arith)
    by low oy ox (inl same) = on (y % 2 == x % 2) refl
      where
        on : (b : Bool) → (y % 2 == x % 2) ≡ b → (y ≡ x) ⊎ (ones y < ones x)
        on true e = let equal = eqb-true (y % 2) (x % 2) e in inl (omega arith)
        on false e = let other = eqb-false (y % 2) (x % 2) e in let halves : ones (y / 2) ≡ ones (x / 2) = ap ones same in inr (omega arith)

pub fewer_bits : (y x : ℕ) → bit_and y x ≡ y → (y ≡ x) ⊎ (ones y < ones x)
fewer_bits y x h = fewer_within (y + x) y x (omega arith) (omega arith) h

-- sets of numbers
abbrev has : List ℕ → ℕ → Bool
has xs m = list_any (λ n. nat_eq n m) xs

has_passes : (p : ℕ → Bool) (m : ℕ) (xs : List ℕ) → has xs m ≡ true → list_all p xs ≡ true → p m ≡ true
has_passes p m [] h all = absurd (false≢true h)
has_passes p m (x ∷ xs) h all =
    let parts = and_parts (p x) (list_all p xs) all in
    elim (or_cases (nat_eq x m) (has xs m) h) [
      | inl here ↦ ap p (sym (eqb-true x m here)) ∙ parts.0
      | inr later ↦ has_passes p m xs later parts.1
    ]

-- what holds of each member of a set holds of each of a subset
pub subset_passes : (p : ℕ → Bool) (ys xs : List ℕ) → is_subset nat_eq ys xs ≡ true → list_all p xs ≡ true → list_all p ys ≡ true
subset_passes p [] xs sub all = refl
subset_passes p (y ∷ ys) xs sub all =
    let parts = and_parts (has xs y) (is_subset nat_eq ys xs) sub in
    and_from (p y) (list_all p ys) (has_passes p y xs parts.0 all) (subset_passes p ys xs parts.1 all)

subset_more : (ys xs : List ℕ) (x : ℕ) → is_subset nat_eq ys xs ≡ true → is_subset nat_eq ys (x ∷ xs) ≡ true
subset_more [] xs x sub = refl
subset_more (y ∷ ys) xs x sub =
    let parts = and_parts (has xs y) (is_subset nat_eq ys xs) sub in
    and_from (has (x ∷ xs) y) (is_subset nat_eq ys (x ∷ xs)) (or_right (nat_eq x y) (has xs y) parts.0) (subset_more ys xs x parts.1)

pub subset_itself : (xs : List ℕ) → is_subset nat_eq xs xs ≡ true
subset_itself [] = refl
subset_itself (x ∷ xs) = and_from (has (x ∷ xs) x) (is_subset nat_eq xs (x ∷ xs)) (or_left (nat_eq x x) (has xs x) (eqb_self x))
    (subset_more xs xs x (subset_itself xs))

pub subset_trans : (xs ys zs : List ℕ) → is_subset nat_eq xs ys ≡ true → is_subset nat_eq ys zs ≡ true → is_subset nat_eq xs zs ≡ true
subset_trans xs ys zs first second = subset_passes (λ m. has zs m) xs ys first second

less : (m n : ℕ) → nat_cmp m n ≡ Less → m < n
less m n is = rw is at (ranked m n (nat_cmp m n) refl)

-- a larger number than the first is in the rest
drop_first : (x : ℕ) (xs ys : List ℕ) → AllByRecursion (λ n. x < n) ys → is_subset nat_eq ys (x ∷ xs) ≡ true → is_subset nat_eq ys xs ≡ true
drop_first x xs [] above sub = refl
drop_first x xs (y ∷ ys) above sub =
    let parts = and_parts (has (x ∷ xs) y) (is_subset nat_eq ys (x ∷ xs)) sub in
    and_from (has xs y) (is_subset nat_eq ys xs)
    (elim (or_cases (nat_eq x y) (has xs y) parts.0) [
      | inl same ↦
          (let e = eqb-true x y same in absurd (omega (arith, above.0)))
      | inr later ↦ later
    ])
    (drop_first x xs ys above.1 parts.1)

each_above : (x : ℕ) (ys : List ℕ) → AllByRecursion (λ n. nat_cmp x n ≡ Less) ys → AllByRecursion (λ n. x < n) ys
each_above x [] each = tt
each_above x (y ∷ ys) each = (less x y each.0, each_above x ys each.1)

above_more : (x y : ℕ) (ys : List ℕ) → x < y → AllByRecursion (λ n. nat_cmp y n ≡ Less) ys → AllByRecursion (λ n. x < n) (y ∷ ys)
above_more x y ys h each = (h, go ys each)
  where
    go : (zs : List ℕ) → AllByRecursion (λ n. nat_cmp y n ≡ Less) zs → AllByRecursion (λ n. x < n) zs
    go [] each = tt
    go (z ∷ zs) each = let k = less y z each.0 in (omega arith, go zs each.1)

has_above : (x y : ℕ) (xs : List ℕ) → has xs y ≡ true → AllByRecursion (λ n. nat_cmp x n ≡ Less) xs → x < y
has_above x y [] h each = absurd (false≢true h)
has_above x y (z ∷ zs) h each =
    elim (or_cases (nat_eq z y) (has zs y) h) [
      | inl here ↦ (let e = eqb-true z y here in let k = less x z each.0 in omega arith)
      | inr later ↦ has_above x y zs later each.1
    ]

-- a subset of a set is it, or has fewer members
pub fewer_members : (ys xs : List ℕ) → IsIncreasing nat_cmp ys → IsIncreasing nat_cmp xs → is_subset nat_eq ys xs ≡ true →
    (ys ≡ xs) ⊎ (length ys < length xs)
fewer_members [] [] up_y up_x sub = inl refl
fewer_members [] (x ∷ xs) up_y up_x sub = inr (omega arith)
fewer_members (y ∷ ys) [] up_y up_x sub = absurd (false≢true sub)
fewer_members (y ∷ ys) (x ∷ xs) up_y up_x sub =
    let parts = and_parts (has (x ∷ xs) y) (is_subset nat_eq ys (x ∷ xs)) sub in
    elim (or_cases (nat_eq x y) (has xs y) parts.0) [
      | inl here ↦ same (eqb-true x y here) parts.1 (λ s. fewer_members ys xs up_y.1 up_x.1 s)
      | inr later ↦ other (has_above x y xs later up_x.0) (λ s. fewer_members (y ∷ ys) xs up_y up_x.1 s)
    ]
  where
    same : x ≡ y → is_subset nat_eq ys (x ∷ xs) ≡ true → (is_subset nat_eq ys xs ≡ true → (ys ≡ xs) ⊎ (length ys < length xs))
        → (y ∷ ys ≡ x ∷ xs) ⊎ (length (y ∷ ys) < length (x ∷ xs))
    same e rest go =
        let above : AllByRecursion (λ n. x < n) ys = rw e (each_above y ys up_y.0) in
        elim (go (drop_first x xs ys above rest)) [ inl all ↦ inl (λ i. sym e i ∷ all i) | inr shorter ↦ inr (omega (arith, shorter)) ]

    other : x < y → (is_subset nat_eq (y ∷ ys) xs ≡ true → (y ∷ ys ≡ xs) ⊎ (length (y ∷ ys) < length xs)) →
        (y ∷ ys ≡ x ∷ xs) ⊎ (length (y ∷ ys) < length (x ∷ xs))
    other h go =
        elim (go (drop_first x xs (y ∷ ys) (above_more x y ys h up_y.0) sub)) [
          | inl all ↦ (let long : length (y ∷ ys) ≡ length xs = ap length all in inr (omega arith))
          | inr shorter ↦ inr (omega (arith, shorter))
        ]

-- choices
pub same_key_is : (c d : ChoiceKey) → same_choice nat_eq c d ≡ true → c ≡ d
same_key_is c d h =
    let first = and_parts (c.care == d.care) ((c.want == d.want)
    && (pointwise nat_eq c.next_set d.next_set && pointwise nat_eq c.postponed d.postponed)) h in
    let second = and_parts (c.want == d.want) (pointwise nat_eq c.next_set d.next_set
    && pointwise nat_eq c.postponed d.postponed) first.1 in
    let third = and_parts (pointwise nat_eq c.next_set d.next_set) (pointwise nat_eq c.postponed d.postponed) second.1 in
    λ i. record {
      care = eqb-true c.care d.care first.0 i;
      want = eqb-true c.want d.want second.0 i;
      next_set = (bytes_eq-Decides c.next_set d.next_set).0 third.0 i;
      postponed = (bytes_eq-Decides c.postponed d.postponed).0 third.1 i;
    }

pub is_same_key : (c d : ChoiceKey) → c.care ≡ d.care → c.want ≡ d.want → c.next_set ≡ d.next_set → c.postponed ≡ d.postponed →
    same_choice nat_eq c d ≡ true
is_same_key c d a b e f =
    and_from (c.care == d.care) _ (eq-eqb c.care d.care a) (and_from (c.want == d.want) _ (eq-eqb c.want d.want b)
    (and_from (pointwise nat_eq c.next_set d.next_set) _ ((bytes_eq-Decides c.next_set d.next_set).1 e)
    ((bytes_eq-Decides c.postponed d.postponed).1 f)))

-- what it is to lie within
pub record Within (c d : ChoiceKey) : Type 0 where
  pub care : bit_and c.care d.care ≡ c.care
  pub want : bit_and d.want c.care ≡ c.want
  pub next : is_subset nat_eq c.next_set d.next_set ≡ true
  pub postponed : is_subset nat_eq c.postponed d.postponed ≡ true

pub within_is : (c d : ChoiceKey) → is_within nat_eq c d ≡ true → Within c d
within_is c d h =
    let third = and_parts ((bit_and c.care d.care == c.care) && (bit_and d.want c.care == c.want) && is_subset nat_eq c.next_set d.next_set)
    (is_subset nat_eq c.postponed d.postponed) h in
    let second = and_parts ((bit_and c.care d.care == c.care) && (bit_and d.want c.care == c.want))
    (is_subset nat_eq c.next_set d.next_set) third.0 in
    let first = and_parts (bit_and c.care d.care == c.care) (bit_and d.want c.care == c.want) second.0 in
    record {
      care = eqb-true (bit_and c.care d.care) c.care first.0;
      want = eqb-true (bit_and d.want c.care) c.want first.1;
      next = second.1;
      postponed = third.1;
    }

pub is_within_key : (c d : ChoiceKey) → Within c d → is_within nat_eq c d ≡ true
is_within_key c d w =
    and_from ((bit_and c.care d.care == c.care) && (bit_and d.want c.care == c.want) && is_subset nat_eq c.next_set d.next_set) _
    (and_from ((bit_and c.care d.care == c.care) && (bit_and d.want c.care == c.want)) _
    (and_from (bit_and c.care d.care == c.care) _ (eq-eqb (bit_and c.care d.care) c.care w.care)
    (eq-eqb (bit_and d.want c.care) c.want w.want)) w.next)
    w.postponed

pub within_trans : (x y z : ChoiceKey) → Within x y → Within y z → Within x z
within_trans x y z p q = record {
  care =
      ap (λ n. bit_and n z.care) (sym p.care) ∙ and_assoc z.care x.care y.care ∙ ap (bit_and x.care) q.care ∙ p.care;
  want =
      ap (bit_and z.want) (sym p.care ∙ and_comm x.care y.care) ∙ sym (and_assoc x.care z.want y.care) ∙ ap (λ n. bit_and n x.care) q.want
      ∙ p.want;
  next = subset_trans x.next_set y.next_set z.next_set p.next q.next;
  postponed = subset_trans x.postponed y.postponed z.postponed p.postponed q.postponed;
}

pub rising : (names : List LtlTree) (c : ChoiceKey) → IsWell names c → IsRisingChoice c
rising names c p = record { within = p.within; next_rises = p.next_rises; postponed_rises = p.postponed_rises }

pub within_itself : (c : ChoiceKey) → IsRisingChoice c → Within c c
within_itself c p = record {
  care = and_self c.care;
  want = p.within;
  next = subset_itself c.next_set;
  postponed = subset_itself c.postponed;
}

pub lighter : (y x : ChoiceKey) → IsRisingChoice y → IsRisingChoice x → Within y x → same_choice nat_eq y x ≡ false → weight y < weight x
lighter y x p q w different =
    by (fewer_bits y.care x.care w.care) (fewer_members y.next_set x.next_set p.next_rises q.next_rises w.next)
    (fewer_members y.postponed x.postponed p.postponed_rises q.postponed_rises w.postponed)
  where
    size : {A : Type 0} (m n : List A) → m ≡ n → length m ≡ length n
    size m n e = ap length e

    by : (y.care ≡ x.care) ⊎ (ones y.care < ones x.care) → (y.next_set ≡ x.next_set) ⊎ (length y.next_set < length x.next_set)
        → (y.postponed ≡ x.postponed) ⊎ (length y.postponed < length x.postponed) → weight y < weight x
    by (inl a) (inl b) (inl c) =
        let want : y.want ≡ x.want = sym w.want ∙ ap (bit_and x.want) a ∙ q.within in
        absurd (false≢true (sym different ∙ is_same_key y x a want b c))
    by (inl a) (inl b) (inr c) = let k = ap ones a in let l = size y.next_set x.next_set b in omega arith
    by (inl a) (inr b) (inl c) = let k = ap ones a in let l = size y.postponed x.postponed c in omega arith
    by (inl a) (inr b) (inr c) = let k = ap ones a in omega arith
    by (inr a) (inl b) (inl c) = let k = size y.next_set x.next_set b in let l = size y.postponed x.postponed c in omega arith
    by (inr a) (inl b) (inr c) = let k = size y.next_set x.next_set b in omega arith
    by (inr a) (inr b) (inl c) = let l = size y.postponed x.postponed c in omega arith
    by (inr a) (inr b) (inr c) = omega arith
