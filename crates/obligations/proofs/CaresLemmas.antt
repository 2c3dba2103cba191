-- The bits of the members of a list, gathered one after another.
use Rattle.std.proofs.Common.{◌≡◌, ◌∙◌, ℕ, ◌+◌, ◌<◌, ◌≤◌, List, length, drop, get_or, sym, ap, arith, bit_or, max}
use Rattle.std.specs.Int.{bit_at}
use Rattle.std.proofs.lemmas.List.{drop_all, drop_more}
use Rattle.std.proofs.lemmas.Nat.Bits.{bit_at_or, bit_at-zero, same_from_bits}
use Rattle.base_library.proofs.Lists.{left_at}
use Rattle.obligations.specs.declared.numbered.NumberedChoice.{NumberedChoice}
use Rattle.obligations.specs.Numbers.{ChoiceKey, choice_key, choice_keys}
use Rattle.obligations.specs.internal.Antichains.{gathered, cares, mark, marks_of, all_marks}

or_assoc : (a b c : ℕ) → bit_or (bit_or a b) c ≡ bit_or a (bit_or b c)
or_assoc a b c = same_from_bits (bit_or (bit_or a b) c) (bit_or a (bit_or b c)) (λ i.
    bit_at_or (bit_or a b) c i ∙ ap (λ n. max n (bit_at c i)) (bit_at_or a b i) ∙ moved (bit_at a i) (bit_at b i) (bit_at c i)
    ∙ ap (max (bit_at a i)) (sym (bit_at_or b c i)) ∙ sym (bit_at_or a (bit_or b c) i))
  where
    moved : (a b c : ℕ) → max (max a b) c ≡ max a (max b c)
    moved a b c = omega arith

pub none_first : (a : ℕ) → bit_or 0 a ≡ a
none_first a = same_from_bits (bit_or 0 a) a (λ i. bit_at_or 0 a i ∙ ap (λ n. max n (bit_at a i)) (bit_at-zero i) ∙ omega arith)

none_last : (a : ℕ) → bit_or a 0 ≡ a
none_last a = same_from_bits (bit_or a 0) a (λ i. bit_at_or a 0 i ∙ ap (max (bit_at a i)) (bit_at-zero i) ∙ omega arith)

module _ (bits : ChoiceKey → ℕ) where
  choices_step : (cs : List NumberedChoice) (i : ℕ) (c : NumberedChoice) (before all : ℕ) → i < length cs → c ≡ get_or cs i c
      → bit_or before (gathered bits (choice_keys (drop i cs))) ≡ all
      → bit_or (bit_or before (bits (choice_key c))) (gathered bits (choice_keys (drop (i + 1) cs))) ≡ all
  choices_step cs i c before all within at old =
      or_assoc before (bits (choice_key c)) (gathered bits (choice_keys (drop (i + 1) cs)))
      ∙ ap (λ l. bit_or before (gathered bits (choice_keys l))) (sym (left_at cs i c within at)) ∙ old

  pub choices_end : (cs : List NumberedChoice) (i now all : ℕ) → length cs ≤ i
      → bit_or now (gathered bits (choice_keys (drop i cs))) ≡ all → now ≡ all
  choices_end cs i now all done at =
      sym (none_last now) ∙ ap (λ l. bit_or now (gathered bits (choice_keys l))) (sym (drop_all i cs done)) ∙ at

pub cares_step : (cs : List NumberedChoice) (i : ℕ) (c : NumberedChoice) (before all : ℕ) → i < length cs → c ≡ get_or cs i c
    → bit_or before (cares (choice_keys (drop i cs))) ≡ all → bit_or (bit_or before c.care) (cares (choice_keys (drop (i + 1) cs))) ≡ all
cares_step = choices_step (λ c. c.care)

pub marks_step : (cs : List NumberedChoice) (i : ℕ) (c : NumberedChoice) (before all : ℕ) → i < length cs → c ≡ get_or cs i c
    → bit_or before (all_marks (choice_keys (drop i cs))) ≡ all
    → bit_or (bit_or before (marks_of (choice_key c))) (all_marks (choice_keys (drop (i + 1) cs))) ≡ all
marks_step = choices_step marks_of

pub numbers_step : (ns : List ℕ) (i before bit all : ℕ) → i < length ns → bit ≡ mark (get_or ns i 0)
    → bit_or before (gathered mark (drop i ns)) ≡ all → bit_or (bit_or before bit) (gathered mark (drop (i + 1) ns)) ≡ all
numbers_step ns i before bit all within is old =
    ap (λ b. bit_or (bit_or before b) (gathered mark (drop (i + 1) ns))) is
    ∙ or_assoc before (mark (get_or ns i 0)) (gathered mark (drop (i + 1) ns))
    ∙ ap (λ l. bit_or before (gathered mark l)) (sym (drop_more ns i 0 within)) ∙ old

pub numbers_end : (ns : List ℕ) (i now all : ℕ) → length ns ≤ i → bit_or now (gathered mark (drop i ns)) ≡ all → now ≡ all
numbers_end ns i now all done at =
    sym (none_last now) ∙ ap (λ l. bit_or now (gathered mark l)) (sym (drop_all i ns done)) ∙ at
