-- Lines, part by part.
use Rattle.std.proofs.Common.{◌≡◌, ◌∙◌, ℕ, suc, ◌+◌, Bool, true, false, eqb, List, [], ◌∷◌, length, Option, Some, None}
use Rattle.std.proofs.Common.{refl, sym, ap, arith, codes, inl, inr}
use Rattle.std.specs.Prelude.{option_map, option_and_then, if◌then◌else◌}
use Rattle.std.proofs.lemmas.Bool.{eqb-true, ne_eqb}
use Rattle.line_formats.specs.Format.{fixed, nothing, has, one_byte, strip, at_end, mapped, chosen, read}
use Rattle.line_formats.proofs.FormatLaws.{IsLeaf, many_more, many_none, many_end}
use Rattle.line_formats.proofs.LeafLaws.{number_is_leaf, run_is_leaf}
use Rattle.automaton_text.specs.HoaText.{quotable}
use Rattle.automaton_text.specs.HoaLines.{Part, counted, quoted, inside, PartValue, any, within_brackets, leaves, word_line, quoted_name, bit_texts}
use Rattle.automaton_text.specs.HoaLines.{mark, line_value}

pub law : (i : Part) → IsLeaf (leaves i)
law counted = number_is_leaf
law quoted = run_is_leaf quotable any refl
law inside = run_is_leaf within_brackets any refl

-- ---- words

pub says_all : (words bytes rest : List ℕ) → strip words bytes ≡ Some rest → eqb (length rest) 0 ≡ true →
    line_value (word_line words) bytes ≡ Some tt
says_all words bytes [] h none = ap (λ o. at_end (option_and_then (read PartValue leaves nothing) o)) h
says_all words bytes (b ∷ bs) h none = absurd (omega (arith, eqb-true (suc (length bs)) 0 none))

pub says_more : (words bytes rest : List ℕ) → strip words bytes ≡ Some rest → eqb (length rest) 0 ≡ false →
    line_value (word_line words) bytes ≡ None
says_more words bytes [] h some = absurd cc
says_more words bytes (b ∷ bs) h some = ap (λ o. at_end (option_and_then (read PartValue leaves nothing) o)) h

pub says_none : (words bytes : List ℕ) → strip words bytes ≡ None → line_value (word_line words) bytes ≡ None
says_none words bytes h = ap (λ o. at_end (option_and_then (read PartValue leaves nothing) o)) h

-- ---- marks

pub no_mark : (bytes : List ℕ) → eqb (length bytes) 0 ≡ true → line_value mark bytes ≡ Some (inr tt)
no_mark [] none = refl
no_mark (b ∷ bs) none = absurd (omega (arith, eqb-true (suc (length bs)) 0 none))

pub end_mapped : {A B : Type 0} (make : A → B) (o : Option (A × List ℕ)) → at_end (mapped make o) ≡ option_map make (at_end o)
end_mapped make None = refl
end_mapped make (Some (a, [])) = refl
end_mapped make (Some (a, b ∷ bs)) = refl

mark_by : (b : ℕ) (bs : List ℕ) (o : Option (Unit {0})) → line_value (word_line (codes " {0}")) (b ∷ bs) ≡ o →
    line_value mark (b ∷ bs) ≡ option_map inl o
mark_by b bs o h = by (has (one_byte 32) b) refl where
  by : (t : Bool) → has (one_byte 32) b ≡ t →
      at_end (chosen t (read PartValue leaves (fixed (codes " {0}") nothing) (b ∷ bs)) (Some (tt {0}, b ∷ bs))) ≡ option_map inl o
  by true e = end_mapped inl (read PartValue leaves (fixed (codes " {0}") nothing) (b ∷ bs)) ∙ ap (option_map inl) h
  by false e =
      let other = ne_eqb 32 b (λ f. let there : true ≡ false = ap (has (one_byte 32)) f ∙ e in absurd cc) in
      ap (option_map inl)
      (sym (ap (λ t. at_end (option_and_then (read PartValue leaves nothing) (if t then strip (codes "{0}") bs else None))) other) ∙ h)

pub marked : (bytes : List ℕ) → eqb (length bytes) 0 ≡ false → line_value (word_line (codes " {0}")) bytes ≡ Some tt →
    line_value mark bytes ≡ Some (inl tt)
marked [] some h = absurd cc
marked (b ∷ bs) some h = mark_by b bs (Some tt) h

pub wrong_mark : (bytes : List ℕ) → eqb (length bytes) 0 ≡ false → line_value (word_line (codes " {0}")) bytes ≡ None →
    line_value mark bytes ≡ None
wrong_mark [] some h = absurd cc
wrong_mark (b ∷ bs) some h = mark_by b bs None h

-- ---- texts in quotes

abbrev counted_from : ℕ → Option (List (List ℕ × Unit {0}) × Unit {0}) → Option ℕ
counted_from count o = option_map (λ v. count + length v.0) o

pub one_more : (count more : ℕ) (name bytes rest : List ℕ) (whole : Option ℕ) → more ≡ count + 1 →
    read PartValue leaves quoted_name bytes ≡ Some ((name, tt), rest) → option_map (λ v. count + length v.0) (line_value bit_texts bytes) ≡ whole →
    option_map (λ v. more + length v.0) (line_value bit_texts rest) ≡ whole
one_more count more name bytes rest whole grown h so_far =
    ap (λ k. counted_from k (line_value bit_texts rest)) grown
    ∙ by (line_value bit_texts rest)
    ∙ ap (counted_from count) (sym (many_more PartValue leaves law quoted_name refl refl bytes rest (name, tt) h))
    ∙ so_far
  where
    by : (o : Option (List (List ℕ × Unit {0}) × Unit {0})) →
        counted_from (count + 1) o ≡ counted_from count (option_map (λ v. ((name, tt) ∷ v.0, v.1)) o)
    by None = refl
    by (Some v) = ap Some (omega arith)

pub none_more : (count : ℕ) (bytes : List ℕ) (whole : Option ℕ) → eqb (length bytes) 0 ≡ false →
    read PartValue leaves quoted_name bytes ≡ None → option_map (λ v. count + length v.0) (line_value bit_texts bytes) ≡ whole → whole ≡ None
none_more count [] whole some h so_far = absurd cc
none_more count (b ∷ bs) whole some h so_far = sym so_far ∙ ap (counted_from count) (many_none PartValue leaves law quoted_name b bs h)

pub all_read : (count : ℕ) (bytes : List ℕ) (whole : Option ℕ) → eqb (length bytes) 0 ≡ true →
    option_map (λ v. count + length v.0) (line_value bit_texts bytes) ≡ whole → whole ≡ Some count
all_read count [] whole none so_far =
    sym so_far ∙ ap (counted_from count) (many_end PartValue leaves law quoted_name) ∙ ap Some (omega arith)
all_read count (b ∷ bs) whole none so_far = absurd (omega (arith, eqb-true (suc (length bs)) 0 none))
