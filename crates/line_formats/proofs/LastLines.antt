-- Where the last line may lack its line feed, the lines that are read are those of the text with it.
use Rattle.std.proofs.Common.{◌≡◌, ℕ, suc, Bool, true, false, cond, eqb, List, [], ◌∷◌, ◌++◌, map, refl, sym, ap, ◌∙◌}
use Rattle.std.specs.Prelude.{if◌then◌else◌}
use Rattle.std.specs.List.{onto_first}
use Rattle.std.proofs.lemmas.Bool.{cond-false}
use Rattle.tsl_text.specs.Lines.{NumberedLine, is_ended, lines, lines_from, with_numbers}
use Rattle.line_formats.specs.declared.lines.LastLine.{LastLine}
use Rattle.line_formats.specs.declared.lines.LastLine.TheVariants.{Ended, MayLackFeed}
use Rattle.line_formats.specs.Machine.{text_taken}
use Rattle.line_formats.specs.internal.LastLines.{taken}

with_ended : (n : ℕ) (ended : Bool) (ls : List (List ℕ)) → map (taken MayLackFeed) (with_numbers n ended ls) ≡ with_numbers n true ls
with_ended n ended [] = refl
with_ended n ended (l ∷ []) = refl
with_ended n ended (l ∷ m ∷ ls) = ap (λ zs. record { number = n; bytes = l; ended = true } ∷ zs) (with_ended (suc n) ended (m ∷ ls))

as_told : (ls : List NumberedLine) → map (taken Ended) ls ≡ ls
as_told [] = refl
as_told (l ∷ ls) = ap (λ zs. l ∷ zs) (as_told ls)

feed_ends : (text : List ℕ) → is_ended (text ++ 10 ∷ []) ≡ true
feed_ends [] = refl
feed_ends (b ∷ []) = refl
feed_ends (b ∷ c ∷ bs) = feed_ends (c ∷ bs)

-- the line feed that is put after the last line begins no line
same_lines : (text : List ℕ) → is_ended text ≡ false → lines (text ++ 10 ∷ []) ≡ lines text
same_lines [] h = absurd cc
same_lines (b ∷ []) h =
    cond-false (eqb b 10) ([] ∷ lines (10 ∷ [])) (onto_first b (lines (10 ∷ []))) h
    ∙ sym (cond-false (eqb b 10) ([] ∷ lines []) (onto_first b (lines [])) h)
same_lines (b ∷ c ∷ bs) h = ap (λ ls. cond (eqb b 10) ([] ∷ ls) (onto_first b ls)) (same_lines (c ∷ bs) h)

pub all_taken : (last : LastLine) (text : List ℕ) (n : ℕ) → map (taken last) (lines_from n text) ≡ lines_from n (text_taken last text)
all_taken Ended text n = as_told (lines_from n text)
all_taken MayLackFeed text n = with_ended n (is_ended text) (lines text) ∙ sym (by (is_ended text) refl) where
  by : (ended : Bool) → is_ended text ≡ ended → lines_from n (if ended then text else text ++ 10 ∷ []) ≡ with_numbers n true (lines text)
  by true h = ap (λ e. with_numbers n e (lines text)) h
  by false h = (λ i. with_numbers n (feed_ends text i) (same_lines text h i))
