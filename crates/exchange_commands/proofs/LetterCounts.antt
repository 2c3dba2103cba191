-- A text has at least as many bytes as it has letters, and the numbers of its letters are small.
use Rattle.std.proofs.Common.{◌≡◌, ℕ, suc, ◌+◌, ◌≤◌, ◌<◌, ◌^◌, Bool, true, false, ◌&&◌, List, [], ◌∷◌, ◌++◌, length, map, refl, ap, ◌∙◌, arith}
use Rattle.std.specs.Prelude.{nat_lt, nat_le, if◌then◌else◌, IsTrue}
use Rattle.std.specs.List.{list_all}
use Rattle.std.proofs.lemmas.Bool.{and_parts, and_from, lt-ltb, ltb-true}
use Rattle.std.proofs.lemmas.List.{length-append, length-map}
use Rattle.tsl_text.specs.Lines.{is_ended}
use Rattle.tsl_text.specs.Written.{text_of_lines}
use Rattle.line_formats.specs.Machine.{with_last_feed}
use Rattle.lasso_text.specs.LetterText.{LoopTree, IsLoop, letter_text, back_text, loop_lines, loop_text, rise}

lines_within : (ls : List (List ℕ)) → length ls ≤ length (text_of_lines ls)
lines_within [] = omega arith
lines_within (l ∷ ls) =
    let more : length (text_of_lines (l ∷ ls)) ≡ (length l + 1) + length (text_of_lines ls) =
    length-append (l ++ 10 ∷ []) (text_of_lines ls) ∙ ap (λ n. n + length (text_of_lines ls)) (length-append l (10 ∷ [])) in
    let rest = lines_within ls in
    omega (arith, more, rest)

feed_within : (text : List ℕ) → length (with_last_feed text) ≤ length text + 1
feed_within text = by (is_ended text)
  where
    by : (ended : Bool) → length (if ended then text else text ++ 10 ∷ []) ≤ length text + 1
    by true = omega arith
    by false = let more : length (text ++ 10 ∷ []) ≡ length text + 1 = length-append text (10 ∷ []) in omega (arith, more)

pub letters_within : (text : List ℕ) (loop : LoopTree) → with_last_feed text ≡ loop_text loop → length loop.letters ≤ length text
letters_within text loop is =
    let lines : length (loop_lines loop) ≡ length loop.letters + 1 =
    length-append (map letter_text loop.letters) (back_text loop.back ∷ []) ∙ ap (λ n. n + 1) (length-map loop.letters letter_text) in
    let within = lines_within (loop_lines loop) in
    let same : length (with_last_feed text) ≡ length (loop_text loop) = ap length is in
    let feed = feed_within text in
    omega (arith, lines, within, same, feed)

-- the numbers of a letter over so many propositions are below 64, where these are no more than that
pub rising_below : (bits least : ℕ) (ns : List ℕ) → bits ≤ 64 → rise bits least ns ≡ true → list_all (λ n. nat_lt n 64) ns ≡ true
rising_below bits least [] few h = refl
rising_below bits least (n ∷ ns) few h =
    let parts = and_parts (nat_le least n && nat_lt n bits) (rise bits (suc n) ns) h in
    let below = ltb-true n bits (and_parts (nat_le least n) (nat_lt n bits) parts.0).1 in
    and_from (nat_lt n 64) (list_all (λ n. nat_lt n 64) ns) (lt-ltb n 64 (omega (arith, few, below)))
    (rising_below bits (suc n) ns few parts.1)

pub all_below : (bits : ℕ) (letters : List (List ℕ)) → bits ≤ 64 → list_all (rise bits 0) letters ≡ true →
    list_all (λ ns. list_all (λ n. nat_lt n 64) ns) letters ≡ true
all_below bits [] few h = refl
all_below bits (l ∷ ls) few h =
    let parts = and_parts (rise bits 0 l) (list_all (rise bits 0) ls) h in
    and_from (list_all (λ n. nat_lt n 64) l) _ (rising_below bits 0 l few parts.0) (all_below bits ls few parts.1)
