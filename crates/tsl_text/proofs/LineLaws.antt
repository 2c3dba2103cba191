-- The lines of a text, its first line, and the text that lines make.
use Rattle.std.proofs.Common.{
  ◌≡◌,
  ℕ,
  suc,
  ◌+◌,
  ◌-◌,
  ◌<◌,
  ◌≤◌,
  Bool,
  true,
  false,
  cond,
  eqb,
  List,
  [],
  ◌∷◌,
  ◌++◌,
  length,
  take,
  drop,
  get_or,
  sym,
  ap,
  ◌∙◌,
  refl,
  arith,
  take-append-drop,
  append_assoc,
}
use Rattle.std.specs.List.{onto_first, list_all, prefix_len}
use Rattle.std.proofs.lemmas.Bool.{and_parts, not-false, not-true, eqb-true, cond-false}
use Rattle.std.proofs.lemmas.List.{drop_more, drop_all, take_all, take_rest}
use Rattle.std.proofs.lemmas.List.Sums.{prefix_len_stops}
use Rattle.base_library.proofs.Passes.{list_all-prefix}
use Rattle.tsl_text.specs.Lines.{is_line_byte, lines, is_ended, with_numbers, lines_from}
use Rattle.tsl_text.specs.Written.{is_line, text_of_lines}

-- ---- the first line

-- a line feed ends the line before it
pub lines_feed : (line rest : List ℕ) → is_line line ≡ true → lines (line ++ 10 ∷ rest) ≡ line ∷ lines rest
lines_feed [] rest h = refl
lines_feed (b ∷ bs) rest h =
    let parts = and_parts (is_line_byte b) (is_line bs) h in
    cond-false (eqb b 10) ([] ∷ lines (bs ++ 10 ∷ rest)) (onto_first b (lines (bs ++ 10 ∷ rest))) (not-true (eqb b 10) parts.0)
    ∙ ap (onto_first b) (lines_feed bs rest parts.1)

-- the end of the text ends a line too
pub lines_cut : (byte : ℕ) (bytes : List ℕ) → is_line (byte ∷ bytes) ≡ true → lines (byte ∷ bytes) ≡ (byte ∷ bytes) ∷ []
lines_cut b [] h = cond-false (eqb b 10) ([] ∷ []) ((b ∷ []) ∷ []) (not-true (eqb b 10) (and_parts (is_line_byte b) true h).0)
lines_cut b (c ∷ cs) h =
    let parts = and_parts (is_line_byte b) (is_line (c ∷ cs)) h in
    cond-false (eqb b 10) ([] ∷ lines (c ∷ cs)) (onto_first b (lines (c ∷ cs))) (not-true (eqb b 10) parts.0)
    ∙ ap (onto_first b) (lines_cut c cs parts.1)

some_line : (byte : ℕ) (bytes : List ℕ) → 0 < length (lines (byte ∷ bytes))
some_line byte bytes = by_test (eqb byte 10) (lines bytes)
  where
    by_test : (b : Bool) (ls : List (List ℕ)) → 0 < length (cond b ([] ∷ ls) (onto_first byte ls))
    by_test true ls = omega arith
    by_test false [] = omega arith
    by_test false (l ∷ ls) = omega arith

-- ---- whether the last line has its line feed

ended_after : (front : List ℕ) (byte : ℕ) (rest : List ℕ) → is_ended (front ++ byte ∷ rest) ≡ is_ended (byte ∷ rest)
ended_after [] byte rest = refl
ended_after (b ∷ []) byte rest = refl
ended_after (b ∷ c ∷ bs) byte rest = ended_after (c ∷ bs) byte rest

not_ended : (byte : ℕ) (bytes : List ℕ) → is_line (byte ∷ bytes) ≡ true → is_ended (byte ∷ bytes) ≡ false
not_ended b [] h = not-true (eqb b 10) (and_parts (is_line_byte b) true h).0
not_ended b (c ∷ cs) h = not_ended c cs (and_parts (is_line_byte b) (is_line (c ∷ cs)) h).1

-- ---- with numbers

numbers_more : (number : ℕ) (ended : Bool) (line : List ℕ) (ls : List (List ℕ)) → 0 < length ls →
    with_numbers number ended (line ∷ ls) ≡ record { number = number; bytes = line; ended = true } ∷ with_numbers (suc number) ended ls
numbers_more number ended line [] some = absurd (omega arith)
numbers_more number ended line (next ∷ rest) some = refl

pub from_feed : (number : ℕ) (line rest : List ℕ) → is_line line ≡ true →
    lines_from number (line ++ 10 ∷ rest) ≡ record { number = number; bytes = line; ended = true } ∷ lines_from (suc number) rest
from_feed number line [] h = (λ i. with_numbers number (ended_after line 10 [] i) (lines_feed line [] h i))
from_feed number line (b ∷ bs) h =
    (λ i. with_numbers number (ended_after line 10 (b ∷ bs) i) (lines_feed line (b ∷ bs) h i))
    ∙ numbers_more number (is_ended (b ∷ bs)) line (lines (b ∷ bs)) (some_line b bs)

pub from_cut : (number byte : ℕ) (bytes : List ℕ) → is_line (byte ∷ bytes) ≡ true →
    lines_from number (byte ∷ bytes) ≡ record { number = number; bytes = byte ∷ bytes; ended = false } ∷ []
from_cut number b bs h = (λ i. with_numbers number (not_ended b bs h i) (lines_cut b bs h i))

-- ---- what the code splits off

-- the text up to its first line feed, and after it
pub split_feed : (text line rest : List ℕ) (n : ℕ) → n ≡ prefix_len is_line_byte text → n < length text → line ≡ take n text →
    rest ≡ drop (n + 1) text →
    (text ≡ line ++ 10 ∷ rest) × (is_line line ≡ true)
split_feed text line rest n e h front back =
    let stop = prefix_len_stops is_line_byte text 0 (omega (arith, e, h)) in
    let feed : get_or text n 0 ≡ 10 = ap (λ k. get_or text k 0) e
    ∙ eqb-true (get_or text (prefix_len is_line_byte text) 0) 10
    (not-false (eqb (get_or text (prefix_len is_line_byte text) 0) 10) stop) in (
      sym (take-append-drop n text) ∙ (ap (λ xs. take n text ++ xs) (drop_more text n 0 h) ∙ (λ i. sym front i ++ feed i ∷ sym back i)),
      ap is_line (front ∙ ap (λ k. take k text) e) ∙ list_all-prefix is_line_byte text,
    )

-- the lines of a text with a line feed, as the code cuts it
module _ (text : List ℕ) (n : ℕ) (len : n ≡ prefix_len is_line_byte text) (within : n < length text) where
  feed_split : (text ≡ take n text ++ 10 ∷ drop (n + 1) text) × (is_line (take n text) ≡ true)
  feed_split = split_feed text (take n text) (drop (n + 1) text) n len within refl refl

  pub feed_lines : take n text ∷ lines (take (length text - (n + 1)) (drop (n + 1) text)) ≡ lines text
  feed_lines = ap (λ rest. take n text ∷ lines rest) (take_rest text (n + 1))
      ∙ sym (ap lines feed_split.0 ∙ lines_feed (take n text) (drop (n + 1) text) feed_split.1)

  pub feed_numbered : (number : ℕ) →
      record { number = number; bytes = take n text; ended = true }
      ∷ lines_from (number + 1) (take (length text - (n + 1)) (drop (n + 1) text)) ≡ lines_from number text
  feed_numbered number =
      let next : number + 1 ≡ suc number = omega arith in
      (λ i. record { number = number; bytes = take n text; ended = true } ∷ lines_from (next i) (take_rest text (n + 1) i))
      ∙ sym (ap (lines_from number) feed_split.0 ∙ from_feed number (take n text) (drop (n + 1) text) feed_split.1)

-- a text without a line feed
whole_line : (text : List ℕ) (n : ℕ) → n ≡ prefix_len is_line_byte text → length text ≤ n → is_line text ≡ true
whole_line text n e h =
    ap is_line (sym (take_all (prefix_len is_line_byte text) text (omega (arith, e, h)))) ∙ list_all-prefix is_line_byte text

nothing : (rest : List ℕ) → length rest ≡ 0 → rest ≡ []
nothing [] h = refl
nothing (b ∷ bs) h = absurd (omega arith)

pub cut_numbered : (text rest : List ℕ) (n number : ℕ) → n ≡ prefix_len is_line_byte text → eqb (length text) 0 ≡ false → length text ≤ n →
    length rest ≡ 0 →
    lines_from number text ≡ record { number = number; bytes = text; ended = false } ∷ lines_from (number + 1) rest
cut_numbered [] rest n number e some h none = absurd cc
cut_numbered (b ∷ bs) rest n number e some h none =
    from_cut number b bs (whole_line (b ∷ bs) n e h)
    ∙ ap (λ r. record { number = number; bytes = b ∷ bs; ended = false } ∷ lines_from (number + 1) r) (sym (nothing rest none))

-- the lines of a text without one, as the code cuts it
module _ (text : List ℕ) (n : ℕ) (len : n ≡ prefix_len is_line_byte text) (some : eqb (length text) 0 ≡ false) (all : length text ≤ n) where
  cut_left : take (length text - n) (drop n text) ≡ []
  cut_left = take_rest text n ∙ drop_all n text all

  pub cut_lines : text ∷ lines (take (length text - n) (drop n text)) ≡ lines text
  cut_lines = ap (λ rest. text ∷ lines rest) cut_left ∙ sym (by text some (whole_line text n len all))
    where
      by : (line : List ℕ) → eqb (length line) 0 ≡ false → is_line line ≡ true → lines line ≡ line ∷ []
      by [] some h = absurd cc
      by (b ∷ bs) some h = lines_cut b bs h

  pub cut_to_end : (number : ℕ) →
      record { number = number; bytes = text; ended = false } ∷ lines_from (number + 1) (take (length text - n) (drop n text))
      ≡ lines_from number text
  cut_to_end number = sym (cut_numbered text (take (length text - n) (drop n text)) n number len some all (ap length cut_left))

-- ---- the text that lines make

pub lines_made : (ls : List (List ℕ)) → list_all is_line ls ≡ true → lines (text_of_lines ls) ≡ ls
lines_made [] h = refl
lines_made (l ∷ ls) h =
    let parts = and_parts (is_line l) (list_all is_line ls) h in
    ap lines (append_assoc l (10 ∷ []) (text_of_lines ls))
    ∙ (lines_feed l (text_of_lines ls) parts.0 ∙ ap (λ rest. l ∷ rest) (lines_made ls parts.1))

-- a text is that of at most one list of lines
pub one_list_of_lines : (ls ms : List (List ℕ)) → list_all is_line ls ≡ true → list_all is_line ms ≡ true →
    text_of_lines ls ≡ text_of_lines ms → ls ≡ ms
one_list_of_lines ls ms h k e = sym (lines_made ls h) ∙ (ap lines e ∙ lines_made ms k)

-- each of these lines has its line feed
pub ended_made : (ls : List (List ℕ)) → is_ended (text_of_lines ls) ≡ true
ended_made [] = refl
ended_made (l ∷ ls) = ap is_ended (append_assoc l (10 ∷ []) (text_of_lines ls))
    ∙ (ended_after l 10 (text_of_lines ls) ∙ by_rest (text_of_lines ls) (ended_made ls))
  where
    by_rest : (rest : List ℕ) → is_ended rest ≡ true → is_ended (10 ∷ rest) ≡ true
    by_rest [] h = refl
    by_rest (b ∷ bs) h = h
