-- What is left of a text, from within a line on.
use Rattle.std.proofs.Common.{◌≡◌, ℕ, suc, ◌+◌, ◌<◌, Bool, true, false, not, cond, eqb, ◌&&◌, ◌||◌, List, [], ◌∷◌, ◌++◌, filter}
use Rattle.std.proofs.Common.{length, take, drop, ◌⊎◌, inl, inr, sym, ap, ◌∙◌, refl, arith, take-append-drop, append_assoc}
use Rattle.std.specs.List.{onto_first, prefix_len}
use Rattle.std.proofs.lemmas.Bool.{and_parts, not-false, not-true, eqb-true}
use Rattle.std.proofs.lemmas.List.{append_cancel_left}
use Rattle.tsl_text.specs.Lines.{NumberedLine, is_blank, is_line_byte, has_bytes, lines, lines_from, words}
use Rattle.tsl_text.specs.Written.{is_line}
use Rattle.tsl_text.proofs.FieldLaws.{words_word, IsWordEnd, is_word, IsStop}
use Rattle.tsl_text.proofs.LineLaws.{from_feed, from_cut, split_feed}
use Rattle.refutation_check.specs.DataLines.{is_comment}
use Rattle.cnf_reader.specs.internal.RestOfText.{data_lines_from, line_rest, later_lines, EndsWord}

-- ---- a word

-- a byte of a word is no line feed
no_feed : (byte : ℕ) → not (is_blank byte) ≡ true → eqb byte 10 ≡ false
no_feed byte h = by_tests (eqb byte 32) (eqb byte 9) (eqb byte 13) (eqb byte 10) h
  where
    by_tests : (space tab return feed : Bool) → not (space || (tab || (return || feed))) ≡ true → feed ≡ false
    by_tests true tab return feed h = cc
    by_tests false true return feed h = cc
    by_tests false false true feed h = cc
    by_tests false false false true h = cc
    by_tests false false false false h = refl

rest_after_word : (word rest : List ℕ) → is_word word ≡ true → line_rest (word ++ rest) ≡ word ++ line_rest rest
rest_after_word [] rest h = refl
rest_after_word (b ∷ bs) rest h =
    let parts = and_parts (not (is_blank b)) (is_word bs) h in
    ap (λ t. cond t [] (b ∷ line_rest (bs ++ rest))) (no_feed b parts.0) ∙ ap (λ xs. b ∷ xs) (rest_after_word bs rest parts.1)

pub later_after_word : (word rest : List ℕ) → is_word word ≡ true → later_lines (word ++ rest) ≡ later_lines rest
later_after_word [] rest h = refl
later_after_word (b ∷ bs) rest h =
    let parts = and_parts (not (is_blank b)) (is_word bs) h in
    ap (λ t. cond t (bs ++ rest) (later_lines (bs ++ rest))) (no_feed b parts.0) ∙ later_after_word bs rest parts.1

rest_ends : (rest : List ℕ) → EndsWord rest → IsWordEnd (line_rest rest)
rest_ends [] end = tt
rest_ends (b ∷ bs) end = by_test (eqb b 10)
  where
    by_test : (t : Bool) → IsWordEnd (cond t [] (b ∷ line_rest bs))
    by_test true = tt
    by_test false = end

-- the first word of what is left
pub first_word : (word rest : List ℕ) → has_bytes word ≡ true → is_word word ≡ true → EndsWord rest →
    words (line_rest (word ++ rest)) ≡ word ∷ words (line_rest rest)
first_word word rest some h end =
    ap words (rest_after_word word rest h) ∙ words_word word (line_rest rest) some h (rest_ends rest end)

pub ends_where_stopped : (rest : List ℕ) → IsStop (λ byte. not (is_blank byte)) rest → EndsWord rest
ends_where_stopped [] stop = tt
ends_where_stopped (b ∷ bs) stop = not-false (is_blank b) stop

-- ---- the beginning of a line

-- a text is one line, or a line, a line feed and what follows
abbrev IsCut : List ℕ → List ℕ → List ℕ → Type 0
IsCut text line later = ((is_line text ≡ true) × (line ≡ text) × (later ≡ [])) ⊎ ((text ≡ line ++ 10 ∷ later) × (is_line line ≡ true))

cut : (text : List ℕ) → IsCut text (line_rest text) (later_lines text)
cut [] = inl (refl, refl, refl)
cut (b ∷ bs) = by_test (eqb b 10) refl (cut bs)
  where
    longer : (xs : List ℕ) → eqb b 10 ≡ false → is_line xs ≡ true → is_line (b ∷ xs) ≡ true
    longer xs e h = (λ i. not (e i) && h i)

    by_test : (t : Bool) → eqb b 10 ≡ t → IsCut bs (line_rest bs) (later_lines bs) →
        IsCut (b ∷ bs) (cond t [] (b ∷ line_rest bs)) (cond t bs (later_lines bs))
    by_test true e c = inr (ap (λ x. x ∷ bs) (eqb-true b 10 e), refl)
    by_test false e (inl c) = inl (longer bs e c.0, ap (λ xs. b ∷ xs) c.1, c.2)
    by_test false e (inr c) = inr (ap (λ xs. b ∷ xs) c.0, longer (line_rest bs) e c.1)

first_of : (number byte : ℕ) (bytes : List ℕ) → (ended : Bool) × (lines_from number (byte ∷ bytes)
    ≡ record { number = number; bytes = line_rest (byte ∷ bytes); ended = ended } ∷ lines_from (number + 1) (later_lines (byte ∷ bytes)))
first_of number b bs = by_cut (line_rest (b ∷ bs)) (later_lines (b ∷ bs)) (cut (b ∷ bs))
  where
    by_cut : (line later : List ℕ) → IsCut (b ∷ bs) line later → (ended : Bool) × (lines_from number (b ∷ bs)
        ≡ record { number = number; bytes = line; ended = ended } ∷ lines_from (number + 1) later)
    by_cut line later (inl c) = (
      false,
      from_cut number b bs c.0
          ∙ (λ i. record { number = number; bytes = sym c.1 i; ended = false } ∷ lines_from (number + 1) (sym c.2 i)),
    )
    by_cut line later (inr c) =
        let next : suc number ≡ number + 1 = omega arith in (
          true,
          ap (lines_from number) c.0 ∙ (from_feed number line later c.1
              ∙ ap (λ k. record { number = number; bytes = line; ended = true } ∷ lines_from k later) next),
        )

same_comment : (byte : ℕ) (bytes : List ℕ) → is_comment (line_rest (byte ∷ bytes)) ≡ is_comment (byte ∷ bytes)
same_comment b bs = by_test (eqb b 10) refl
  where
    by_test : (t : Bool) → eqb b 10 ≡ t → is_comment (cond t [] (b ∷ line_rest bs)) ≡ eqb b 99
    by_test true e = sym (ap (λ x. eqb x 99) (eqb-true b 10 e))
    by_test false e = refl

-- the lines of a text that are no comments, where its first line is one or not
pub first_line : (number byte : ℕ) (bytes : List ℕ) (t : Bool) → is_comment (byte ∷ bytes) ≡ t →
    (ended : Bool) × (data_lines_from number (byte ∷ bytes) ≡ cond t (data_lines_from (number + 1) (later_lines (byte ∷ bytes)))
    (record { number = number; bytes = line_rest (byte ∷ bytes); ended = ended }
    ∷ data_lines_from (number + 1) (later_lines (byte ∷ bytes))))
first_line number b bs t h = (
  (first_of number b bs).0,
  ap (λ ls. filter (λ line. not (is_comment line.bytes)) ls) (first_of number b bs).1 ∙ by_test t (same_comment b bs ∙ h),
)
  where
    first : NumberedLine
    first = record { number = number; bytes = line_rest (b ∷ bs); ended = (first_of number b bs).0 }

    later : List NumberedLine
    later = data_lines_from (number + 1) (later_lines (b ∷ bs))

    by_comment : Bool → List NumberedLine
    by_comment c = cond (not c) (first ∷ later) later

    by_test : (t : Bool) → is_comment (line_rest (b ∷ bs)) ≡ t →
        filter (λ line. not (is_comment line.bytes)) (first ∷ lines_from (number + 1) (later_lines (b ∷ bs))) ≡ cond t later (first ∷ later)
    by_test true e = ap by_comment e
    by_test false e = ap by_comment e

-- how many lines a text has
pub line_more : (byte : ℕ) (bytes : List ℕ) → length (lines (byte ∷ bytes)) ≡ suc (length (lines (later_lines (byte ∷ bytes))))
line_more b [] = by_test (eqb b 10)
  where
    by_test : (t : Bool) → length (cond t ([] ∷ []) ((b ∷ []) ∷ [])) ≡ suc (length (lines (cond t [] [])))
    by_test true = refl
    by_test false = refl
line_more b (c ∷ cs) = by_test (eqb b 10) (lines (c ∷ cs)) refl (line_more c cs)
  where
    by_test : (t : Bool) (ls : List (List ℕ)) → lines (c ∷ cs) ≡ ls → length (lines (c ∷ cs)) ≡ suc (length (lines (later_lines (c ∷ cs)))) →
        length (cond t ([] ∷ lines (c ∷ cs)) (onto_first b (lines (c ∷ cs))))
        ≡ suc (length (lines (cond t (c ∷ cs) (later_lines (c ∷ cs)))))
    by_test true ls e h = refl
    by_test false [] e h = absurd (omega (arith, ap length e, h))
    by_test false (l ∷ ls) e h = ap (λ xs. length (onto_first b xs)) e ∙ (sym (ap length e) ∙ h)

-- ---- a text without a line feed

pub later_in_line : (line rest : List ℕ) → is_line line ≡ true → later_lines (line ++ rest) ≡ later_lines rest
later_in_line [] rest h = refl
later_in_line (b ∷ bs) rest h =
    let parts = and_parts (is_line_byte b) (is_line bs) h in
    ap (λ t. cond t (bs ++ rest) (later_lines (bs ++ rest))) (not-true (eqb b 10) parts.0) ∙ later_in_line bs rest parts.1

-- what stands behind the first line feed, and the line feed before it
pub later_of_cut : (text more : List ℕ) (n : ℕ) → n ≡ prefix_len is_line_byte text → n < length text →
    (drop n text ++ more ≡ 10 ∷ (drop (n + 1) text ++ more)) × (later_lines (text ++ more) ≡ drop (n + 1) text ++ more)
later_of_cut text more n e within =
    let split = split_feed text (take n text) (drop (n + 1) text) n e within refl refl in
    let feed : drop n text ≡ 10 ∷ drop (n + 1) text =
    append_cancel_left (take n text) (drop n text) (10 ∷ drop (n + 1) text) (take-append-drop n text ∙ split.0) in (
      ap (λ xs. xs ++ more) feed,
      ap (λ xs. later_lines (xs ++ more)) split.0
          ∙ (ap later_lines (append_assoc (take n text) (10 ∷ drop (n + 1) text) more)
          ∙ later_in_line (take n text) (10 ∷ (drop (n + 1) text ++ more)) split.1),
    )
