-- What a text is from one place on and from another.
use Rattle.std.proofs.Common.{◌≡◌, ℕ, suc, ◌+◌, ◌-◌, ◌<◌, ◌≤◌, Bool, true, false, not, cond, eqb, ◌&&◌, List, [], ◌∷◌, ◌++◌, length, take, drop}
use Rattle.std.proofs.Common.{get_or, inl, inr, length-take, length-drop, sym, ap, subst, ◌∙◌, refl, arith, take-append-drop, append_assoc, append-nil, length-append}
use Rattle.std.specs.Prelude.{flat_map, Result, Ok, Err, IfOk}
use Rattle.std.specs.List.{list_all, prefix_len}
use Rattle.std.proofs.lemmas.Bool.{and_parts, eqb-true, not-false, cases_Bool}
use Rattle.std.proofs.lemmas.List.{take_all, take_rest}
use Rattle.std.proofs.lemmas.List.Folds.{list_all-append}
use Rattle.std.proofs.Math.Seq.{take-add}
use Rattle.base_library.proofs.Passes.{list_all-prefix}
use Rattle.tsl_text.specs.Lines.{is_blank, is_line_byte, has_bytes, lines, words}
use Rattle.tsl_text.specs.Written.{is_line}
use Rattle.tsl_text.proofs.FieldLaws.{words_blanks, is_word, IsStop, stop_after_prefix}
use Rattle.refutation_check.specs.DataLines.{is_comment, words_beside}
use Rattle.cnf_reader.specs.declared.stages.Heading.TheVariants.{Kind, Form, Variables, Clauses, Ended}
use Rattle.cnf_reader.specs.declared.stages.Stage.{Stage}
use Rattle.cnf_reader.specs.declared.stages.Stage.TheVariants.{Comments, Header, Numbers, Wrong}
use Rattle.cnf_reader.specs.declared.places.Rest.{Rest}
use Rattle.cnf_reader.specs.declared.places.Word.{Word}
use Rattle.clause_core.specs.declared.formulas.Cnf.{Cnf}
use Rattle.cnf_reader.specs.declared.dimacs.CnfError.{CnfError}
use Rattle.cnf_reader.specs.CnfText.{CnfAnswer, is_cnf, form_at}
use Rattle.cnf_reader.specs.Pieces.{IsGiven}
use Rattle.cnf_reader.specs.internal.Told.{Tells}
use Rattle.cnf_reader.specs.internal.Stages.{at_comment, at_data_line, after_long_word}
use Rattle.cnf_reader.specs.internal.RestOfText.{line_rest, later_lines, begins_with_blank, EndsWord}
use Rattle.cnf_reader.specs.internal.Reading.{lines_answer, numbers_answer, words_answer, answer_at, answer_left, end_answer}
use Rattle.cnf_reader.specs.internal.Places.{answer_from, GoesOn, HasNext, IsKept, in_word, at_feed, in_comment}
use Rattle.cnf_reader.proofs.StageLemmas.{header_long, number_long}
use Rattle.cnf_reader.proofs.RestLemmas.{later_after_word, first_word, ends_where_stopped, first_line, line_more, later_in_line, later_of_cut}

-- ---- blanks

-- a blank that is no line feed
pub blank_passed : (stage : Stage) (told : Tells) (number byte : ℕ) (text : List ℕ) → is_blank byte ≡ true → eqb byte 10 ≡ false →
    answer_left stage told number (byte ∷ text) ≡ answer_left stage told number text
unfolding answer_left
blank_passed stage told number byte text blank h =
    (λ i. answer_at stage told number (words (cond (h i) [] (byte ∷ line_rest text))) (cond (h i) text (later_lines text)))
    ∙ ap (λ ws. answer_at stage told number ws (later_lines text))
    (words_blanks (byte ∷ []) (line_rest text) (ap (λ b. b && true) blank))

-- the same of a text that begins with it
pub blank_dropped : (stage : Stage) (told : Tells) (number : ℕ) (text more : List ℕ) → begins_with_blank text ≡ true →
    (get_or text 0 0 ≡ 10 → ⊥) →
    answer_left stage told number (text ++ more) ≡ answer_left stage told number (drop 1 text ++ more)
blank_dropped stage told number [] more blank other = absurd (cc)
blank_dropped stage told number (b ∷ bs) more blank other =
    blank_passed stage told number b (bs ++ more) blank
    (elim (cases_Bool (eqb b 10)) [ inl e ↦ absurd (other (eqb-true b 10 e)) | inr e ↦ e ])

after_is : (number : ℕ) → suc (number + 0) ≡ number + 1
after_is number = omega arith

-- how many lines there are, counted from this line or from the next
one_more : (number byte : ℕ) (bytes : List ℕ) →
    suc (number + length (lines (byte ∷ bytes))) ≡ suc (number + 1 + length (lines (later_lines (byte ∷ bytes))))
one_more number b bs = omega (arith, line_more b bs)

data_line_at : (stage : Stage) (told : Tells) (number byte : ℕ) (bytes : List ℕ) → is_comment (byte ∷ bytes) ≡ false →
    answer_at stage told number [] (byte ∷ bytes)
    ≡ answer_at (at_data_line stage number) told (number + 1) (words (line_rest (byte ∷ bytes))) (later_lines (byte ∷ bytes))
data_line_at Comments told number b bs h =
    (λ i. lines_answer (one_more number b bs i) ((first_line (number + 1) b bs false h).1 i))
data_line_at (Header Kind) told number b bs h = refl
data_line_at (Header Form) told number b bs h = refl
data_line_at (Header Variables) told number b bs h = refl
data_line_at (Header (Clauses n)) told number b bs h = refl
data_line_at (Header Ended) told number b bs h =
    (λ i. words_answer (one_more number b bs i) told (flat_map words_beside ((first_line (number + 1) b bs false h).1 i)))
data_line_at Numbers told number b bs h =
    (λ i. words_answer (one_more number b bs i) told (flat_map words_beside ((first_line (number + 1) b bs false h).1 i)))
data_line_at (Wrong line) told number b bs h = refl

-- a line feed, behind which a line begins that is no comment
pub data_line_passed : (stage : Stage) (told : Tells) (number : ℕ) (text line more : List ℕ) → text ≡ 10 ∷ line → eqb (length line) 0 ≡ false →
    is_comment line ≡ false →
    answer_left stage told number (text ++ more) ≡ answer_left (at_data_line stage number) told (number + 1) (line ++ more)
unfolding answer_left
data_line_passed stage told number text [] more feed some h = absurd (cc)
data_line_passed stage told number text (b ∷ bs) more feed some h =
    ap (λ xs. answer_at stage told number (words (line_rest (xs ++ more))) (later_lines (xs ++ more))) feed
    ∙ data_line_at stage told number b (bs ++ more) h

-- ---- comments

comment_at : (stage : Stage) (told : Tells) (number byte : ℕ) (bytes : List ℕ) → is_comment (byte ∷ bytes) ≡ true →
    answer_at stage told number [] (byte ∷ bytes) ≡ answer_at (at_comment stage number) told (number + 1) [] (later_lines (byte ∷ bytes))
comment_at Comments told number b bs h =
    (λ i. lines_answer (one_more number b bs i) ((first_line (number + 1) b bs true h).1 i))
comment_at (Header Kind) told number b bs h = refl
comment_at (Header Form) told number b bs h = refl
comment_at (Header Variables) told number b bs h = refl
comment_at (Header (Clauses n)) told number b bs h = refl
comment_at (Header Ended) told number b bs h =
    (λ i. words_answer (one_more number b bs i) told (flat_map words_beside ((first_line (number + 1) b bs true h).1 i)))
comment_at Numbers told number b bs h =
    (λ i. words_answer (one_more number b bs i) told (flat_map words_beside ((first_line (number + 1) b bs true h).1 i)))
comment_at (Wrong line) told number b bs h = refl

-- a line feed, behind which a comment stands up to the next line feed
pub comment_passed : (stage : Stage) (told : Tells) (number : ℕ) (text line more : List ℕ) (n : ℕ) → text ≡ 10 ∷ line → is_comment line ≡ true →
    n ≡ prefix_len is_line_byte line → n < length line →
    answer_left stage told number (text ++ more) ≡ answer_left (at_comment stage number) told (number + 1) (drop n line ++ more)
unfolding answer_left
comment_passed stage told number text [] more n feed h e within = absurd (cc)
comment_passed stage told number text (b ∷ bs) more n feed h e within =
    let cut = later_of_cut (b ∷ bs) more n e within in
    ap (λ xs. answer_at stage told number (words (line_rest (xs ++ more))) (later_lines (xs ++ more))) feed
    ∙ (comment_at stage told number b (bs ++ more) h
    ∙ (ap (answer_at (at_comment stage number) told (number + 1) []) cut.1
    ∙ sym (ap (λ xs. answer_at (at_comment stage number) told (number + 1) (words (line_rest xs)) (later_lines xs)) cut.0)))

-- a line feed, behind which a comment begins, of which no more than its first byte counts
pub comment_kept : (stage : Stage) (told : Tells) (number : ℕ) (text line more : List ℕ) → text ≡ 10 ∷ line → is_comment line ≡ true →
    is_line line ≡ true →
    answer_left stage told number (text ++ more) ≡ answer_left stage told number (10 ∷ 99 ∷ more)
unfolding answer_left
comment_kept stage told number text [] more feed h whole = absurd (cc)
comment_kept stage told number text (b ∷ bs) more feed h whole =
    ap (λ xs. answer_at stage told number (words (line_rest (xs ++ more))) (later_lines (xs ++ more))) feed
    ∙ (comment_at stage told number b (bs ++ more) h
    ∙ (ap (answer_at (at_comment stage number) told (number + 1) []) (later_in_line (b ∷ bs) more whole)
    ∙ sym (comment_at stage told number 99 more refl)))

-- and what is kept of it
pub kept_comment : (line : List ℕ) → is_comment line ≡ true → take 2 (10 ∷ line) ≡ 10 ∷ 99 ∷ []
kept_comment [] h = absurd (cc)
kept_comment (b ∷ bs) h = ap (λ x. 10 ∷ x ∷ []) (eqb-true b 99 h)

-- ---- words

-- all bytes pass, where as many do at the front as there are
pub all_pass : (test : ℕ → Bool) (bytes : List ℕ) (n : ℕ) → n ≡ prefix_len test bytes → length bytes ≤ n → list_all test bytes ≡ true
all_pass test bytes n e h = ap (list_all test) (sym (take_all (prefix_len test bytes) bytes (omega (arith, e, h)))) ∙ list_all-prefix test bytes

-- a word has a byte where no blank stands first
pub some_byte : (text : List ℕ) → 0 < length text → begins_with_blank text ≡ false → 0 < prefix_len (λ byte. not (is_blank byte)) text
some_byte [] some h = absurd (omega arith)
some_byte (b ∷ bs) some h =
    let one : cond (not (is_blank b)) (1 + prefix_len (λ byte. not (is_blank byte)) bs) 0
    ≡ 1 + prefix_len (λ byte. not (is_blank byte)) bs =
    ap (λ t. cond (not t) (1 + prefix_len (λ byte. not (is_blank byte)) bs) 0) h in
    omega (arith, one)

-- a text that is not empty
pub some_length : (text : List ℕ) → eqb (length text) 0 ≡ false → 0 < length text
some_length [] h = absurd (cc)
some_length (b ∷ bs) h = omega arith

has_some : (word : List ℕ) → 0 < length word → has_bytes word ≡ true
has_some [] some = absurd (omega arith)
has_some (b ∷ bs) some = refl

stops_at_blank : (rest : List ℕ) → 0 < length rest → IsStop (λ byte. not (is_blank byte)) rest → begins_with_blank rest ≡ true
stops_at_blank [] some stop = absurd (omega arith)
stops_at_blank (b ∷ bs) some stop = not-false (is_blank b) stop

-- a word at the front, behind which a blank stands
pub record WordStands (text : List ℕ) (len : ℕ) : Type 0 where
  pub some : has_bytes (take len text) ≡ true
  pub whole : is_word (take len text) ≡ true
  pub ends : begins_with_blank (drop len text) ≡ true

pub word_stands : (text : List ℕ) (len : ℕ) → len ≡ prefix_len (λ byte. not (is_blank byte)) text → len < length text → 0 < len →
    WordStands text len
word_stands text len e within byte =
    let test : ℕ → Bool = λ byte. not (is_blank byte) in record {
      some = has_some (take len text) (omega (arith, length-take len text));
      whole = ap (λ k. is_word (take k text)) e ∙ list_all-prefix test text;
      ends = stops_at_blank (drop len text) (omega (arith, length-drop len text))
          (subst (λ k. IsStop test (drop k text)) (sym e) (stop_after_prefix test text));
    }

-- a text that is cut behind its first bytes
pub cut_at : (text more : List ℕ) (len : ℕ) → text ++ more ≡ take len text ++ (take (length text - len) (drop len text) ++ more)
cut_at text more len =
    ap (λ xs. xs ++ more) (sym (take-append-drop len text))
    ∙ (append_assoc (take len text) (drop len text) more ∙ ap (λ xs. take len text ++ (xs ++ more)) (sym (take_rest text len)))

-- the first word
pub word_passed : (stage : Stage) (told : Tells) (number : ℕ) (word text : List ℕ) → has_bytes word ≡ true → is_word word ≡ true → EndsWord text →
    answer_left stage told number (word ++ text) ≡ answer_at stage told number (word ∷ words (line_rest text)) (later_lines text)
unfolding answer_left
word_passed stage told number word text some whole end =
    (λ i. answer_at stage told number (first_word word text some whole end i) (later_after_word word text whole i))

long_at : (stage : Stage) (told : Tells) (number : ℕ) (word : List ℕ) (ws us : List (List ℕ)) (later : List ℕ) → 19 < length word →
    answer_at stage told number (word ∷ ws) later ≡ answer_at (after_long_word stage number) told number us later
long_at Comments told number word ws us later long = refl
long_at (Header heading) told number word ws us later long = header_long heading told number word ws later long
long_at Numbers told number word ws us later long = number_long told number word ws later long
long_at (Wrong line) told number word ws us later long = refl

some_bytes : (word rest : List ℕ) → 19 < length word → has_bytes (word ++ rest) ≡ true
some_bytes [] rest long = absurd (omega arith)
some_bytes (b ∷ bs) rest long = refl

-- a part of a word that is longer than any right word
pub long_passed : (stage : Stage) (told : Tells) (number : ℕ) (word more : List ℕ) → is_word word ≡ true → 19 < length word →
    answer_left stage told number (word ++ more) ≡ answer_left (after_long_word stage number) told number more
unfolding answer_left
long_passed stage told number word more whole long =
    let test : ℕ → Bool = λ byte. not (is_blank byte) in
    let front = take (prefix_len test more) more in
    let rest = drop (prefix_len test more) more in
    let split : front ++ rest ≡ more = take-append-drop (prefix_len test more) more in
    let in_word : is_word front ≡ true = list_all-prefix test more in
    let both : is_word (word ++ front) ≡ true = list_all-append test word front ∙ (λ i. whole i && in_word i) in
    let end : EndsWord rest = ends_where_stopped rest (stop_after_prefix test more) in
    let longer : 19 < length (word ++ front) = omega (arith, length-append word front, long) in
    ap (λ xs. answer_at stage told number (words (line_rest (word ++ xs))) (later_lines (word ++ xs))) (sym split)
    ∙ (ap (λ xs. answer_at stage told number (words (line_rest xs)) (later_lines xs)) (sym (append_assoc word front rest))
    ∙ (word_passed stage told number (word ++ front) rest (some_bytes word front long) both end
    ∙ (long_at stage told number (word ++ front) (words (line_rest rest)) (words (line_rest more)) (later_lines rest) longer
    ∙ ap (answer_at (after_long_word stage number) told number (words (line_rest more)))
    (sym (ap later_lines (sym split) ∙ later_after_word front rest in_word)))))

-- before a blank ends a word
ends_before : (text more : List ℕ) → begins_with_blank text ≡ true → EndsWord (text ++ more)
ends_before [] more h = absurd (cc)
ends_before (b ∷ bs) more h = h

-- a word that was read
word_read : (stage next : Stage) (told new : Tells) (number line : ℕ) (word text : List ℕ) → line ≡ number → has_bytes word ≡ true →
    is_word word ≡ true → EndsWord text →
    ((words : List (List ℕ)) (later : List ℕ) → answer_at stage told line (word ∷ words) later ≡ answer_at next new line words later) →
    answer_left stage told number (word ++ text) ≡ answer_left next new number text
unfolding answer_left
word_read stage next told new number line word text here some whole end read =
    word_passed stage told number word text some whole end
    ∙ (ap (λ n. answer_at stage told n (word ∷ words (line_rest text)) (later_lines text)) (sym here)
    ∙ (read (words (line_rest text)) (later_lines text)
    ∙ ap (λ n. answer_at next new n (words (line_rest text)) (later_lines text)) here))

-- the next word, which was read
pub next_read : {from : Rest} {word : Word} {later : Rest} (next : Stage) (told new : Tells) → HasNext from word later →
    ((words : List (List ℕ)) (rest : List ℕ) →
    answer_at later.stage told word.line (word.bytes.now ∷ words) rest ≡ answer_at next new word.line words rest) →
    (more : List ℕ) → answer_from from told more ≡ answer_left next new later.number (later.text.now ++ more)
next_read {from} {word} {later} next told new has read more =
    has.answer told more
    ∙ word_read later.stage next told new later.number word.line word.bytes.now (later.text.now ++ more) has.line has.some has.whole
    (ends_before later.text.now more has.ends) read

-- the same behind the header
pub next_number_read : {from : Rest} {word : Word} {later : Rest} (next : Stage) (told new : Tells) → HasNext from word later →
    later.stage ≡ Numbers → ((words : List (List ℕ)) (rest : List ℕ) →
    answer_at Numbers told word.line (word.bytes.now ∷ words) rest ≡ answer_at next new word.line words rest) →
    (more : List ℕ) → answer_from from told more ≡ answer_left next new later.number (later.text.now ++ more)
next_number_read {from} {word} {later} next told new has is read =
    next_read next told new has (λ words rest.
    ap (λ stage. answer_at stage told word.line (word.bytes.now ∷ words) rest) is ∙ read words rest)

-- ---- the end of a text

no_word : (kept : List ℕ) → is_word kept ≡ true → begins_with_blank kept ≡ true → ⊥
no_word [] whole h = cc
no_word (b ∷ bs) whole h = (let other = (and_parts (not (is_blank b)) (is_word bs) whole).0 in let e = ap not h in cc)

-- a line feed is kept
pub feed_ends : (stage : Stage) (told : Tells) (number : ℕ) (kept : List ℕ) → IsKept kept → begins_with_blank kept ≡ true → length kept ≡ 1 →
    answer_left stage told number kept ≡ answer_left stage told number []
unfolding answer_left
feed_ends stage told number kept (in_word whole) blank one = absurd (no_word kept whole blank)
feed_ends stage told number kept (at_feed is) blank one = ap (λ xs. answer_at stage told number (words (line_rest xs)) (later_lines xs)) is
feed_ends stage told number kept (in_comment is) blank one = absurd (omega (arith, ap length is, one))

-- a line feed and the beginning of a comment
pub comment_ends : (stage : Stage) (told : Tells) (number : ℕ) (kept : List ℕ) → IsKept kept → begins_with_blank kept ≡ true →
    (length kept ≡ 1 → ⊥) →
    answer_left stage told number kept ≡ answer_left (at_comment stage number) told (number + 1) []
unfolding answer_left
comment_ends stage told number kept (in_word whole) blank more = absurd (no_word kept whole blank)
comment_ends stage told number kept (at_feed is) blank more = absurd (more (ap length is))
comment_ends stage told number kept (in_comment is) blank more =
    ap (λ xs. answer_at stage told number (words (line_rest xs)) (later_lines xs)) is ∙ comment_at stage told number 99 [] refl

-- a word
pub word_ends : (stage next : Stage) (told new : Tells) (number : ℕ) (kept : List ℕ) → IsKept kept → begins_with_blank kept ≡ false →
    0 < length kept →
    ((words : List (List ℕ)) (later : List ℕ) → answer_at stage told number (kept ∷ words) later ≡ answer_at next new number words later) →
    answer_left stage told number kept ≡ answer_left next new number []
word_ends stage next told new number kept (in_word whole) other some read =
    ap (answer_left stage told number) (sym (append-nil kept))
    ∙ word_read stage next told new number number kept [] refl (has_some kept some) whole tt read
word_ends stage next told new number kept (at_feed is) other some read = absurd (let e = sym other ∙ ap begins_with_blank is in cc)
word_ends stage next told new number kept (in_comment is) other some read = absurd (let e = sym other ∙ ap begins_with_blank is in cc)

-- what the text is that ends there
pub end_is : (stage : Stage) (told : Tells) (number : ℕ) → answer_left stage told number [] ≡ end_answer stage told number
unfolding answer_left
end_is Comments told number = ap form_at (after_is number)
end_is (Header Kind) told number = refl
end_is (Header Form) told number = refl
end_is (Header Variables) told number = refl
end_is (Header (Clauses n)) told number = refl
end_is (Header Ended) told number = ap (λ after. numbers_answer after told []) (after_is number)
end_is Numbers told number = ap (λ after. numbers_answer after told []) (after_is number)
end_is (Wrong line) told number = refl

-- a wrong text stays wrong
pub wrong_stays : (stage : Stage) (line : ℕ) (told : Tells) (number : ℕ) (text other : List ℕ) → stage ≡ Wrong line →
    answer_left stage told number text ≡ answer_left stage told number other
unfolding answer_left
wrong_stays stage line told number text other is =
    ap (λ s. answer_at s told number (words (line_rest text)) (later_lines text)) is
    ∙ sym (ap (λ s. answer_at s told number (words (line_rest other)) (later_lines other)) is)

pub given_ok : (answer : CnfAnswer) (result : Result Cnf CnfError) → IsGiven answer result →
    IfOk result (λ cnf. answer ≡ is_cnf cnf.variables cnf.clauses)
given_ok answer (Ok cnf) h = h
given_ok answer (Err e) h = tt

-- ---- one place after another

-- one part of a piece after another
pub part_more : (text piece : List ℕ) (done end : ℕ) → done ≤ end →
    (text ++ take done piece) ++ take (end - done) (drop done piece) ≡ text ++ take end piece
part_more text piece done end further =
    let whole : done + (end - done) ≡ end = omega arith in
    append_assoc text (take done piece) (take (end - done) (drop done piece))
    ∙ ap (λ xs. text ++ xs) (sym (take-add done (end - done) piece) ∙ ap (λ n. take n piece) whole)

pub goes_further : (from between to : Rest) → GoesOn from between → GoesOn between to → GoesOn from to
goes_further from between to first second = record { answer = λ told more. first.answer told more ∙ second.answer told more; few = second.few }
