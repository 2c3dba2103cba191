-- What words and the ends of lines change in what a text is.
use Rattle.std.proofs.Common.{◌≡◌, ℕ, suc, ◌+◌, ◌<◌, Bool, true, false, cond, eqb, leb, ltb, ◌&&◌, ℤ, pos, List, [], ◌∷◌, ◌++◌, map, length}
use Rattle.std.proofs.Common.{Option, Some, None, inl, inr, sym, ap, ◌∙◌, refl, arith}
use Rattle.std.specs.Prelude.{nat_abs, count_by, flat_map, codes, bytes_eq, option_map, option_and_then}
use Rattle.std.specs.Option.{option_map_or}
use Rattle.std.proofs.lemmas.Bool.{ltb-false, leb-true, cases_Bool}
use Rattle.base_library.specs.Options.{passes}
use Rattle.base_library.proofs.Bytes.{same_bytes}
use Rattle.clause_core.specs.Literals.{Lit}
use Rattle.tsl_text.specs.Lines.{NumberedLine, lines, words}
use Rattle.tsl_text.specs.Numbers.{is_digits, value_of, number_in, opposite, signed_number_in}
use Rattle.refutation_check.specs.DataLines.{words_beside, data_lines}
use Rattle.refutation_check.specs.Numbers.{is_zero}
use Rattle.refutation_check.proofs.NumberLemmas.{zeros_more}
use Rattle.refutation_check.specs.declared.limits.TheConstants.{MOST_VARIABLES, MOST_CLAUSES}
use Rattle.cnf_reader.specs.declared.told.Counts.{Counts}
use Rattle.cnf_reader.specs.declared.stages.Heading.{Heading}
use Rattle.cnf_reader.specs.declared.stages.Heading.TheVariants.{Kind, Form, Variables, Clauses, Ended}
use Rattle.cnf_reader.specs.declared.stages.Stage.TheVariants.{Comments, Header, Numbers, Wrong}
use Rattle.cnf_reader.specs.CnfText.{CnfAnswer, is_cnf, form_at, too_many_variables, too_many_clauses, header, counts_of, means, with_zeros, is_right}
use Rattle.cnf_reader.specs.CnfText.{first_wrong, numbers_of, clauses_of_numbers, answer_of_words, answer_of_numbers, answer_of_header, cnf_answer_of_lines, cnf_answer}
use Rattle.cnf_reader.specs.internal.Told.{Tells, fresh, AreWithinLimits, ended_clauses}
use Rattle.cnf_reader.specs.internal.Stages.{header_stage, header_tells}
use Rattle.cnf_reader.specs.internal.RestOfText.{words_from}
use Rattle.cnf_reader.specs.internal.Reading.{numbers_answer, checked_answer, words_answer, behind_form, behind_kind, counts_behind, counted_answer}
use Rattle.cnf_reader.specs.internal.Reading.{lines_answer, answer_at, answer_left}
use Rattle.cnf_reader.proofs.CnfLemmas.{wrong_among, wrong_here, right_here, numbers_more, few_ended, clauses_are}

-- ---- words of the header

abbrev no_counts : Option Counts
no_counts = None

nothing : (p q : Bool) → cond p (cond q no_counts no_counts) no_counts ≡ no_counts
nothing true true = refl
nothing true false = refl
nothing false q = refl

header_kind : (word : List ℕ) (words : List (List ℕ)) → header (word ∷ words) ≡ cond (bytes_eq word (codes "p")) (behind_kind words) None
header_kind word [] = by_test (bytes_eq word (codes "p"))
  where
    by_test : (p : Bool) → no_counts ≡ cond p no_counts no_counts
    by_test true = refl
    by_test false = refl
header_kind word (a ∷ []) = sym (nothing (bytes_eq word (codes "p")) (bytes_eq a (codes "cnf")))
header_kind word (a ∷ v ∷ []) = by_tests (bytes_eq word (codes "p")) (bytes_eq a (codes "cnf")) (number_in v)
  where
    by_tests : (p q : Bool) (o : Option ℕ) → no_counts ≡ cond p (cond q (option_and_then (λ n. counts_behind n []) o) None) None
    by_tests true true None = refl
    by_tests true true (Some n) = refl
    by_tests true false o = refl
    by_tests false q o = refl
header_kind word (a ∷ v ∷ c ∷ []) = by_tests (bytes_eq word (codes "p")) (bytes_eq a (codes "cnf")) (number_in v) (number_in c)
  where
    by_tests : (p q : Bool) (o u : Option ℕ) → cond (p && q) (counts_of o u) None
        ≡ cond p (cond q (option_and_then (λ n. option_and_then (λ m. Some (record { variables = n; clauses = m })) u) o) None) None
    by_tests true true None u = refl
    by_tests true true (Some n) None = refl
    by_tests true true (Some n) (Some m) = refl
    by_tests true false o u = refl
    by_tests false q o u = refl
header_kind word (a ∷ v ∷ c ∷ d ∷ ds) = by_tests (bytes_eq word (codes "p")) (bytes_eq a (codes "cnf")) (number_in v)
  where
    by_tests : (p q : Bool) (o : Option ℕ) → no_counts ≡ cond p (cond q (option_and_then (λ n. counts_behind n (c ∷ d ∷ ds)) o) None) None
    by_tests true true None = refl
    by_tests true true (Some n) = refl
    by_tests true false o = refl
    by_tests false q o = refl

-- a word of the header
pub header_step : (heading : Heading) (told : Tells) (number : ℕ) (word : List ℕ) (words : List (List ℕ)) (later : List ℕ) →
    answer_at (Header heading) told number (word ∷ words) later
    ≡ answer_at (header_stage heading number word) (header_tells heading told word) number words later
header_step Kind told number word words later =
    ap (counted_answer after number behind) (header_kind word words) ∙ by_test (bytes_eq word (codes "p"))
  where
    after : ℕ
    after = suc (number + length (lines later))

    behind : List (ℕ × List ℕ)
    behind = words_from (number + 1) later

    by_test : (t : Bool) → counted_answer after number behind (cond t (behind_kind words) None)
        ≡ answer_at (cond t (Header Form) (Wrong number)) told number words later
    by_test true = refl
    by_test false = refl
header_step Form told number word words later = by_test (bytes_eq word (codes "cnf"))
  where
    by_test : (t : Bool) →
        counted_answer (suc (number + length (lines later))) number (words_from (number + 1) later) (cond t (behind_form words) None)
        ≡ answer_at (cond t (Header Variables) (Wrong number)) told number words later
    by_test true = refl
    by_test false = refl
header_step Variables told number word words later = by_number (number_in word)
  where
    by_number : (o : Option ℕ) →
        counted_answer (suc (number + length (lines later))) number (words_from (number + 1) later)
        (option_and_then (λ variables. counts_behind variables words) o)
        ≡ answer_at (option_map_or (λ variables. Header (Clauses variables)) o (Wrong number)) told number words later
    by_number None = refl
    by_number (Some n) = refl
header_step (Clauses variables) told number word [] later = by_number (number_in word)
  where
    by_number : (o : Option ℕ) →
        counted_answer (suc (number + length (lines later))) number (words_from (number + 1) later)
        (option_and_then (λ clauses. Some (record { variables = variables; clauses = clauses })) o)
        ≡ answer_at (option_map_or (λ clauses. Header Ended) o (Wrong number))
        (option_map_or (λ clauses. fresh (record { variables = variables; clauses = clauses })) o told) number [] later
    by_number None = refl
    by_number (Some n) = refl
header_step (Clauses variables) told number word (next ∷ words) later = by_number (number_in word)
  where
    by_number : (o : Option ℕ) → form_at number
        ≡ answer_at (option_map_or (λ clauses. Header Ended) o (Wrong number))
        (option_map_or (λ clauses. fresh (record { variables = variables; clauses = clauses })) o told) number (next ∷ words) later
    by_number None = refl
    by_number (Some n) = refl
header_step Ended told number word words later = refl

-- ---- words behind the header

cond_same : {A : Type 0} (t : Bool) (a x y : A) → (t ≡ false → x ≡ y) → cond t a x ≡ cond t a y
cond_same true a x y h = refl
cond_same false a x y h = h refl

-- the limits of the counts, which go before the clauses
limited : Counts → List (List Lit) → CnfAnswer
limited counts clauses =
    cond (ltb MOST_VARIABLES counts.variables) too_many_variables
    (cond (ltb MOST_CLAUSES counts.clauses) too_many_clauses (is_cnf counts.variables clauses))

limited_same : (counts : Counts) (xs ys : List (List Lit)) → (AreWithinLimits counts → xs ≡ ys) → limited counts xs ≡ limited counts ys
unfolding limited
limited_same counts xs ys h =
    cond_same (ltb MOST_VARIABLES counts.variables) too_many_variables _ _ (λ v.
    cond_same (ltb MOST_CLAUSES counts.clauses) too_many_clauses _ _ (λ c.
    ap (is_cnf counts.variables) (h (ltb-false MOST_VARIABLES counts.variables v, ltb-false MOST_CLAUSES counts.clauses c))))

-- a wrong word
pub number_wrong : (told : Tells) (number : ℕ) (word : List ℕ) (words : List (List ℕ)) (later : List ℕ) →
    is_right told.counts (told.ended, (number, word)) ≡ false → answer_at Numbers told number (word ∷ words) later ≡ form_at number
number_wrong told number word words later wrong =
    let rest = map (λ word. (number, word)) words ++ words_from (number + 1) later in
    ap (checked_answer (suc (number + length (lines later))) told ((number, word) ∷ rest))
    (wrong_here told.counts told.ended (number, word) rest wrong)

-- what is told after a number is what was told before it with this number
pub record TellsMore (told new : Tells) (n : ℤ) : Type 0 where
  pub counts : new.counts ≡ told.counts
  pub ended : new.ended ≡ told.ended + cond (is_zero n) 1 0
  pub clauses : AreWithinLimits told.counts → (ns : List ℤ) →
      new.clauses ++ ended_clauses new.literals ns ≡ told.clauses ++ ended_clauses told.literals (n ∷ ns)

numbers_same : (after : ℕ) (told new : Tells) (n : ℤ) (ns : List ℤ) → TellsMore told new n →
    numbers_answer after told (n ∷ ns) ≡ numbers_answer after new ns
unfolding limited
numbers_same after told new n ns more =
    let zeros : told.ended + count_by is_zero (n ∷ ns) ≡ new.ended + count_by is_zero ns = omega (arith, zeros_more n ns, more.ended) in
    ap (λ k. cond (ltb k told.counts.clauses) (form_at after) (limited told.counts (told.clauses ++ ended_clauses told.literals (n ∷ ns)))) zeros
    ∙ (ap (λ (l : CnfAnswer). cond (ltb (new.ended + count_by is_zero ns) told.counts.clauses) (form_at after) l)
    (limited_same told.counts (told.clauses ++ ended_clauses told.literals (n ∷ ns)) (new.clauses ++ ended_clauses new.literals ns)
    (λ within. sym (more.clauses within ns)))
    ∙ ap (λ (counts : Counts). cond (ltb (new.ended + count_by is_zero ns) counts.clauses) (form_at after)
    (limited counts (new.clauses ++ ended_clauses new.literals ns))) (sym more.counts))

words_same : (after : ℕ) (told new : Tells) (word : ℕ × List ℕ) (words : List (ℕ × List ℕ)) (n : ℤ) → TellsMore told new n →
    signed_number_in word.1 ≡ Some n → is_right told.counts (told.ended, word) ≡ true →
    words_answer after told (word ∷ words) ≡ words_answer after new words
words_same after told new word words n more is right =
    ap (checked_answer after told (word ∷ words)) same ∙ by_wrong (wrong_among new.counts (with_zeros new.ended words))
  where
    ended : told.ended + cond (means is_zero word.1) 1 0 ≡ new.ended
    ended = ap (λ o. told.ended + cond (passes is_zero o) 1 0) is ∙ sym more.ended

    same : wrong_among told.counts (with_zeros told.ended (word ∷ words)) ≡ wrong_among new.counts (with_zeros new.ended words)
    same = right_here told.counts told.ended word words right ∙ (λ i. wrong_among (sym more.counts i) (with_zeros (ended i) words))

    by_wrong : (o : Option (ℕ × (ℕ × List ℕ))) → checked_answer after told (word ∷ words) o ≡ checked_answer after new words o
    by_wrong (Some wrong) = refl
    by_wrong None = ap (numbers_answer after told) (numbers_more word words n is)
        ∙ numbers_same after told new n (numbers_of words) more

-- a right word
pub number_right : (told new : Tells) (number : ℕ) (word : List ℕ) (n : ℤ) (words : List (List ℕ)) (later : List ℕ) → TellsMore told new n →
    signed_number_in word ≡ Some n → is_right told.counts (told.ended, (number, word)) ≡ true →
    answer_at Numbers told number (word ∷ words) later ≡ answer_at Numbers new number words later
number_right told new number word n words later more is right =
    words_same (suc (number + length (lines later))) told new (number, word)
    (map (λ word. (number, word)) words ++ words_from (number + 1) later) n more is right

-- ---- the beginning of a text

numbers_first : (after : ℕ) (counts : Counts) (words' : List (ℕ × List ℕ)) → first_wrong counts words' ≡ None →
    answer_of_numbers after counts (numbers_of words') ≡ numbers_answer after (fresh counts) (numbers_of words')
unfolding limited
numbers_first after counts words' right =
    let ns = numbers_of words' in
    let few = few_ended counts words' 0 right (omega arith) in
    let zero : count_by is_zero ns ≡ 0 + count_by is_zero ns = omega arith in
    cond_same (ltb (count_by is_zero ns) counts.clauses) (form_at after) (limited counts (clauses_of_numbers counts.clauses ns))
    (limited counts (ended_clauses [] ns)) (λ all.
    let exact : counts.clauses ≡ count_by is_zero ns = omega (arith, few, ltb-false (count_by is_zero ns) counts.clauses all) in
    ap (limited counts) (clauses_are counts.clauses ns exact))
    ∙ ap (λ k. cond (ltb k counts.clauses) (form_at after) (limited counts (ended_clauses [] ns))) zero

lines_first : (after : ℕ) (ls : List NumberedLine) → cnf_answer_of_lines after ls ≡ lines_answer after ls
lines_first after [] = refl
lines_first after (line ∷ rest) = by_header (header (words line.bytes))
  where
    behind : List (ℕ × List ℕ)
    behind = flat_map words_beside rest

    by_wrong : (counts : Counts) (o : Option (ℕ × (ℕ × List ℕ))) → first_wrong counts behind ≡ o →
        answer_of_words after counts behind o ≡ checked_answer after (fresh counts) behind o
    by_wrong counts (Some wrong) e = refl
    by_wrong counts None e = numbers_first after counts behind e

    by_header : (o : Option Counts) → answer_of_header after line.number behind o ≡ counted_answer after line.number behind o
    by_header None = refl
    by_header (Some counts) = by_wrong counts (first_wrong counts behind) refl

-- a text that follows a line feed in line 0
pub whole_text : (told : Tells) (text : List ℕ) → cnf_answer text ≡ answer_left Comments told 0 (10 ∷ text)
unfolding answer_left
whole_text told text =
    let after : suc (length (lines text)) ≡ suc (0 + length (lines text)) = omega arith in
    lines_first (suc (length (lines text))) (data_lines text) ∙ ap (λ k. lines_answer k (data_lines text)) after

-- ---- long words

long_number : (word : List ℕ) → 18 < length word → number_in word ≡ None
long_number word long = by_test (is_digits word) (leb (length word) 18) refl
  where
    by_test : (d t : Bool) → leb (length word) 18 ≡ t → cond (d && t) (Some (value_of word)) None ≡ None
    by_test true true e = absurd (omega (arith, leb-true (length word) 18 e, long))
    by_test true false e = refl
    by_test false t e = refl

long_signed : (word : List ℕ) → 19 < length word → signed_number_in word ≡ None
long_signed [] long = refl
long_signed (b ∷ bs) long =
    by_test (eqb b 45) (long_number bs (omega arith)) (long_number (b ∷ bs) (omega arith))
  where
    by_test : (t : Bool) → number_in bs ≡ None → number_in (b ∷ bs) ≡ None →
        cond t (option_and_then opposite (number_in bs)) (option_map pos (number_in (b ∷ bs))) ≡ None
    by_test true e f = ap (option_and_then opposite) e
    by_test false e f = ap (option_map pos) f

other_bytes : (word other : List ℕ) → length other < length word → bytes_eq word other ≡ false
other_bytes word other longer =
    elim (cases_Bool (bytes_eq word other)) [ inl e ↦ absurd (omega (arith, ap length (same_bytes word other e), longer)) | inr e ↦ e ]

long_in_header : (heading : Heading) (number : ℕ) (word : List ℕ) → 19 < length word → header_stage heading number word ≡ Wrong number
long_in_header Kind number word long = ap (λ t. cond t (Header Form) (Wrong number)) (other_bytes word (codes "p") (omega arith))
long_in_header Form number word long = ap (λ t. cond t (Header Variables) (Wrong number)) (other_bytes word (codes "cnf") (omega arith))
long_in_header Variables number word long =
    ap (λ o. option_map_or (λ variables. Header (Clauses variables)) o (Wrong number)) (long_number word (omega arith))
long_in_header (Clauses variables) number word long =
    ap (λ o. option_map_or (λ clauses. Header Ended) o (Wrong number)) (long_number word (omega arith))
long_in_header Ended number word long = refl

-- a word of the header that is longer than any right word
pub header_long : (heading : Heading) (told : Tells) (number : ℕ) (word : List ℕ) (words : List (List ℕ)) (later : List ℕ) →
    19 < length word → answer_at (Header heading) told number (word ∷ words) later ≡ form_at number
header_long heading told number word words later long =
    header_step heading told number word words later
    ∙ ap (λ stage. answer_at stage (header_tells heading told word) number words later) (long_in_header heading number word long)

-- and one behind the header
pub number_long : (told : Tells) (number : ℕ) (word : List ℕ) (words : List (List ℕ)) (later : List ℕ) → 19 < length word →
    answer_at Numbers told number (word ∷ words) later ≡ form_at number
number_long told number word words later long =
    number_wrong told number word words later (by_test (ltb told.ended told.counts.clauses) (long_signed word long))
  where
    by_test : (t : Bool) → signed_number_in word ≡ None → (t && means (λ n. leb (nat_abs n) told.counts.variables) word) ≡ false
    by_test true e = ap (passes (λ n. leb (nat_abs n) told.counts.variables)) e
    by_test false e = refl
