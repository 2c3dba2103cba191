-- The words of a formula's text, one by one.
use Rattle.std.proofs.Common.{◌≡◌, ℕ, suc, ◌+◌, ◌<◌, ◌≤◌, Bool, true, false, not, cond, leb, ltb, ℤ, List, [], ◌∷◌, ◌++◌, map, length}
use Rattle.std.proofs.Common.{take, get_or, Option, Some, None, Contains, sym, ap, ◌∙◌, refl, arith, inl, inr}
use Rattle.std.specs.Prelude.{nat_abs, find, count_by, flat_map}
use Rattle.std.specs.List.{slice_split, onto_first, cons_option}
use Rattle.std.proofs.lemmas.Bool.{and_parts, cond-true, cond-false, ltb-true, cases_Bool}
use Rattle.std.proofs.lemmas.List.{map_push, append-nil, get_or_default}
use Rattle.std.proofs.lemmas.List.Elements.{All-contains}
use Rattle.clause_core.specs.Literals.{Lit, literal_of}
use Rattle.clause_core.specs.Clauses.{IsOver, in_order}
use Rattle.clause_core.proofs.Sets.{has-in_order, has_from_Contains, Contains_from_has}
use Rattle.cnf_reader.specs.declared.told.Counts.{Counts}
use Rattle.tsl_text.specs.Lines.{NumberedLine, lines, words}
use Rattle.refutation_check.specs.DataLines.{words_beside, data_lines}
use Rattle.tsl_text.specs.Numbers.{signed_number_in}
use Rattle.refutation_check.specs.Numbers.{is_zero}
use Rattle.base_library.specs.Options.{passes}
use Rattle.refutation_check.specs.declared.limits.TheConstants.{MOST_VARIABLES, MOST_CLAUSES}
use Rattle.cnf_reader.specs.CnfText.{is_cnf, form_at, too_many_variables, too_many_clauses, header, means, with_zeros, is_right}
use Rattle.cnf_reader.specs.CnfText.{first_wrong, numbers_of, clauses_of_numbers, answer_of_words, answer_of_header}
use Rattle.cnf_reader.specs.CnfText.{cnf_answer_of_lines}
use Rattle.cnf_reader.specs.CnfText.{cnf_answer}
use Rattle.cnf_reader.specs.internal.Told.{ended_clauses}
use Rattle.refutation_check.proofs.NumberLemmas.{onto_front, onto_front-nil, onto_front-first, zeros_more}

abbrev pub wrong_among : Counts → List (ℕ × (ℕ × List ℕ)) → Option (ℕ × (ℕ × List ℕ))
wrong_among counts words = find (λ word. not (is_right counts word)) words

-- ---- right words

pub wrong_here : (counts : Counts) (passed : ℕ) (word : ℕ × List ℕ) (words : List (ℕ × List ℕ)) → is_right counts (passed, word) ≡ false →
    wrong_among counts (with_zeros passed (word ∷ words)) ≡ Some (passed, word)
wrong_here counts passed word words h =
    ap (λ b. cond (not b) (Some (passed, word)) (wrong_among counts (with_zeros (passed + cond (means is_zero word.1) 1 0) words))) h

pub right_here : (counts : Counts) (passed : ℕ) (word : ℕ × List ℕ) (words : List (ℕ × List ℕ)) → is_right counts (passed, word) ≡ true →
    wrong_among counts (with_zeros passed (word ∷ words)) ≡ wrong_among counts (with_zeros (passed + cond (means is_zero word.1) 1 0) words)
right_here counts passed word words h =
    ap (λ b. cond (not b) (Some (passed, word)) (wrong_among counts (with_zeros (passed + cond (means is_zero word.1) 1 0) words))) h

pub numbers_more : (word : ℕ × List ℕ) (words : List (ℕ × List ℕ)) (n : ℤ) → signed_number_in word.1 ≡ Some n →
    numbers_of (word ∷ words) ≡ n ∷ numbers_of words
numbers_more word words n e = ap (λ o. cons_option o (numbers_of words)) e

pub ended_more : (word : ℕ × List ℕ) (words : List (ℕ × List ℕ)) →
    count_by is_zero (numbers_of (word ∷ words)) ≡ cond (means is_zero word.1) 1 0 + count_by is_zero (numbers_of words)
ended_more word words = by_number (signed_number_in word.1)
  where
    by_number : (o : Option ℤ) →
        count_by is_zero (cons_option o (numbers_of words)) ≡ cond (passes is_zero o) 1 0 + count_by is_zero (numbers_of words)
    by_number None = omega arith
    by_number (Some n) = zeros_more n (numbers_of words)

-- what right words show: a clause is left for the first, and the others are right
record StartsRight (counts : Counts) (passed : ℕ) (word : ℕ × List ℕ) (words : List (ℕ × List ℕ)) : Type 0 where
  left : passed < counts.clauses
  rest : wrong_among counts (with_zeros (passed + cond (means is_zero word.1) 1 0) words) ≡ None

starts_right : (counts : Counts) (passed : ℕ) (word : ℕ × List ℕ) (words : List (ℕ × List ℕ)) →
    wrong_among counts (with_zeros passed (word ∷ words)) ≡ None → StartsRight counts passed word words
starts_right counts passed word words h = by_test (is_right counts (passed, word)) refl h
  where
    by_test : (b : Bool) → is_right counts (passed, word) ≡ b →
        cond (not b) (Some (passed, word)) (wrong_among counts (with_zeros (passed + cond (means is_zero word.1) 1 0) words)) ≡ None →
        StartsRight counts passed word words
    by_test false e k = absurd cc
    by_test true e k =
        let parts = and_parts (ltb passed counts.clauses) (means (λ n. leb (nat_abs n) counts.variables) word.1) e in
        record { left = ltb-true passed counts.clauses parts.0; rest = sym (right_here counts passed word words e) ∙ h }

-- right words end no more clauses than there are
pub few_ended : (counts : Counts) (words : List (ℕ × List ℕ)) (passed : ℕ) → wrong_among counts (with_zeros passed words) ≡ None →
    passed ≤ counts.clauses → passed + count_by is_zero (numbers_of words) ≤ counts.clauses
few_ended counts [] passed h within = omega arith
few_ended counts (word ∷ words) passed h within =
    let r = starts_right counts passed word words h in
    let rest = few_ended counts words (passed + cond (means is_zero word.1) 1 0) r.rest (one_more (means is_zero word.1) r.left) in
    omega (arith, rest, ended_more word words)
  where
    one_more : (b : Bool) → passed < counts.clauses → passed + cond b 1 0 ≤ counts.clauses
    one_more true left = omega arith
    one_more false left = omega arith

-- ---- clauses

pub over_in_order : (variables : ℕ) (literals : List Lit) → IsOver variables literals → IsOver variables (in_order literals)
over_in_order variables literals over k d within =
    let l = get_or (in_order literals) k d in
    let here : Contains (in_order literals) l = (k, within, get_or_default (in_order literals) k l d within) in
    All-contains (λ m. m.index < variables) literals l over (Contains_from_has literals l (sym (has-in_order literals l)
    ∙ has_from_Contains (in_order literals) l here))

-- a zero ends a clause
pub ended_zero : (literals : List Lit) (n : ℤ) (ns : List ℤ) → is_zero n ≡ true →
    ended_clauses literals (n ∷ ns) ≡ in_order literals ∷ ended_clauses [] ns
ended_zero literals n ns h =
    cond-true (is_zero n) (in_order literals ∷ ended_clauses [] ns) (ended_clauses (literals ++ literal_of n ∷ []) ns) h

abbrev clauses_in : List (List ℤ) → List (List Lit)
clauses_in parts = map (λ part. in_order (map literal_of part)) parts

ended_step : (n : ℤ) (ns now : List ℤ) → ended_clauses [] ns ≡ clauses_in (take (count_by is_zero ns) (slice_split is_zero ns)) →
    ended_clauses (map literal_of (now ++ n ∷ [])) ns
    ≡ clauses_in (take (count_by is_zero ns) (onto_front (now ++ n ∷ []) (slice_split is_zero ns))) →
    ended_clauses (map literal_of now) (n ∷ ns)
    ≡ clauses_in (take (count_by is_zero (n ∷ ns)) (onto_front now (slice_split is_zero (n ∷ ns))))
ended_step n ns now rest more = by_test (is_zero n) refl
  where
    counted : (b : Bool) → is_zero n ≡ b → count_by is_zero (n ∷ ns) ≡ cond b 1 0 + count_by is_zero ns
    counted b e = zeros_more n ns ∙ ap (λ t. cond t 1 0 + count_by is_zero ns) e

    by_test : (b : Bool) → is_zero n ≡ b →
        cond b (in_order (map literal_of now) ∷ ended_clauses [] ns) (ended_clauses (map literal_of now ++ literal_of n ∷ []) ns)
        ≡ clauses_in (take (count_by is_zero (n ∷ ns))
        (onto_front now (cond b ([] ∷ slice_split is_zero ns) (onto_first n (slice_split is_zero ns)))))
    by_test true e =
        let k : count_by is_zero (n ∷ ns) ≡ suc (count_by is_zero ns) = counted true e
        ∙ (let s : 1 + count_by is_zero ns ≡ suc (count_by is_zero ns) = omega arith in s) in
        ap (λ cs. in_order (map literal_of now) ∷ cs) rest
        ∙ sym (ap (λ m. clauses_in (take m ((now ++ []) ∷ slice_split is_zero ns))) k
        ∙ ap (λ p. in_order (map literal_of p) ∷ clauses_in (take (count_by is_zero ns) (slice_split is_zero ns))) (append-nil now))
    by_test false e =
        let k : count_by is_zero (n ∷ ns) ≡ count_by is_zero ns = omega (arith, counted false e) in
        ap (λ ls. ended_clauses ls ns) (sym (map_push literal_of now n)) ∙ (more
        ∙ sym (ap (λ m. clauses_in (take m (onto_front now (onto_first n (slice_split is_zero ns))))) k
        ∙ ap (λ parts. clauses_in (take (count_by is_zero ns) parts)) (onto_front-first now n (slice_split is_zero ns))))

ended_are : (ns now : List ℤ) →
    ended_clauses (map literal_of now) ns ≡ clauses_in (take (count_by is_zero ns) (onto_front now (slice_split is_zero ns)))
ended_are [] now = refl
ended_are (n ∷ ns) now =
    ended_step n ns now (ended_are ns []
    ∙ ap (λ parts. clauses_in (take (count_by is_zero ns) parts)) (onto_front-nil ns)) (ended_are ns (now ++ n ∷ []))

pub clauses_are : (count : ℕ) (ns : List ℤ) → count ≡ count_by is_zero ns → clauses_of_numbers count ns ≡ ended_clauses [] ns
clauses_are count ns e =
    ap (λ m. clauses_in (take m (slice_split is_zero ns))) e
    ∙ sym (ended_are ns [] ∙ ap (λ parts. clauses_in (take (count_by is_zero ns) parts)) (onto_front-nil ns))

-- ---- the whole text

pub cnf_is : (text : List ℕ) (line : NumberedLine) (behind : List NumberedLine) (counts : Counts) (ended : ℕ) (words' : List (ℕ × List ℕ))
    (clauses : List (List Lit)) → data_lines text ≡ line ∷ behind → Some counts ≡ header (words line.bytes) →
    words' ≡ flat_map words_beside behind → first_wrong counts words' ≡ None → ended ≡ count_by is_zero (numbers_of words') →
    counts.clauses ≤ ended → counts.variables ≤ MOST_VARIABLES → counts.clauses ≤ MOST_CLAUSES →
    clauses ≡ ended_clauses [] (numbers_of words') →
    cnf_answer text ≡ is_cnf counts.variables clauses
cnf_is text line behind counts ended words' clauses first head same right passed all variables few is =
    ap (cnf_answer_of_lines after) first
    ∙ (ap (answer_of_header after line.number (flat_map words_beside behind)) (sym head)
    ∙ (ap (λ ws. answer_of_words after counts ws (first_wrong counts ws)) (sym same)
    ∙ (ap (answer_of_words after counts words') right
    ∙ (cond-false (ltb (count_by is_zero ns) counts.clauses) (form_at after)
    (cond (ltb MOST_VARIABLES counts.variables) too_many_variables
    (cond (ltb MOST_CLAUSES counts.clauses) too_many_clauses (is_cnf counts.variables (clauses_of_numbers counts.clauses ns))))
    (not_below (count_by is_zero ns) counts.clauses (omega (arith, all, passed)))
    ∙ (cond-false (ltb MOST_VARIABLES counts.variables) too_many_variables
    (cond (ltb MOST_CLAUSES counts.clauses) too_many_clauses (is_cnf counts.variables (clauses_of_numbers counts.clauses ns)))
    (not_below MOST_VARIABLES counts.variables variables)
    ∙ (cond-false (ltb MOST_CLAUSES counts.clauses) too_many_clauses (is_cnf counts.variables (clauses_of_numbers counts.clauses ns))
    (not_below MOST_CLAUSES counts.clauses few)
    ∙ ap (is_cnf counts.variables) (clauses_are counts.clauses ns exact ∙ sym is)))))))
  where
    after : ℕ
    after = suc (length (lines text))

    ns : List ℤ
    ns = numbers_of words'

    exact : counts.clauses ≡ count_by is_zero ns
    exact = omega (arith, all, passed, few_ended counts words' 0 right (omega arith))

    not_below : (a b : ℕ) → b ≤ a → ltb a b ≡ false
    not_below a b h = elim (cases_Bool (ltb a b)) [ inl e ↦ absurd (omega (arith, ltb-true a b e, h)) | inr e ↦ e ]
