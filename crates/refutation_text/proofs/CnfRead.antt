-- A formula that is written is read as itself.
use Rattle.std.proofs.Common.{◌≡◌, ℕ, suc, ◌+◌, ◌-◌, ◌<◌, ◌≤◌, ◌^◌, Bool, true, false, not, cond, leb, ltb, ℤ, pos, negsuc, List, []}
use Rattle.std.proofs.Common.{◌∷◌, ◌++◌, map, filter, flat_map, length, codes, decimal, Option, Some, None, All, refl, sym, ap, ◌∙◌}
use Rattle.std.proofs.Common.{arith, append_assoc, append-nil}
use Rattle.std.specs.Prelude.{nat_abs, count_by}
use Rattle.std.specs.List.{list_all}
use Rattle.std.proofs.lemmas.Bool.{and_parts, and_from, le-leb, lt-ltb}
use Rattle.std.proofs.lemmas.List.Elements.{All-head, All-tail}
use Rattle.std.proofs.lemmas.List.Folds.{list_all-append}
use Rattle.base_library.specs.Options.{passes}
use Rattle.tsl_text.specs.Lines.{NumberedLine, is_line_byte, words, with_numbers, numbered_lines}
use Rattle.tsl_text.specs.Numbers.{number_in, signed_number_in}
use Rattle.tsl_text.specs.Written.{is_line, text_of_lines}
use Rattle.tsl_text.proofs.LineLaws.{lines_made, ended_made}
use Rattle.tsl_text.proofs.FieldLaws.{words_word}
use Rattle.clause_core.specs.Literals.{Lit, signed_number_of, literal_of}
use Rattle.clause_core.specs.Clauses.{IsIncreasing, IsOver, in_order}
use Rattle.clause_core.proofs.Sets.{one_increasing, IsIncreasing-in_order, has-in_order}
use Rattle.cnf_reader.specs.declared.told.Counts.{Counts}
use Rattle.refutation_check.specs.DataLines.{is_comment, data_lines, words_beside}
use Rattle.refutation_check.specs.Numbers.{is_zero}
use Rattle.cnf_reader.specs.CnfText.{cnf_answer, is_cnf, header, counts_of, means, with_zeros, numbers_of}
use Rattle.refutation_check.specs.LogText.{is_literal}
use Rattle.cnf_reader.specs.internal.Told.{ended_clauses}
use Rattle.cnf_reader.proofs.CnfLemmas.{wrong_among, right_here, numbers_more, cnf_is}
use Rattle.refutation_check.proofs.NumberLemmas.{zeros_more}
use Rattle.refutation_text.specs.Written.{literal_word, clause_line, header_line, cnf_text, IsClauseOver, IsWithinLimits}
use Rattle.refutation_text.proofs.Words.{EachMeans, number_is, decimal_means, literal_means, list_words, list_is_line, list_no_comment}
use Rattle.refutation_text.proofs.Words.{word_is_line}

-- ---- lines

-- lines with the numbers from this one on, each with its line feed
abbrev pub ended_lines : ℕ → List (List ℕ) → List NumberedLine
ended_lines number [] = []
ended_lines number (line ∷ rest) = record { number = number; bytes = line; ended = true } ∷ ended_lines (suc number) rest

all_ended : (number : ℕ) (ls : List (List ℕ)) → with_numbers number true ls ≡ ended_lines number ls
all_ended number [] = refl
all_ended number (l ∷ []) = refl
all_ended number (l ∷ m ∷ ls) =
    ap (λ rest. record { number = number; bytes = l; ended = true } ∷ rest) (all_ended (suc number) (m ∷ ls))

-- the lines of a text that is written line by line
pub lines_numbered : (ls : List (List ℕ)) → list_all is_line ls ≡ true → numbered_lines (text_of_lines ls) ≡ ended_lines 1 ls
lines_numbered ls h = (λ i. with_numbers 1 (ended_made ls i) (lines_made ls h i)) ∙ all_ended 1 ls

-- ---- clauses

number_within : (variables : ℕ) (l : Lit) → l.index < variables → leb (nat_abs (signed_number_of l)) variables ≡ true
number_within variables l within = by_sign l.positive
  where
    by_sign : (p : Bool) → leb (nat_abs (cond p (pos (suc l.index)) (negsuc l.index))) variables ≡ true
    by_sign true = le-leb (suc l.index) variables (omega (arith, within))
    by_sign false = le-leb (suc l.index) variables (omega (arith, within))

no_zero : (l : Lit) → is_zero (signed_number_of l) ≡ false
no_zero l = by_sign l.index l.positive
  where
    by_sign : (i : ℕ) (p : Bool) → is_zero (cond p (pos (suc i)) (negsuc i)) ≡ false
    by_sign i true = refl
    by_sign i false = refl

literal_again : (l : Lit) → literal_of (signed_number_of l) ≡ l
literal_again l = by_sign l.index l.positive
  where
    by_sign : (i : ℕ) (p : Bool) → literal_of (cond p (pos (suc i)) (negsuc i)) ≡ record { index = i; positive = p }
    by_sign i true = refl
    by_sign i false = refl

pub literal_is_literal : (l : Lit) → l.index < 2 ^ 31 - 1 → is_literal (signed_number_of l) ≡ true
literal_is_literal l within = by_sign l.positive
  where
    by_sign : (p : Bool) → is_literal (cond p (pos (suc l.index)) (negsuc l.index)) ≡ true
    by_sign true = lt-ltb (suc l.index) 2147483648 (omega (arith, within))
    by_sign false = lt-ltb (suc l.index) 2147483648 (omega (arith, within))

pub in_order_same : (ls : List Lit) → IsIncreasing ls → in_order ls ≡ ls
in_order_same ls up = one_increasing (in_order ls) ls (IsIncreasing-in_order ls) up (has-in_order ls)

-- the literals of a clause are written as words that mean their numbers
pub literals_mean : (variables : ℕ) (clause : List Lit) → variables ≤ 2147483647 → IsOver variables clause →
    EachMeans literal_word signed_number_of clause
literals_mean variables [] few over = tt
literals_mean variables (l ∷ ls) few over = (
  literal_means l (omega (arith, few, All-head (λ (m : Lit). m.index < variables) l ls over)),
  literals_mean variables ls few (All-tail (λ (m : Lit). m.index < variables) l ls over),
)

pub clause_is_line : (variables : ℕ) (clause : List Lit) → variables ≤ 2147483647 → IsOver variables clause → is_line (clause_line clause)
    ≡ true
clause_is_line variables clause few over =
    ap is_line (sym (append-nil (clause_line clause)))
    ∙ list_is_line literal_word signed_number_of clause [] (literals_mean variables clause few over) refl

-- the words of the line of a clause
pub clause_words : (variables : ℕ) (clause : List Lit) → variables ≤ 2147483647 → IsOver variables clause →
    words (clause_line clause) ≡ map literal_word clause ++ codes "0" ∷ []
clause_words variables clause few over =
    ap words (sym (append-nil (clause_line clause)))
    ∙ list_words literal_word signed_number_of clause [] (literals_mean variables clause few over) tt

-- words that stand in a line of this number
abbrev beside : ℕ → List (List ℕ) → List (ℕ × List ℕ)
beside number ws = map (λ word. (number, word)) ws

module _ (counts : Counts) where
  right_word : (passed number : ℕ) (word : List ℕ) (n : ℤ) (rest : List (ℕ × List ℕ)) → passed < counts.clauses →
      signed_number_in word ≡ Some n → leb (nat_abs n) counts.variables ≡ true →
      wrong_among counts (with_zeros passed ((number, word) ∷ rest)) ≡ wrong_among counts (with_zeros (passed + cond (is_zero n) 1 0) rest)
  right_word passed number word n rest left is within =
      right_here counts passed (number, word) rest
      (and_from (ltb passed counts.clauses) (means (λ m. leb (nat_abs m) counts.variables) word) (lt-ltb passed counts.clauses left)
      (ap (passes (λ m. leb (nat_abs m) counts.variables)) is ∙ within))
      ∙ ap (λ o. wrong_among counts (with_zeros (passed + cond (passes is_zero o) 1 0) rest)) is

  right_clause : (passed number : ℕ) (clause : List Lit) (rest : List (ℕ × List ℕ)) → passed < counts.clauses →
      counts.variables ≤ 2147483647 → IsOver counts.variables clause →
      wrong_among counts (with_zeros passed (beside number (map literal_word clause ++ codes "0" ∷ []) ++ rest))
      ≡ wrong_among counts (with_zeros (passed + 1) rest)
  right_clause passed number [] rest left few over = right_word passed number (codes "0") (pos 0) rest left refl
      (le-leb 0 counts.variables (omega arith))
  right_clause passed number (l ∷ ls) rest left few over =
      let here : l.index < counts.variables = All-head (λ (m : Lit). m.index < counts.variables) l ls over in
      let same : passed + 0 ≡ passed = omega arith in
      right_word passed number (literal_word l) (signed_number_of l) (beside number (map literal_word ls ++ codes "0" ∷ []) ++ rest) left
      (literal_means l (omega (arith, few, here))).value (number_within counts.variables l here)
      ∙ (ap (λ b. wrong_among counts (with_zeros (passed + cond b 1 0) (beside number (map literal_word ls ++ codes "0" ∷ []) ++ rest)))
      (no_zero l)
      ∙ (ap (λ k. wrong_among counts (with_zeros k (beside number (map literal_word ls ++ codes "0" ∷ []) ++ rest))) same
      ∙ right_clause passed number ls rest left few (All-tail (λ (m : Lit). m.index < counts.variables) l ls over)))

clause_numbers : (variables number : ℕ) (clause : List Lit) (rest : List (ℕ × List ℕ)) → variables ≤ 2147483647 → IsOver variables clause →
    numbers_of (beside number (map literal_word clause ++ codes "0" ∷ []) ++ rest)
    ≡ map signed_number_of clause ++ pos 0 ∷ numbers_of rest
clause_numbers variables number [] rest few over = refl
clause_numbers variables number (l ∷ ls) rest few over =
    let here : l.index < variables = All-head (λ (m : Lit). m.index < variables) l ls over in
    numbers_more (number, literal_word l) (beside number (map literal_word ls ++ codes "0" ∷ []) ++ rest) (signed_number_of l)
    (literal_means l (omega (arith, few, here))).value
    ∙ ap (λ ns. signed_number_of l ∷ ns)
    (clause_numbers variables number ls rest few (All-tail (λ (m : Lit). m.index < variables) l ls over))

-- the numbers of a clause tell it, behind literals that are told
told_behind : (before clause : List Lit) (rest : List ℤ) →
    ended_clauses before (map signed_number_of clause ++ pos 0 ∷ rest) ≡ in_order (before ++ clause) ∷ ended_clauses [] rest
told_behind before [] rest = ap (λ ls. in_order ls ∷ ended_clauses [] rest) (sym (append-nil before))
told_behind before (l ∷ ls) rest =
    ap (λ b. cond b (in_order before ∷ ended_clauses [] (map signed_number_of ls ++ pos 0 ∷ rest))
    (ended_clauses (before ++ literal_of (signed_number_of l) ∷ []) (map signed_number_of ls ++ pos 0 ∷ rest))) (no_zero l)
    ∙ (ap (λ m. ended_clauses (before ++ m ∷ []) (map signed_number_of ls ++ pos 0 ∷ rest)) (literal_again l)
    ∙ (told_behind (before ++ l ∷ []) ls rest
    ∙ ap (λ ms. in_order ms ∷ ended_clauses [] rest) (append_assoc before (l ∷ []) ls)))

zeros_told : (clause : List Lit) (rest : List ℤ) →
    count_by is_zero (map signed_number_of clause ++ pos 0 ∷ rest) ≡ 1 + count_by is_zero rest
zeros_told [] rest = zeros_more (pos 0) rest
zeros_told (l ∷ ls) rest =
    zeros_more (signed_number_of l) (map signed_number_of ls ++ pos 0 ∷ rest)
    ∙ (ap (λ b. cond b 1 0 + count_by is_zero (map signed_number_of ls ++ pos 0 ∷ rest)) (no_zero l)
    ∙ (let none : 0 + count_by is_zero (map signed_number_of ls ++ pos 0 ∷ rest)
    ≡ count_by is_zero (map signed_number_of ls ++ pos 0 ∷ rest) = omega arith in none ∙ zeros_told ls rest))

-- ---- the lines of clauses

abbrev clause_lines : ℕ → List (List Lit) → List NumberedLine
clause_lines number clauses = ended_lines number (map clause_line clauses)

module _ (variables : ℕ) (few : variables ≤ 2147483647) where
  are_lines : (clauses : List (List Lit)) → All (IsClauseOver variables) clauses → list_all is_line (map clause_line clauses) ≡ true
  are_lines [] all = refl
  are_lines (c ∷ cs) all =
      and_from (is_line (clause_line c)) (list_all is_line (map clause_line cs))
      (clause_is_line variables c few (All-head (IsClauseOver variables) c cs all).over)
      (are_lines cs (All-tail (IsClauseOver variables) c cs all))

  no_comments : (number : ℕ) (clauses : List (List Lit)) → All (IsClauseOver variables) clauses →
      filter (λ line. not (is_comment line.bytes)) (clause_lines number clauses) ≡ clause_lines number clauses
  no_comments number [] all = refl
  no_comments number (c ∷ cs) all =
      let over = (All-head (IsClauseOver variables) c cs all).over in
      let here : is_comment (clause_line c) ≡ false = ap is_comment (sym (append-nil (clause_line c)))
      ∙ list_no_comment literal_word signed_number_of c [] (literals_mean variables c few over) in
      ap (λ b. cond (not b) (record { number = number; bytes = clause_line c; ended = true }
      ∷ filter (λ line. not (is_comment line.bytes)) (clause_lines (suc number) cs))
      (filter (λ line. not (is_comment line.bytes)) (clause_lines (suc number) cs))) here
      ∙ ap (λ rest. record { number = number; bytes = clause_line c; ended = true } ∷ rest)
      (no_comments (suc number) cs (All-tail (IsClauseOver variables) c cs all))

  -- what the words of the lines of clauses tell
  record AreTold (count passed : ℕ) (ws : List (ℕ × List ℕ)) (clauses : List (List Lit)) : Type 0 where
    right : wrong_among (record { variables = variables; clauses = count }) (with_zeros passed ws) ≡ None
    ended : count_by is_zero (numbers_of ws) ≡ length clauses
    told : ended_clauses [] (numbers_of ws) ≡ clauses

  are_told : (count passed number : ℕ) (clauses : List (List Lit)) → passed + length clauses ≤ count → All
      (IsClauseOver variables) clauses →
      AreTold count passed (flat_map words_beside (clause_lines number clauses)) clauses
  are_told count passed number [] within all = record { right = refl; ended = refl; told = refl }
  are_told count passed number (c ∷ cs) within all =
      let clause = All-head (IsClauseOver variables) c cs all in
      let counts : Counts = record { variables = variables; clauses = count } in
      let later = flat_map words_beside (clause_lines (suc number) cs) in
      let rest = are_told count (passed + 1) (suc number) cs (omega (arith, within)) (All-tail (IsClauseOver variables) c cs all) in
      let line : flat_map words_beside (clause_lines number (c ∷ cs)) ≡ beside number (map literal_word c ++ codes "0" ∷ []) ++ later =
      ap (λ ws. beside number ws ++ later) (clause_words variables c few clause.over) in
      let numbers : numbers_of (flat_map words_beside (clause_lines number (c ∷ cs))) ≡ map signed_number_of c ++ pos 0 ∷ numbers_of later =
      ap numbers_of line ∙ clause_numbers variables number c later few clause.over in
      let next : 1 + length cs ≡ length (c ∷ cs) = omega arith in
      record {
        right = ap (λ ws. wrong_among counts (with_zeros passed ws)) line
            ∙ (right_clause counts passed number c later (omega (arith, within)) few clause.over ∙ rest.right);
        ended = ap (count_by is_zero) numbers ∙ (zeros_told c (numbers_of later) ∙ (ap (λ n. 1 + n) rest.ended ∙ next));
        told = ap (ended_clauses []) numbers
            ∙ (told_behind [] c (numbers_of later) ∙ (λ i. in_order_same c clause.increasing i ∷ rest.told i));
      }

-- ---- the header

header_words : (variables count : ℕ) → variables < 10 ^ 18 → count < 10 ^ 18 →
    words (header_line variables count) ≡ codes "p" ∷ codes "cnf" ∷ decimal variables ∷ decimal count ∷ []
header_words variables count v c =
    let variables' = decimal_means variables v in
    let count' = decimal_means count c in
    let line : header_line variables count ≡ codes "p cnf " ++ (decimal variables ++ 32 ∷ decimal count) =
    append_assoc (codes "p cnf " ++ decimal variables) (32 ∷ []) (decimal count) ∙ append_assoc (codes "p cnf ") (decimal variables)
    (32 ∷ decimal count) in
    ap words line
    ∙ ap (λ ws. codes "p" ∷ codes "cnf" ∷ ws)
    (words_word (decimal variables) (32 ∷ decimal count) variables'.some variables'.whole refl
    ∙ ap (λ ws. decimal variables ∷ ws)
    (ap words (sym (append-nil (decimal count))) ∙ words_word (decimal count) [] count'.some count'.whole tt))

header_told : (variables count : ℕ) → variables < 10 ^ 18 → count < 10 ^ 18 →
    Some (record { variables = variables; clauses = count }) ≡ header (words (header_line variables count))
header_told variables count v c =
    sym (ap header (header_words variables count v c)
    ∙ (ap (λ o. counts_of o (number_in' count)) (number_is variables v)
    ∙ ap (counts_of (Some variables)) (number_is count c)))
  where
    number_in' : ℕ → Option ℕ
    number_in' n = number_in (decimal n)

pub header_is_line : (variables count : ℕ) → variables < 10 ^ 18 → count < 10 ^ 18 → is_line (header_line variables count) ≡ true
header_is_line variables count v c =
    let variables' = decimal_means variables v in
    let count' = decimal_means count c in
    list_all-append is_line_byte (codes "p cnf " ++ decimal variables ++ codes " ") (decimal count)
    ∙ and_from (is_line (codes "p cnf " ++ decimal variables ++ codes " ")) (is_line (decimal count))
    (list_all-append is_line_byte (codes "p cnf " ++ decimal variables) (codes " ")
    ∙ and_from (is_line (codes "p cnf " ++ decimal variables)) true
    (list_all-append is_line_byte (codes "p cnf ") (decimal variables) ∙ word_is_line (decimal variables) variables'.whole) refl)
    (word_is_line (decimal count) count'.whole)

-- ---- comments

-- lines that are comments go by
comments_pass : (number : ℕ) (front ls : List (List ℕ)) → list_all is_comment front ≡ true →
    (m : ℕ) × (filter (λ line. not (is_comment line.bytes)) (ended_lines number (front ++ ls))
    ≡ filter (λ line. not (is_comment line.bytes)) (ended_lines m ls))
comments_pass number [] ls h = (number, refl)
comments_pass number (l ∷ front) ls h =
    let parts = and_parts (is_comment l) (list_all is_comment front) h in
    let rest = comments_pass (suc number) front ls parts.1 in (
      rest.0,
      ap (λ b. cond (not b) (record { number = number; bytes = l; ended = true }
          ∷ filter (λ line. not (is_comment line.bytes)) (ended_lines (suc number) (front ++ ls)))
          (filter (λ line. not (is_comment line.bytes)) (ended_lines (suc number) (front ++ ls)))) parts.0
          ∙ rest.1,
    )

-- ---- the whole text

-- the lines of a formula
abbrev pub formula_lines : ℕ → List (List Lit) → List (List ℕ)
formula_lines variables clauses = header_line variables (length clauses) ∷ map clause_line clauses

pub formula_lines_are_lines : (variables : ℕ) (clauses : List (List Lit)) → IsWithinLimits variables clauses →
    list_all is_line (formula_lines variables clauses) ≡ true
formula_lines_are_lines variables clauses h =
    let few : variables ≤ 1048576 = h.few_variables in
    let within : length clauses ≤ 2000000 = h.few_clauses in
    and_from (is_line (header_line variables (length clauses))) (list_all is_line (map clause_line clauses))
    (header_is_line variables (length clauses) (omega (arith, few)) (omega (arith, within)))
    (are_lines variables (omega (arith, few)) clauses h.each)

-- a formula behind comments
pub cnf_is_read_behind : (front : List (List ℕ)) (variables : ℕ) (clauses : List (List Lit)) → list_all is_line front ≡ true →
    list_all is_comment front ≡ true → IsWithinLimits variables clauses →
    cnf_answer (text_of_lines (front ++ formula_lines variables clauses)) ≡ is_cnf variables clauses
cnf_is_read_behind front variables clauses are comments h =
    let few : variables ≤ 1048576 = h.few_variables in
    let within : length clauses ≤ 2000000 = h.few_clauses in
    let all = h.each in
    let v : variables < 10 ^ 18 = omega (arith, few) in
    let c : length clauses < 10 ^ 18 = omega (arith, within) in
    let most : variables ≤ 2147483647 = omega (arith, few) in
    let ls : List (List ℕ) = formula_lines variables clauses in
    let counts : Counts = record { variables = variables; clauses = length clauses } in
    let passed = comments_pass 1 front ls comments in
    let first : NumberedLine = record { number = passed.0; bytes = header_line variables (length clauses); ended = true } in
    let behind = clause_lines (suc passed.0) clauses in
    let told = are_told variables most (length clauses) 0 (suc passed.0) clauses (omega arith) all in
    let begun : data_lines (text_of_lines (front ++ ls)) ≡ first ∷ behind =
    ap (filter (λ (line : NumberedLine). not (is_comment line.bytes)))
    (lines_numbered (front ++ ls) (list_all-append is_line front ls
    ∙ and_from (list_all is_line front) (list_all is_line ls) are (formula_lines_are_lines variables clauses h)))
    ∙ (passed.1 ∙ ap (λ rest. first ∷ rest) (no_comments variables most (suc passed.0) clauses all)) in
    cnf_is (text_of_lines (front ++ ls)) first behind counts
    (length clauses) (flat_map words_beside behind) clauses begun (header_told variables (length clauses) v c) refl told.right
    (sym told.ended)
    (omega arith) few within (sym told.told)

pub cnf_is_read : (variables : ℕ) (clauses : List (List Lit)) → IsWithinLimits variables clauses → cnf_answer (cnf_text variables clauses)
    ≡ is_cnf variables clauses
cnf_is_read variables clauses h = cnf_is_read_behind [] variables clauses refl refl h
