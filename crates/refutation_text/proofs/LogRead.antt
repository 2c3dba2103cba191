-- A log that is written is read as itself.
use Rattle.std.proofs.Common.{◌≡◌, ℕ, suc, ◌-◌, ◌<◌, ◌≤◌, ◌^◌, Bool, true, false, cond, pos, List, []}
use Rattle.std.proofs.Common.{◌∷◌, ◌++◌, map, length, codes, decimal, bytes_eq, Some, None, All, refl, sym, ap, ◌∙◌, arith, append_assoc}
use Rattle.std.proofs.Common.{append-nil}
use Rattle.std.specs.Prelude.{find, filter_map}
use Rattle.std.specs.List.{list_all, cons_option}
use Rattle.std.proofs.lemmas.Bool.{and_from}
use Rattle.std.proofs.lemmas.List.Folds.{list_all-append}
use Rattle.std.proofs.lemmas.List.Elements.{All-head, All-tail, All-nil, All-cons}
use Rattle.base_library.specs.Options.{all_there}
use Rattle.base_library.proofs.Bytes.{same_bytes}
use Rattle.tsl_text.specs.Lines.{is_line_byte, words}
use Rattle.tsl_text.specs.Numbers.{signed_number_in}
use Rattle.tsl_text.specs.Written.{is_line}
use Rattle.tsl_text.proofs.FieldLaws.{words_word}
use Rattle.clause_core.specs.Literals.{Lit, signed_number_of}
use Rattle.clause_core.specs.Clauses.{IsOver}
use Rattle.refutation_check.specs.declared.steps.Step.{Step}
use Rattle.refutation_check.specs.declared.lrat.Line.TheVariants.{Says, NoEffect, Wrong}
use Rattle.refutation_check.specs.DataLines.{is_comment}
use Rattle.refutation_check.specs.LogText.{log_answer, is_log, line_answer, line_of_words, line_of_number, step_of_numbers, is_literal}
use Rattle.refutation_check.specs.LogText.{is_wrong, step_in, log_answer_of_lines, are_deleted}
use Rattle.refutation_check.proofs.LogLemmas.{both_end}
use Rattle.refutation_text.specs.Written.{literal_word, ended_list, clause_line, step_line, log_text, IsReadable}
use Rattle.refutation_text.proofs.Words.{EachMeans, number_is, decimal_means, list_words, list_values, list_is_line, word_is_line}
use Rattle.refutation_text.proofs.Words.{front_no_comment}
use Rattle.refutation_text.proofs.CnfRead.{ended_lines, lines_numbered, literals_mean, in_order_same, literal_is_literal}

-- ---- the words of a step

hints_mean : (hints : List ℕ) → All (λ hint. (1 ≤ hint) × (hint < 10 ^ 18)) hints → EachMeans decimal pos hints
hints_mean [] all = tt
hints_mean (h ∷ hs) all = (
  decimal_means h (All-head (λ (hint : ℕ). (1 ≤ hint) × (hint < 10 ^ 18)) h hs all).1,
  hints_mean hs (All-tail (λ (hint : ℕ). (1 ≤ hint) × (hint < 10 ^ 18)) h hs all),
)

some_hints : (hints : List ℕ) → All (λ hint. (1 ≤ hint) × (hint < 10 ^ 18)) hints → All (λ hint. 0 < hint) hints
some_hints [] all = All-nil (λ (hint : ℕ). 0 < hint)
some_hints (h ∷ hs) all =
    let here = (All-head (λ (hint : ℕ). (1 ≤ hint) × (hint < 10 ^ 18)) h hs all).0 in
    All-cons (λ (hint : ℕ). 0 < hint) h hs (omega (arith, here))
    (some_hints hs (All-tail (λ (hint : ℕ). (1 ≤ hint) × (hint < 10 ^ 18)) h hs all))

are_literals : (ls : List Lit) → IsOver (2 ^ 31 - 1) ls → list_all is_literal (map signed_number_of ls) ≡ true
are_literals [] over = refl
are_literals (l ∷ ls) over =
    and_from (is_literal (signed_number_of l)) (list_all is_literal (map signed_number_of ls))
    (literal_is_literal l (All-head (λ (m : Lit). m.index < 2 ^ 31 - 1) l ls over))
    (are_literals ls (All-tail (λ (m : Lit). m.index < 2 ^ 31 - 1) l ls over))

-- a step's line, its number in front
step_split : (number clause hints : List ℕ) → ((number ++ 32 ∷ []) ++ clause ++ 32 ∷ []) ++ hints ≡ number ++ 32 ∷ (clause ++ 32 ∷ hints)
step_split number clause hints = simp append_assoc refl

abbrev step_words : Step → List (List ℕ)
step_words step = map literal_word step.clause ++ (codes "0" ∷ (map decimal step.hints ++ (codes "0" ∷ [])))

module _ (step : Step) (h : IsReadable step) where
  literals : EachMeans literal_word signed_number_of step.clause
  literals = literals_mean (2 ^ 31 - 1) step.clause (omega arith) h.clause.over

  line_words : words (step_line step) ≡ decimal step.number ∷ step_words step
  line_words =
      let number = decimal_means step.number h.number in
      ap words (step_split (decimal step.number) (clause_line step.clause) (ended_list decimal step.hints))
      ∙ (words_word (decimal step.number)
      (32 ∷ (clause_line step.clause ++ 32 ∷ ended_list decimal step.hints)) number.some number.whole refl
      ∙ ap (λ ws. decimal step.number ∷ ws)
      (list_words literal_word signed_number_of step.clause (32 ∷ ended_list decimal step.hints) literals refl
      ∙ ap (λ ws. map literal_word step.clause ++ (codes "0" ∷ ws))
      (ap words (sym (append-nil (ended_list decimal step.hints)))
      ∙ list_words decimal pos step.hints [] (hints_mean step.hints h.hints) tt)))

  values : all_there (map signed_number_in (step_words step))
      ≡ Some (map signed_number_of step.clause ++ (pos 0 ∷ (map pos step.hints ++ (pos 0 ∷ []))))
  values =
      list_values literal_word signed_number_of step.clause (map decimal step.hints ++ (codes "0" ∷ []))
      (map pos step.hints ++ (pos 0 ∷ []))
      literals (list_values decimal pos step.hints [] [] (hints_mean step.hints h.hints) refl)

  stated : step_of_numbers step.number (all_there (map signed_number_in (step_words step))) ≡ Says step
  stated =
      ap (step_of_numbers step.number) values
      ∙ (both_end step.number step.clause step.hints (are_literals step.clause h.clause.over) (some_hints step.hints h.hints)
      ∙ ap (λ ls. Says (record { number = step.number; clause = ls; hints = step.hints })) (in_order_same step.clause h.clause.increasing))

  -- the first word behind the number is no `d`
  no_deletion : (words' : List (List ℕ)) → all_there (map signed_number_in words') ≡ Some
      (map signed_number_of step.clause ++ (pos 0 ∷ (map pos step.hints ++ (pos 0 ∷ [])))) →
      0 < length words' → line_of_number words' (Some step.number) ≡ step_of_numbers step.number (all_there (map signed_number_in words'))
  no_deletion [] is some = absurd (omega (arith, some))
  no_deletion (w ∷ ws) is some = by_test (bytes_eq w (codes "d")) refl
    where
      by_test : (b : Bool) → bytes_eq w (codes "d") ≡ b →
          cond b (cond (are_deleted ws) NoEffect Wrong) (step_of_numbers step.number (all_there (map signed_number_in (w ∷ ws))))
          ≡ step_of_numbers step.number (all_there (map signed_number_in (w ∷ ws)))
      by_test false e = refl
      by_test true e =
          let never : None ≡ Some (map signed_number_of step.clause ++ (pos 0 ∷ (map pos step.hints ++ (pos 0 ∷ [])))) =
          sym (ap (λ v. all_there (map signed_number_in (v ∷ ws))) (same_bytes w (codes "d") e)) ∙ is in
          absurd cc

  some_words : 0 < length (step_words step)
  some_words = by_clause step.clause
    where
      by_clause : (ls : List Lit) → 0 < length (map literal_word ls ++ (codes "0" ∷ (map decimal step.hints ++ (codes "0" ∷ []))))
      by_clause [] = omega arith
      by_clause (l ∷ ls) = omega arith

  pub line_says : line_answer (step_line step) ≡ Says step
  line_says =
      let number = decimal_means step.number h.number in
      let no_comment : is_comment (step_line step) ≡ false =
      ap is_comment (step_split (decimal step.number) (clause_line step.clause) (ended_list decimal step.hints))
      ∙ front_no_comment (decimal step.number)
      (32 ∷ (clause_line step.clause ++ 32 ∷ ended_list decimal step.hints)) number.some number.begins in
      ap (λ b. cond b NoEffect (line_of_words (words (step_line step)))) no_comment
      ∙ (ap line_of_words line_words
      ∙ (ap (line_of_number (step_words step)) (number_is step.number h.number)
      ∙ (no_deletion (step_words step) values some_words ∙ stated)))

  pub step_is_line : is_line (step_line step) ≡ true
  step_is_line =
      let number = decimal_means step.number h.number in
      ap is_line (step_split (decimal step.number) (clause_line step.clause) (ended_list decimal step.hints))
      ∙ (list_all-append is_line_byte (decimal step.number) (32 ∷ (clause_line step.clause ++ 32 ∷ ended_list decimal step.hints))
      ∙ and_from (is_line (decimal step.number)) (is_line (32 ∷ (clause_line step.clause ++ 32 ∷ ended_list decimal step.hints)))
      (word_is_line (decimal step.number) number.whole)
      (list_is_line literal_word signed_number_of step.clause (32 ∷ ended_list decimal step.hints) literals
      (ap is_line (sym (append-nil (ended_list decimal step.hints)))
      ∙ list_is_line decimal pos step.hints [] (hints_mean step.hints h.hints) refl)))

-- ---- the whole text

steps_are_lines : (steps : List Step) → All IsReadable steps → list_all is_line (map step_line steps) ≡ true
steps_are_lines [] all = refl
steps_are_lines (s ∷ ss) all =
    and_from (is_line (step_line s)) (list_all is_line (map step_line ss)) (step_is_line s (All-head IsReadable s ss all))
    (steps_are_lines ss (All-tail IsReadable s ss all))

none_wrong : (number : ℕ) (steps : List Step) → All IsReadable steps →
    find (λ line. is_wrong (line_answer line.bytes)) (ended_lines number (map step_line steps)) ≡ None
none_wrong number [] all = refl
none_wrong number (s ∷ ss) all =
    ap (λ answer. cond (is_wrong answer) (Some (record { number = number; bytes = step_line s; ended = true }))
    (find (λ line. is_wrong (line_answer line.bytes)) (ended_lines (suc number) (map step_line ss))))
    (line_says s (All-head IsReadable s ss all))
    ∙ none_wrong (suc number) ss (All-tail IsReadable s ss all)

all_said : (number : ℕ) (steps : List Step) → All IsReadable steps →
    filter_map (λ line. step_in (line_answer line.bytes)) (ended_lines number (map step_line steps)) ≡ steps
all_said number [] all = refl
all_said number (s ∷ ss) all =
    ap (λ answer. cons_option (step_in answer)
    (filter_map (λ line. step_in (line_answer line.bytes)) (ended_lines (suc number) (map step_line ss))))
    (line_says s (All-head IsReadable s ss all))
    ∙ ap (λ rest. s ∷ rest) (all_said (suc number) ss (All-tail IsReadable s ss all))

pub log_is_read : (steps : List Step) → All IsReadable steps → log_answer (log_text steps) ≡ is_log steps
log_is_read steps all =
    let ls = ended_lines 1 (map step_line steps) in
    ap (λ ns. log_answer_of_lines ns (find (λ line. is_wrong (line_answer line.bytes)) ns))
    (lines_numbered (map step_line steps) (steps_are_lines steps all))
    ∙ (ap (log_answer_of_lines ls) (none_wrong 1 steps all) ∙ ap is_log (all_said 1 steps all))
