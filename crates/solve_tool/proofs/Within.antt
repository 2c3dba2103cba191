-- The formula that a text tells is within the limits.
use Rattle.std.proofs.Common.{◌≡◌, ℕ, suc, ◌≤◌, Bool, true, false, cond, ltb, ℤ, List, [], ◌∷◌, map, take, length, Option, Some, None, ap, refl, arith}
use Rattle.std.specs.Prelude.{count_by, flat_map}
use Rattle.std.specs.List.{slice_split}
use Rattle.std.proofs.lemmas.Bool.{ltb-false}
use Rattle.std.proofs.lemmas.List.{length-map, length-take}
use Rattle.clause_core.specs.Literals.{Lit, literal_of}
use Rattle.clause_core.specs.Clauses.{in_order}
use Rattle.tsl_text.specs.Lines.{NumberedLine, lines, words}
use Rattle.refutation_check.specs.Numbers.{is_zero}
use Rattle.refutation_check.specs.DataLines.{data_lines, words_beside}
use Rattle.refutation_check.specs.declared.limits.TheConstants.{MOST_VARIABLES, MOST_CLAUSES}
use Rattle.cnf_reader.specs.declared.told.Counts.{Counts}
use Rattle.cnf_reader.specs.CnfText.{is_cnf, form_at, too_many_variables, too_many_clauses, header, first_wrong, numbers_of, clauses_of_numbers}
use Rattle.cnf_reader.specs.CnfText.{answer_of_numbers, answer_of_words, answer_of_header, cnf_answer_of_lines, cnf_answer}

module _ (variables : ℕ) (clauses : List (List Lit)) (after : ℕ) where
  of_numbers : (counts : Counts) (ns : List ℤ) → answer_of_numbers after counts ns ≡ is_cnf variables clauses →
      (variables ≤ MOST_VARIABLES) × (length clauses ≤ MOST_CLAUSES)
  of_numbers counts ns =
      by_tests (ltb (count_by is_zero ns) counts.clauses) (ltb MOST_VARIABLES counts.variables) (ltb MOST_CLAUSES counts.clauses) refl refl
    where
      by_tests : (s t u : Bool) → ltb MOST_VARIABLES counts.variables ≡ t → ltb MOST_CLAUSES counts.clauses ≡ u →
          cond s (form_at after) (cond t too_many_variables (cond u too_many_clauses
          (is_cnf counts.variables (clauses_of_numbers counts.clauses ns)))) ≡ is_cnf variables clauses →
          (variables ≤ MOST_VARIABLES) × (length clauses ≤ MOST_CLAUSES)
      by_tests true t u v c is = absurd (cc)
      by_tests false true u v c is = absurd (cc)
      by_tests false false true v c is = absurd (cc)
      by_tests false false false v c is =
          let same : counts.variables ≡ variables = cc in
          let all : clauses_of_numbers counts.clauses ns ≡ clauses = cc in
          let parts = take counts.clauses (slice_split is_zero ns) in (
            omega (arith, same, ltb-false MOST_VARIABLES counts.variables v),
            omega (
              arith,
              ap length all,
              length-map parts (λ part. in_order (map literal_of part)),
              length-take counts.clauses (slice_split is_zero ns),
              ltb-false MOST_CLAUSES counts.clauses c,
            ),
          )

  of_words : (counts : Counts) (behind : List (ℕ × List ℕ)) (wrong : Option (ℕ × (ℕ × List ℕ))) →
      answer_of_words after counts behind wrong ≡ is_cnf variables clauses → (variables ≤ MOST_VARIABLES) × (length clauses ≤ MOST_CLAUSES)
  of_words counts behind (Some wrong) is = absurd (cc)
  of_words counts behind None is = of_numbers counts (numbers_of behind) is

  of_header : (line : ℕ) (behind : List (ℕ × List ℕ)) (counts : Option Counts) →
      answer_of_header after line behind counts ≡ is_cnf variables clauses → (variables ≤ MOST_VARIABLES) × (length clauses ≤ MOST_CLAUSES)
  of_header line behind None is = absurd (cc)
  of_header line behind (Some counts) is = of_words counts behind (first_wrong counts behind) is

  of_lines : (ls : List NumberedLine) → cnf_answer_of_lines after ls ≡ is_cnf variables clauses →
      (variables ≤ MOST_VARIABLES) × (length clauses ≤ MOST_CLAUSES)
  of_lines [] is = absurd (cc)
  of_lines (line ∷ rest) is = of_header line.number (flat_map words_beside rest) (header (words line.bytes)) is

-- few variables, and few clauses
pub within_limits : (text : List ℕ) (variables : ℕ) (clauses : List (List Lit)) → cnf_answer text ≡ is_cnf variables clauses →
    (variables ≤ MOST_VARIABLES) × (length clauses ≤ MOST_CLAUSES)
within_limits text variables clauses is = of_lines variables clauses (suc (length (lines text))) (data_lines text) is
