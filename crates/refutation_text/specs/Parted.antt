-- Texts that a line `lrat` parts into a formula and a log.
use Rattle.std.specs.Prelude.{◌≡◌, ℕ, ◌+◌, ◌≤◌, List, take, drop, codes, None}
use Rattle.clause_core.specs.Literals.{Lit}
use Rattle.tsl_text.specs.Places.{IsBetweenFeeds}
use Rattle.refutation_check.specs.declared.steps.Step.{Step}
use Rattle.refutation_check.specs.Checking.{log_refusal}
use Rattle.cnf_reader.specs.CnfText.{cnf_answer, is_cnf}
use Rattle.refutation_check.specs.LogText.{log_answer, is_log}

-- What stands before the first line `lrat` spells the formula, and what stands after that line a log that is not refused.
pub record SpellsRefutation (text : List ℕ) (variables : ℕ) (clauses : List (List Lit)) : Type 0 where
  pub at : ℕ
  pub line : IsBetweenFeeds text (codes "lrat") at
  pub first : (other : ℕ) → IsBetweenFeeds text (codes "lrat") other → at ≤ other
  pub formula : cnf_answer (take at text) ≡ is_cnf variables clauses
  pub steps : List Step
  pub log : log_answer (drop (at + 5) text) ≡ is_log steps
  pub accepted : log_refusal variables clauses steps ≡ None
