-- How a formula in conjunctive normal form and a log are written: one clause and one step a line.
use Rattle.std.specs.Prelude.{ℕ, ◌+◌, ◌-◌, ◌<◌, ◌≤◌, ◌^◌, cond, List, [], ◌∷◌, ◌++◌, map, flat_map, length, codes, decimal, All}
use Rattle.clause_core.specs.Literals.{Lit}
use Rattle.clause_core.specs.Clauses.{IsIncreasing, IsOver}
use Rattle.tsl_text.specs.Written.{text_of_lines}
use Rattle.refutation_check.specs.declared.limits.TheConstants.{MOST_VARIABLES, MOST_CLAUSES}
use Rattle.refutation_check.specs.declared.steps.Step.{Step}

-- the number of a literal: its variable's, with a `-` before it where the literal is negative
abbrev pub literal_word : Lit → List ℕ
literal_word l = cond l.positive [] (codes "-") ++ decimal (l.index + 1)

-- a list: each member with a space after it, and a `0` behind the last one
abbrev pub ended_list : {X : Type 0} → (X → List ℕ) → List X → List ℕ
ended_list word members = flat_map (λ member. word member ++ codes " ") members ++ codes "0"

abbrev pub clause_line : List Lit → List ℕ
clause_line clause = ended_list literal_word clause

-- a step's number, its clause and its hints
abbrev pub step_line : Step → List ℕ
step_line step = decimal step.number ++ codes " " ++ clause_line step.clause ++ codes " " ++ ended_list decimal step.hints

-- the numbers of variables and of clauses
abbrev pub header_line : ℕ → ℕ → List ℕ
header_line variables count = codes "p cnf " ++ decimal variables ++ codes " " ++ decimal count

-- the text of a formula over so many variables
abbrev pub cnf_text : ℕ → List (List Lit) → List ℕ
cnf_text variables clauses = text_of_lines (header_line variables (length clauses) ∷ map clause_line clauses)

-- the text of a log
abbrev pub log_text : List Step → List ℕ
log_text steps = text_of_lines (map step_line steps)

-- the text of a formula, the line `lrat`, and the text of a log
abbrev pub refutation_text : ℕ → List (List Lit) → List Step → List ℕ
refutation_text variables clauses steps = cnf_text variables clauses ++ codes "lrat\n" ++ log_text steps

-- a line that is a comment, with this text behind its first byte
abbrev pub comment_text : List ℕ → List ℕ
comment_text comment = codes "c " ++ comment ++ codes "\n"

-- the literals of a clause rise by their numbers, and its variables are those of the formula
pub record IsClauseOver (variables : ℕ) (clause : List Lit) : Type 0 where
  pub increasing : IsIncreasing clause
  pub over : IsOver variables clause

-- a formula that its text spells: it is within the limits of what is read, and its clauses are clauses over the variables
pub record IsWithinLimits (variables : ℕ) (clauses : List (List Lit)) : Type 0 where
  pub few_variables : variables ≤ MOST_VARIABLES
  pub few_clauses : length clauses ≤ MOST_CLAUSES
  pub each : All (IsClauseOver variables) clauses

-- a step whose line is read back: its literals rise and are literals, and its number and its hints have at most 18 digits
pub record IsReadable (step : Step) : Type 0 where
  pub number : step.number < 10 ^ 18
  pub clause : IsClauseOver (2 ^ 31 - 1) step.clause
  pub hints : All (λ hint. (1 ≤ hint) × (hint < 10 ^ 18)) step.hints
