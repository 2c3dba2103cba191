-- What the command `recheck` replies.
use Rattle.std.specs.Prelude.{◌≡◌, ℕ, ◌+◌, List, ◌++◌, take, drop, codes, decimal, Option, Some, None}
use Rattle.clause_core.specs.Literals.{Lit}
use Rattle.clause_core.specs.Clauses.{AreUnsatisfiable}
use Rattle.refutation_check.specs.declared.steps.Step.{Step}
use Rattle.refutation_check.specs.Checking.{Refusal, at_line, at_hint, unfinished, log_refusal}
use Rattle.cnf_reader.specs.CnfText.{CnfAnswer, is_cnf, form_at as cnf_form_at, too_many_variables, too_many_clauses, cnf_answer}
use Rattle.refutation_check.specs.LogText.{LogAnswer, is_log, form_at as log_form_at, log_answer}
use Rattle.tsl_report.specs.declared.fault.Head.TheVariants.{Lrat}
use Rattle.tsl_report.specs.declared.fault.LimitName.TheVariants.{Variables, Clauses}
use Rattle.tsl_report.specs.declared.fault.Fault.TheVariants.{Parts, CnfForm, LogForm, Large}
use Rattle.refutation_check.specs.declared.limits.TheConstants.{MOST_VARIABLES, MOST_CLAUSES}
use Rattle.tool_io.specs.declared.status.Status.TheVariants.{Done, No}
use Rattle.tool_io.specs.declared.reply.Reply.{Reply}
use Rattle.command_faults.specs.HeadLines.{IsFirstLineAt, HasNoLine}
use Rattle.command_faults.specs.Replies.{fault_reply}

-- the line between a formula and its log
abbrev pub head_line : List ℕ
head_line = codes "lrat"

-- All before the line `lrat` that begins at this offset, and all after that line.
abbrev pub cnf_part : List ℕ → ℕ → List ℕ
cnf_part bytes at = take at bytes

abbrev pub log_part : List ℕ → ℕ → List ℕ
log_part bytes at = drop (at + 5) bytes

abbrev pub refusal_line : Refusal → List ℕ
refusal_line (at_line number) = codes "refused line " ++ decimal number
refusal_line (at_hint number position) = codes "refused hint " ++ decimal number ++ codes " " ++ decimal position
refusal_line unfinished = codes "refused unfinished"

-- the verdict on a log that is not refused, or is
abbrev pub verdict : Option Refusal → Reply
verdict None = record { status = Done; text = codes "verified\n" }
verdict (Some refusal) = record { status = No; text = refusal_line refusal ++ codes "\n" }

-- the reply on a formula and the text of a log
abbrev pub log_reply : ℕ → List (List Lit) → LogAnswer → Reply
log_reply variables clauses (is_log steps) = verdict (log_refusal variables clauses steps)
log_reply variables clauses (log_form_at line) = fault_reply (LogForm line)

-- the reply on two texts
abbrev pub parts_reply : CnfAnswer → LogAnswer → Reply
parts_reply (is_cnf variables clauses) log = log_reply variables clauses log
parts_reply (cnf_form_at line) log = fault_reply (CnfForm line)
parts_reply too_many_variables log = fault_reply (Large Variables MOST_VARIABLES)
parts_reply too_many_clauses log = fault_reply (Large Clauses MOST_CLAUSES)

-- the reply where the line `lrat` begins at this offset
abbrev pub recheck_reply : List ℕ → ℕ → Reply
recheck_reply bytes at = parts_reply (cnf_answer (cnf_part bytes at)) (log_answer (log_part bytes at))

pub data RecheckOutcome (bytes : List ℕ) (reply : Reply) : Type 0 where
  -- no line is `lrat`
  without_log : HasNoLine bytes head_line → reply ≡ fault_reply (Parts Lrat) → RecheckOutcome bytes reply
  -- the parts before and after the first line `lrat` lead to the reply
  of_parts : (at : ℕ) → IsFirstLineAt bytes head_line at → reply ≡ recheck_reply bytes at → RecheckOutcome bytes reply

-- a formula that the first text spells, and the steps of a log that the second spells
pub record FormulaAndLog (cnf_text log_text : List ℕ) : Type 0 where
  pub variables : ℕ
  pub clauses : List (List Lit)
  pub steps : List Step
  pub formula : cnf_answer cnf_text ≡ is_cnf variables clauses
  pub log : log_answer log_text ≡ is_log steps

-- why the log is refused, if it is
abbrev pub refusal_of : {cnf_text log_text : List ℕ} → FormulaAndLog cnf_text log_text → Option Refusal
refusal_of spelled = log_refusal spelled.variables spelled.clauses spelled.steps

abbrev pub IsAccepted : List ℕ → List ℕ → Type 0
IsAccepted cnf_text log_text = (spelled : FormulaAndLog cnf_text log_text) × (refusal_of spelled ≡ None)

abbrev pub IsRefused : List ℕ → List ℕ → Type 0
IsRefused cnf_text log_text = (spelled : FormulaAndLog cnf_text log_text) × (refusal : Refusal) × (refusal_of spelled ≡ Some refusal)

-- the log is accepted, and no assignment meets all clauses of the formula
abbrev pub IsRefutation : List ℕ → List ℕ → Type 0
IsRefutation cnf_text log_text =
    (spelled : FormulaAndLog cnf_text log_text) × (refusal_of spelled ≡ None) × AreUnsatisfiable spelled.clauses

-- so are the parts before and after the first line `lrat`
abbrev pub OfParts : List ℕ → (List ℕ → List ℕ → Type 0) → Type 0
OfParts bytes P = (at : ℕ) × IsFirstLineAt bytes head_line at × P (cnf_part bytes at) (log_part bytes at)
