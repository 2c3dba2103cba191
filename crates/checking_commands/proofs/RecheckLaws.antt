-- Which replies of `recheck` say yes and which say no.
use Rattle.std.proofs.Common.{◌≡◌, ℕ, true, List, refl, ap, sym, ◌∙◌, ◌↔◌}
use Rattle.std.specs.Prelude.{◌≤◌, Option, Some, None, Result, Ok, Err, IfOk, codes}
use Rattle.tsl_text.specs.Places.{IsBetweenFeeds}
use Rattle.refutation_check.specs.Checking.{Refusal}
use Rattle.cnf_reader.specs.CnfText.{CnfAnswer, is_cnf, form_at as cnf_form_at, too_many_variables, too_many_clauses, cnf_answer}
use Rattle.refutation_check.specs.LogText.{LogAnswer, is_log, form_at as log_form_at, log_answer}
use Rattle.refutation_check.proofs.Refuting.{accepted_refutes}
use Rattle.tool_io.specs.declared.status.Status.TheVariants.{Done, No}
use Rattle.tool_io.specs.declared.reply.Reply.{Reply}
use Rattle.tool_io.specs.Statuses.{is_answer}
use Rattle.checking_commands.specs.Recheck.{verdict, parts_reply, FormulaAndLog, refusal_of, IsAccepted, IsRefused, IsRefutation, RecheckOutcome}
use Rattle.checking_commands.specs.Recheck.{of_parts, head_line, cnf_part, log_part}

-- the reply on two texts
abbrev pub reply_on : List ℕ → List ℕ → Reply
reply_on cnf log = parts_reply (cnf_answer cnf) (log_answer log)

-- an answer comes of a formula and a log that are spelled
spelled_by : (cnf log : List ℕ) (formula : CnfAnswer) (steps : LogAnswer) → cnf_answer cnf ≡ formula → log_answer log ≡ steps →
    is_answer (parts_reply formula steps).status ≡ true → FormulaAndLog cnf log
spelled_by cnf log (is_cnf variables clauses) (is_log steps) is_formula is_steps h =
    record { variables = variables; clauses = clauses; steps = steps; formula = is_formula; log = is_steps }
spelled_by cnf log (is_cnf variables clauses) (log_form_at line) is_formula is_steps h = cc
spelled_by cnf log (cnf_form_at line) steps is_formula is_steps h = cc
spelled_by cnf log too_many_variables steps is_formula is_steps h = cc
spelled_by cnf log too_many_clauses steps is_formula is_steps h = cc

-- and is their verdict
pub is_verdict : {cnf log : List ℕ} (spelled : FormulaAndLog cnf log) → reply_on cnf log ≡ verdict (refusal_of spelled)
is_verdict spelled = rw (spelled.formula, spelled.log)

verdict_yes : (refusal : Option Refusal) → (verdict refusal).status ≡ Done → refusal ≡ None
verdict_yes None h = refl
verdict_yes (Some refusal) h = cc

verdict_no : (refusal : Option Refusal) → (verdict refusal).status ≡ No → (r : Refusal) × (refusal ≡ Some r)
verdict_no None h = cc
verdict_no (Some refusal) h = (refusal, refl)

status_of : {a b : Reply} → a ≡ b → a.status ≡ b.status
status_of h = ap (λ (r : Reply). r.status) h

pub yes_exactly : (cnf log : List ℕ) → ((reply_on cnf log).status ≡ Done) ↔ IsAccepted cnf log
yes_exactly cnf log = (
  (λ is_yes.
      let spelled : FormulaAndLog cnf log = spelled_by cnf log (cnf_answer cnf) (log_answer log) refl refl (ap is_answer is_yes) in
      (spelled, verdict_yes (refusal_of spelled) (sym (status_of (is_verdict spelled)) ∙ is_yes))),
  (λ (spelled, accepted). status_of (is_verdict spelled ∙ ap verdict accepted)),
)

pub no_exactly : (cnf log : List ℕ) → ((reply_on cnf log).status ≡ No) ↔ IsRefused cnf log
no_exactly cnf log = (
  (λ is_no.
      let spelled : FormulaAndLog cnf log = spelled_by cnf log (cnf_answer cnf) (log_answer log) refl refl (ap is_answer is_no) in
      let found : (r : Refusal) × (refusal_of spelled ≡ Some r) =
      verdict_no (refusal_of spelled) (sym (status_of (is_verdict spelled)) ∙ is_no) in
      (spelled, found.0, found.1)),
  (λ (spelled, refusal, refused). status_of (is_verdict spelled ∙ ap verdict refused)),
)

-- a yes is a refutation, and says so
pub yes_refutes : (cnf log : List ℕ) → (reply_on cnf log).status ≡ Done →
    IsRefutation cnf log × ((reply_on cnf log).text ≡ codes "verified\n")
yes_refutes cnf log is_yes =
    let accepted : IsAccepted cnf log = (yes_exactly cnf log).0 is_yes in (
      (accepted.0, accepted.1, accepted_refutes accepted.0.variables accepted.0.clauses accepted.0.steps accepted.1),
      ap (λ (r : Reply). r.text) (is_verdict accepted.0 ∙ ap verdict accepted.1),
    )

-- the reply on the parts of the bytes is an outcome
pub parts_outcome : {E : Type 0} (bytes log : List ℕ) (at : ℕ) (r : Result Reply E) → IsBetweenFeeds bytes head_line at →
    ((other : ℕ) → IsBetweenFeeds bytes head_line other → at ≤ other) → log ≡ log_part bytes at →
    IfOk r (λ reply. reply ≡ reply_on (cnf_part bytes at) log) → IfOk r (RecheckOutcome bytes)
parts_outcome bytes log at (Ok reply) line first same is =
    of_parts at (record { is_line = line; first = first }) (is ∙ ap (reply_on (cnf_part bytes at)) same)
parts_outcome bytes log at (Err e) line first same is = tt
