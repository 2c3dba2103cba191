-- Which status and which text the replies of `recheck` have.
use Rattle.std.proofs.Common.{◌≡◌, ◌≢◌, ℕ, true, List, [], refl, ap, sym, ◌∙◌}
use Rattle.std.specs.Prelude.{Option, Some, None}
use Rattle.refutation_check.specs.Checking.{Refusal, at_line, at_hint, unfinished, log_refusal}
use Rattle.cnf_reader.specs.CnfText.{CnfAnswer, is_cnf, form_at as cnf_form_at, too_many_variables, too_many_clauses, cnf_answer}
use Rattle.refutation_check.specs.LogText.{LogAnswer, is_log, form_at as log_form_at, log_answer}
use Rattle.tsl_report.specs.declared.fault.Fault.TheVariants.{Parts, CnfForm, LogForm, Large}
use Rattle.tsl_report.specs.declared.fault.Head.TheVariants.{Lrat}
use Rattle.tsl_report.specs.declared.fault.LimitName.TheVariants.{Variables, Clauses}
use Rattle.tool_io.specs.declared.reply.Reply.{Reply}
use Rattle.tool_io.proofs.Replying.{comes_of_bytes, status_of, text_of}
use Rattle.command_faults.proofs.Statuses.{line_says, fault_says}
use Rattle.checking_commands.specs.Recheck.{RecheckOutcome, without_log, of_parts, verdict, parts_reply, cnf_part, log_part}

-- ---- statuses

verdict_comes : (refusal : Option Refusal) → comes_of_bytes (verdict refusal).status ≡ true
verdict_comes None = refl
verdict_comes (Some refusal) = refl

parts_come : (formula : CnfAnswer) (log : LogAnswer) → comes_of_bytes (parts_reply formula log).status ≡ true
parts_come (is_cnf variables clauses) (is_log steps) = verdict_comes (log_refusal variables clauses steps)
parts_come (is_cnf variables clauses) (log_form_at line) = refl
parts_come (cnf_form_at line) log = refl
parts_come too_many_variables log = refl
parts_come too_many_clauses log = refl

pub recheck_comes : (bytes : List ℕ) (reply : Reply) → RecheckOutcome bytes reply → comes_of_bytes reply.status ≡ true
recheck_comes bytes reply (without_log h is) = ap comes_of_bytes (status_of is)
recheck_comes bytes reply (of_parts at h is) =
    ap comes_of_bytes (status_of is) ∙ parts_come (cnf_answer (cnf_part bytes at)) (log_answer (log_part bytes at))

-- ---- texts

verdict_says : (refusal : Option Refusal) → (verdict refusal).text ≢ []
verdict_says None e = cc
verdict_says (Some (at_line number)) e = cc
verdict_says (Some (at_hint number position)) e = cc
verdict_says (Some unfinished) e = cc

parts_say : (formula : CnfAnswer) (log : LogAnswer) → (parts_reply formula log).text ≢ []
parts_say (is_cnf variables clauses) (is_log steps) = verdict_says (log_refusal variables clauses steps)
parts_say (is_cnf variables clauses) (log_form_at line) = line_says (LogForm line)
parts_say (cnf_form_at line) log = line_says (CnfForm line)
parts_say too_many_variables log = line_says (Large Variables 1048576)
parts_say too_many_clauses log = line_says (Large Clauses 2000000)

pub recheck_says : (bytes : List ℕ) (reply : Reply) → RecheckOutcome bytes reply → reply.text ≢ []
recheck_says bytes reply (without_log h is) e = fault_says (Parts Lrat) reply is e
recheck_says bytes reply (of_parts at h is) e =
    parts_say (cnf_answer (cnf_part bytes at)) (log_answer (log_part bytes at)) (sym (text_of is) ∙ e)
