-- Which status and which text the replies of `check` have.
use Rattle.std.proofs.Common.{◌≡◌, ◌≢◌, ℕ, true, List, [], refl, ap, sym, ◌∙◌}
use Rattle.tsl_report.specs.declared.fault.Head.TheVariants.{Program}
use Rattle.tsl_report.specs.declared.fault.Fault.TheVariants.{Parts}
use Rattle.program_check.specs.declared.verdict.Verdict.{Verdict}
use Rattle.program_check.specs.declared.verdict.Verdict.TheVariants.{Signals, Test, Choice, Foreign, Unsound, NoAnnotation, Yes}
use Rattle.tsl_terms.specs.SpecTree.{SpecTree}
use Rattle.program_tree.specs.ProgramTree.{ProgramTree}
use Rattle.tool_io.specs.declared.status.Status.TheVariants.{Done}
use Rattle.tool_io.specs.declared.reply.Reply.{Reply}
use Rattle.checking_commands.specs.Check.{verdict_reply}
use Rattle.checking_commands.specs.Check.{VerdictOutcome, too_large, judged, spec_refused, program_refused, both_spelled}
use Rattle.checking_commands.specs.Check.{CheckOutcome, without_program, of_texts}
use Rattle.command_faults.specs.Refusals.{fault_at_limit}
use Rattle.checking_commands.proofs.RunReplies.{program_fault_comes}
use Rattle.tool_io.proofs.Replying.{comes_of_bytes, status_of, text_of}
use Rattle.command_faults.proofs.Statuses.{refusal_comes, limit_comes, fault_says}

-- ---- statuses

verdict_comes : (bound : ℕ) (verdict : Verdict) → comes_of_bytes (verdict_reply bound verdict).status ≡ true
verdict_comes bound Signals = refl
verdict_comes bound (Test i) = refl
verdict_comes bound (Choice i) = refl
verdict_comes bound (Foreign i) = refl
verdict_comes bound (Unsound i) = refl
verdict_comes bound NoAnnotation = refl
verdict_comes bound Yes = refl

both_come : (bound : ℕ) (spec : SpecTree) (program : ProgramTree) (reply : Reply) → VerdictOutcome bound spec program reply →
    comes_of_bytes reply.status ≡ true
both_come bound spec program reply (too_large limit passed is) = ap comes_of_bytes (status_of is) ∙ limit_comes limit
both_come bound spec program reply (judged verdict few h realizes is) = ap comes_of_bytes (status_of is) ∙ verdict_comes bound verdict

pub check_comes : (bound : ℕ) (bytes : List ℕ) (reply : Reply) → CheckOutcome bound bytes reply → comes_of_bytes reply.status ≡ true
check_comes bound bytes reply (without_program none is) = ap comes_of_bytes (status_of is)
check_comes bound bytes reply (of_texts parts are (spec_refused fault h is)) =
    ap comes_of_bytes (status_of is) ∙ refusal_comes parts.spec h.error fault h.is_fault
check_comes bound bytes reply (of_texts parts are (program_refused spec error fault spells cause h is)) =
    ap comes_of_bytes (status_of is) ∙ program_fault_comes parts.program error fault h
check_comes bound bytes reply (of_texts parts are (both_spelled input spells outcome)) =
    both_come bound input.spec input.program reply outcome

-- ---- texts

verdict_says : (bound : ℕ) (verdict : Verdict) → (verdict_reply bound verdict).text ≢ []
verdict_says bound Signals e = cc
verdict_says bound (Test i) e = cc
verdict_says bound (Choice i) e = cc
verdict_says bound (Foreign i) e = cc
verdict_says bound (Unsound i) e = cc
verdict_says bound NoAnnotation e = cc
verdict_says bound Yes e = cc

both_say : (bound : ℕ) (spec : SpecTree) (program : ProgramTree) (reply : Reply) → VerdictOutcome bound spec program reply →
    reply.text ≢ []
both_say bound spec program reply (too_large limit passed is) e = fault_says (fault_at_limit limit) reply is e
both_say bound spec program reply (judged verdict few h realizes is) e = verdict_says bound verdict (sym (text_of is) ∙ e)

pub check_says : (bound : ℕ) (bytes : List ℕ) (reply : Reply) → CheckOutcome bound bytes reply → reply.text ≢ []
check_says bound bytes reply (without_program none is) e = fault_says (Parts Program) reply is e
check_says bound bytes reply (of_texts parts are (spec_refused fault h is)) e = fault_says fault reply is e
check_says bound bytes reply (of_texts parts are (program_refused spec error fault spells cause h is)) e = fault_says fault reply is e
check_says bound bytes reply (of_texts parts are (both_spelled input spells outcome)) e =
    both_say bound input.spec input.program reply outcome e

-- ---- yes

-- yes comes of one verdict alone
pub is_yes : (bound : ℕ) (verdict : Verdict) → (verdict_reply bound verdict).status ≡ Done → verdict ≡ Yes
is_yes bound Signals is = cc
is_yes bound (Test i) is = cc
is_yes bound (Choice i) is = cc
is_yes bound (Foreign i) is = cc
is_yes bound (Unsound i) is = cc
is_yes bound NoAnnotation is = cc
is_yes bound Yes is = refl
