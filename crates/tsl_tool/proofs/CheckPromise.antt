-- What the replies of `check` promise.
use Rattle.std.proofs.Common.{◌≡◌, ◌≢◌, ℕ, List, refl, ap, sym, ◌∙◌, subst}
use Rattle.command_words.specs.declared.task.Task.TheVariants.{Check}
use Rattle.program_check.specs.declared.verdict.Verdict.{Verdict}
use Rattle.program_check.specs.declared.verdict.Verdict.TheVariants.{Yes}
use Rattle.program_check.specs.Verdicts.{IsVerdict, HasFewBits}
use Rattle.tsl_meaning.specs.Promise.{Realizes}
use Rattle.tsl_report.specs.declared.fault.Head.TheVariants.{Program}
use Rattle.tsl_report.specs.declared.fault.Fault.TheVariants.{Parts}
use Rattle.tool_io.specs.declared.status.Status.{Status}
use Rattle.tool_io.specs.declared.reply.Reply.{Reply}
use Rattle.tool_io.specs.declared.status.Status.TheVariants.{Done, No}
use Rattle.command_faults.specs.Refusals.{fault_at_limit}
use Rattle.checking_commands.specs.Check.{CheckParts, AreCheckParts, CheckInput, SpellCheckInput, verdict_reply}
use Rattle.checking_commands.specs.Check.{VerdictOutcome, too_large, judged, spec_refused, program_refused, both_spelled}
use Rattle.checking_commands.specs.Check.{CheckOutcome, without_program, of_texts}
use Rattle.checking_commands.proofs.CheckReplies.{is_yes}
use Rattle.tsl_tool.specs.Promise.{Promise}
use Rattle.tsl_tool.proofs.FaultPromises.{fault_keeps}

-- no comes of every other verdict than yes
is_other : (bound : ℕ) (verdict : Verdict) → (verdict_reply bound verdict).status ≡ No → verdict ≢ Yes
is_other bound verdict is same =
    let e : Done ≡ No = sym (ap (λ (v : Verdict). (verdict_reply bound v).status) same) ∙ is in cc

module _ (bound : ℕ) (bytes : List ℕ) (parts : CheckParts) (are : AreCheckParts bytes parts) (input : CheckInput)
    (spells : SpellCheckInput parts input) where
  judged_keeps : (verdict : Verdict) (status : Status) → HasFewBits input.spec → IsVerdict input.spec input.program bound verdict →
      (verdict ≡ Yes → Realizes input.spec input.program) → (verdict_reply bound verdict).status ≡ status →
      Promise (Check bound) status bytes (verdict_reply bound verdict).text
  judged_keeps verdict Done few h realizes is = record {
    parts = parts;
    are_parts = are;
    input = input;
    spelled = spells;
    few_bits = few;
    is_verdict = subst (λ (v : Verdict). IsVerdict input.spec input.program bound v) (is_yes bound verdict is) h;
    realizes = realizes (is_yes bound verdict is);
    text_is = ap (λ (v : Verdict). (verdict_reply bound v).text) (is_yes bound verdict is);
  }
  judged_keeps verdict No few h realizes is = record {
    parts = parts;
    are_parts = are;
    input = input;
    spelled = spells;
    few_bits = few;
    verdict = verdict;
    is_verdict = h;
    is_refused = is_other bound verdict is;
    text_is = refl;
  }
  judged_keeps verdict _ few h realizes is = tt

  both_keep : (reply : Reply) → VerdictOutcome bound input.spec input.program reply →
      Promise (Check bound) reply.status bytes reply.text
  both_keep reply (too_large limit passed is) = fault_keeps (Check bound) (fault_at_limit limit) bytes reply is
  both_keep reply (judged verdict few h realizes is) =
      subst (λ (r : Reply). Promise (Check bound) r.status bytes r.text) (sym is)
      (judged_keeps verdict (verdict_reply bound verdict).status few h realizes refl)

pub check_keeps : (bound : ℕ) (bytes : List ℕ) (reply : Reply) → CheckOutcome bound bytes reply →
    Promise (Check bound) reply.status bytes reply.text
check_keeps bound bytes reply (without_program none is) = fault_keeps (Check bound) (Parts Program) bytes reply is
check_keeps bound bytes reply (of_texts parts are (spec_refused fault h is)) = fault_keeps (Check bound) fault bytes reply is
check_keeps bound bytes reply (of_texts parts are (program_refused spec error fault spells cause h is)) =
    fault_keeps (Check bound) fault bytes reply is
check_keeps bound bytes reply (of_texts parts are (both_spelled input spells outcome)) =
    both_keep bound bytes parts are input spells reply outcome
