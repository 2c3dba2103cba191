-- What is known at each stage of `check`.
use Rattle.std.proofs.Common.{◌≡◌, ◌≢◌, ℕ, List, ap, sym, ◌∙◌}
use Rattle.std.specs.Prelude.{Result, Ok, Err, IfOk}
use Rattle.tsl_terms.specs.SpecTree.{SpecTree}
use Rattle.program_tree.specs.ProgramTree.{ProgramTree}
use Rattle.flow_program.specs.declared.reading.ProgramError.{ProgramError}
use Rattle.flow_program.specs.Reading.{HasProgramCause}
use Rattle.tsl_reader.specs.Spells.{Spells}
use Rattle.tsl_report.specs.declared.fault.Head.TheVariants.{Program}
use Rattle.tsl_report.specs.declared.fault.Fault.{Fault}
use Rattle.tsl_report.specs.declared.fault.Fault.TheVariants.{Parts}
use Rattle.tool_io.specs.declared.status.Status.TheVariants.{Done}
use Rattle.tool_io.specs.declared.reply.Reply.{Reply}
use Rattle.tsl_meaning.specs.Promise.{Realizes}
use Rattle.program_check.specs.declared.verdict.Verdict.{Verdict}
use Rattle.program_check.specs.declared.verdict.Verdict.TheVariants.{Yes}
use Rattle.program_check.specs.declared.verdict.Limit.{Limit}
use Rattle.program_check.specs.Verdicts.{HasFewBits, IsVerdict, IsPassed}
use Rattle.checking_commands.specs.declared.checking.Judged.{Judged}
use Rattle.checking_commands.specs.declared.checking.Judged.TheVariants.{Accepted, Replied}
use Rattle.checking_commands.specs.Check.{verdict_reply, too_large, judged}
use Rattle.checking_commands.specs.Check.{CheckParts, AreCheckParts, CheckInput, TextsOutcome, spec_refused}
use Rattle.checking_commands.specs.Check.{program_refused, both_spelled, CheckOutcome, without_program, of_texts}
use Rattle.checking_commands.specs.Judged.{IsAcceptedPair, IsJudged}
use Rattle.checking_commands.specs.internal.CheckView.{AreSpelled, AreTextsJudged}
use Rattle.command_faults.specs.HeadLines.{HasNoLine}
use Rattle.command_faults.specs.Replies.{fault_reply}
use Rattle.checking_commands.specs.RunFaults.{IsProgramFault}
use Rattle.checking_commands.specs.RunParts.{program_line}
use Rattle.command_faults.specs.Refusals.{HasSpecFault, fault_at_limit}
use Rattle.tool_io.proofs.Replying.{status_of}
use Rattle.command_faults.proofs.Statuses.{fault_not_done}
use Rattle.checking_commands.proofs.CheckReplies.{is_yes}

-- that something is refused, and that it is no yes
abbrev pub IsNoYes : (Reply → Type 0) → Reply → Type 0
IsNoYes P reply = P reply × (reply.status ≢ Done)

module _ (bound : ℕ) where
  -- ---- what is replied

  pub accepted_outcome : {E : Type 0} (bytes : List ℕ) (spec : SpecTree) (program : ProgramTree) (r : Result Reply E) →
      IsAcceptedPair bound bytes spec program → IfOk r (λ reply. reply ≡ verdict_reply bound Yes) → IfOk r (CheckOutcome bound bytes)
  accepted_outcome bytes spec program (Ok reply) pair is =
      let h = pair.accepted in
      of_texts pair.parts pair.are_parts (both_spelled (record { spec = spec; names = h.names; program = program }) h.spelled
      (judged Yes h.few_bits h.is_verdict (λ same. h.realizes) is))
  accepted_outcome bytes spec program (Err e) pair is = tt

  -- ---- what is known

  pub without_program_known : (bytes : List ℕ) (reply : Reply) → HasNoLine bytes program_line → reply ≡ fault_reply (Parts Program) →
      IsNoYes (CheckOutcome bound bytes) reply
  without_program_known bytes reply none is = (without_program none is, fault_not_done (Parts Program) reply is)

  pub texts_known : {E : Type 0} (bytes : List ℕ) (parts : CheckParts) (r : Result Judged E) → AreCheckParts bytes parts →
      IfOk r (AreTextsJudged bound parts) → IfOk r (IsJudged bound bytes)
  texts_known bytes parts (Ok (Accepted spec program)) are h = record { parts = parts; are_parts = are; accepted = h }
  texts_known bytes parts (Ok (Replied reply)) are h = (of_texts parts are h.0, h.1)
  texts_known bytes parts (Err e) are h = tt

  pub spec_refused_known : (parts : CheckParts) (fault : Fault) (reply : Reply) → HasSpecFault parts.spec fault →
      reply ≡ fault_reply fault → IsNoYes (TextsOutcome bound parts) reply
  spec_refused_known parts fault reply h is = (spec_refused fault h is, fault_not_done fault reply is)

  pub program_refused_known : (parts : CheckParts) (spec : SpecTree) (error : ProgramError) (fault : Fault) (reply : Reply) →
      Spells parts.spec spec → HasProgramCause parts.program spec.names error → IsProgramFault parts.program error fault →
      reply ≡ fault_reply fault → IsNoYes (TextsOutcome bound parts) reply
  program_refused_known parts spec error fault reply spells cause h is =
      (program_refused spec error fault spells cause h is, fault_not_done fault reply is)

  module _ (parts : CheckParts) (spec : SpecTree) (program : ProgramTree) (spelled : AreSpelled parts spec program) where
    abbrev input : CheckInput
    input = record { spec = spec; names = spelled.0; program = program }

    pub too_large_known : (limit : Limit) (fault : Fault) (reply : Reply) → IsPassed spec program limit → fault ≡ fault_at_limit limit →
        reply ≡ fault_reply fault → IsNoYes (TextsOutcome bound parts) reply
    too_large_known limit fault reply passed is_limit is =
        (both_spelled input spelled.1 (too_large limit passed (is ∙ ap fault_reply is_limit)), fault_not_done fault reply is)

    pub refused_known : (verdict : Verdict) (reply : Reply) → HasFewBits spec → IsVerdict spec program bound verdict →
        (verdict ≡ Yes → Realizes spec program) → verdict ≢ Yes → reply ≡ verdict_reply bound verdict →
        IsNoYes (TextsOutcome bound parts) reply
    refused_known verdict reply few h realizes other is = (
      both_spelled input spelled.1 (judged verdict few h realizes is),
      (λ done. other (is_yes bound verdict (sym (status_of is) ∙ done))),
    )
