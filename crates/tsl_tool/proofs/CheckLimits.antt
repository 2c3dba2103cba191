-- Where a limit of the work on a specification and a program is passed, `check` tells one.
use Rattle.std.proofs.Common.{◌≡◌, ℕ, List, subst}
use Rattle.tsl_terms.specs.SpecTree.{SpecTree}
use Rattle.tsl_reader.proofs.Causes.{one_spec}
use Rattle.flow_program.specs.Reading.{HasProgramCause}
use Rattle.program_check.specs.declared.verdict.Limit.{Limit}
use Rattle.program_check.specs.Verdicts.{IsPassed}
use Rattle.program_check.proofs.PassedLimits.{no_verdict}
use Rattle.tool_io.specs.declared.reply.Reply.{Reply}
use Rattle.command_faults.specs.Refusals.{fault_at_limit}
use Rattle.command_faults.specs.Replies.{fault_reply}
use Rattle.command_faults.proofs.RefusalLaws.{not_refused}
use Rattle.checking_commands.specs.Check.{CheckParts, AreCheckParts, CheckInput, SpellCheckInput, VerdictOutcome, too_large, judged}
use Rattle.checking_commands.specs.Check.{TextsOutcome, spec_refused, program_refused, both_spelled, CheckOutcome, without_program, of_texts}
use Rattle.checking_commands.proofs.OneInput.{one_division, one_check_input, program_not_refused}

module _ (bound : ℕ) (parts : CheckParts) (input : CheckInput) (spells : SpellCheckInput parts input) (reply : Reply) (limit : Limit)
    (passed : IsPassed input.spec input.program limit) where
  abbrev IsTold : Type 0
  IsTold = (told : Limit) × IsPassed input.spec input.program told × (reply ≡ fault_reply (fault_at_limit told))

  both_told : VerdictOutcome bound input.spec input.program reply → IsTold
  both_told (too_large told there is) = (told, there, is)
  both_told (judged verdict few h realizes is) = absurd (no_verdict input.spec input.program bound limit verdict few passed h)

  pub texts_told : TextsOutcome bound parts reply → IsTold
  texts_told (spec_refused fault h is) = absurd (not_refused parts.spec input.spec h.error fault spells.spec h.spells_none h.is_fault)
  texts_told (program_refused spec error fault there cause h is) =
      absurd (program_not_refused parts.program input.spec.names input.program input.names spells.program error fault
      (subst (λ (s : SpecTree). HasProgramCause parts.program s.names error)
      (one_spec parts.spec spec input.spec there spells.spec) cause) h)
  texts_told (both_spelled other there outcome) =
      both_told (subst (λ (c : CheckInput). VerdictOutcome bound c.spec c.program reply)
      (one_check_input parts other input there spells) outcome)

pub check_tells_limits : (bound : ℕ) (bytes : List ℕ) (parts : CheckParts) (input : CheckInput) (reply : Reply) (limit : Limit) →
    AreCheckParts bytes parts → SpellCheckInput parts input → IsPassed input.spec input.program limit → CheckOutcome bound bytes reply →
    (told : Limit) × IsPassed input.spec input.program told × (reply ≡ fault_reply (fault_at_limit told))
check_tells_limits bound bytes parts input reply limit are spells passed (without_program none is) =
    absurd (none are.at are.first.is_line)
check_tells_limits bound bytes parts input reply limit are spells passed (of_texts other are_too outcome) =
    texts_told bound parts input spells reply limit passed
    (subst (λ (p : CheckParts). TextsOutcome bound p reply) (one_division bytes other parts are_too are) outcome)
