use Rattle.std.proofs.Common.{◌≡◌, sym, subst, true, false, ◌∙◌}
use Rattle.tsl_terms.specs.SpecView.{spec_tree}
use Rattle.program_tree.specs.ProgramView.{program_tree}
use Rattle.program_check.specs.declared.verdict.CheckError.{CheckError}
use Rattle.program_check.specs.Verdicts.{HasCheckCause}
use Rattle.checking_commands.specs.internal.CheckView.{check_parts}
use Rattle.checking_commands.proofs.CheckStages.{refused_known, too_large_known}
use Rattle.checking_commands.proofs.checking.program_judged.Goals as goal

pub returns-in-Ok : goal.returns-in-Ok
returns-in-Ok c =
    refused_known c.args.bound (check_parts c.args.texts.now) (spec_tree c.args.spec) (program_tree c.args.program) c.requires.spelled
    c.in-Ok.verdict c.in_ok-reply-in-Ok.reply c.in-Ok.ensures.few_bits c.in-Ok.ensures.verdict c.in-Ok.ensures.realized
    (λ same. let e : true ≡ false = sym (c.is_yes.ensures.1 same) ∙ c.if-is_yes.false in cc)
    c.in_ok-reply-in-Ok.ensures

pub returns-in-Err-Large : goal.returns-in-Err-Large
returns-in-Err-Large c =
    too_large_known c.args.bound (check_parts c.args.texts.now) (spec_tree c.args.spec) (program_tree c.args.program) c.requires.spelled
    c.in-Err-Large.limit c.fault_of_limit.result c.in_ok-reply-in-Err-Large.reply
    (subst (λ (e : CheckError). HasCheckCause (spec_tree c.args.spec) (program_tree c.args.program) e) c.in-Err-Large.field-0-is
    c.in-Err-Large.ensures.cause)
    c.fault_of_limit.ensures c.in_ok-reply-in-Err-Large.ensures
