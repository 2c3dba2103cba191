use Rattle.std.proofs.Common.{arith, ap, length}
use Rattle.tsl_terms.specs.SpecView.{spec_tree}
use Rattle.checking_commands.specs.internal.CheckView.{check_parts}
use Rattle.checking_commands.proofs.CheckStages.{program_refused_known}
use Rattle.checking_commands.proofs.ProgramFaultLaws.{program_cause_stands}
use Rattle.checking_commands.proofs.RunNames.{few_names}
use Rattle.checking_commands.proofs.checking.spec_judged.Goals as goal

pub read_program-requires-clause-room : goal.read_program-requires-clause-room
read_program-requires-clause-room c =
    omega (
      arith,
      c.requires.short.program,
      c.requires.short.spec,
      ap length c.requires.names,
      few_names c.args.texts.now.spec.now (spec_tree c.args.spec) c.requires.spells,
    )

pub fault_of_program-requires : goal.fault_of_program-requires
fault_of_program-requires c =
    program_cause_stands c.args.texts.now.program.now c.args.names c.in-Err.error c.in-Err.ensures.cause

pub returns-in_ok-reply-in-Err : goal.returns-in_ok-reply-in-Err
returns-in_ok-reply-in-Err c =
    program_refused_known c.args.bound (check_parts c.args.texts.now) (spec_tree c.args.spec) c.in-Err.error
    c.in_ok-fault-in-Err.fault c.in_ok-reply-in-Err.reply c.requires.spells (rw (← c.requires.names) c.in-Err.ensures.cause)
    c.in_ok-fault-in-Err.ensures c.in_ok-reply-in-Err.ensures
