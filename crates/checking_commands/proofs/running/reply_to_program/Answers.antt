use Rattle.std.proofs.Common.{arith, ap, length}
use Rattle.checking_commands.specs.Run.{in_program}
use Rattle.checking_commands.specs.internal.RunView.{run_parts, given_spec}
use Rattle.checking_commands.proofs.ProgramFaultLaws.{program_cause_stands}
use Rattle.checking_commands.proofs.RunNames.{given_few}
use Rattle.checking_commands.proofs.RunParting.{refused_outcome}
use Rattle.checking_commands.proofs.running.reply_to_program.Goals as goal

pub read_program-requires-clause-room : goal.read_program-requires-clause-room
read_program-requires-clause-room c =
    omega (
      arith,
      c.requires.short.program,
      c.requires.short.spec,
      ap length c.requires.names,
      given_few c.args.parts.now.spec.now (given_spec c.args.spec) c.requires.spec,
    )

pub fault_of_program-requires : goal.fault_of_program-requires
fault_of_program-requires c =
    program_cause_stands c.args.parts.now.program.now c.args.names c.in-Err.error c.in-Err.ensures.cause

pub returns-in_ok-fault-in-Err : goal.returns-in_ok-fault-in-Err
returns-in_ok-fault-in-Err c =
    refused_outcome (run_parts c.args.parts.now) c.in_ok-fault-in-Err.fault c.fault_reply.result
    (in_program (given_spec c.args.spec) c.in-Err.error c.requires.spec (rw (← c.requires.names) c.in-Err.ensures.cause)
    c.in_ok-fault-in-Err.ensures)
    c.fault_reply.ensures
