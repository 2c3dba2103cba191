use Rattle.program_tree.specs.ProgramView.{program_tree}
use Rattle.tsl_meaning.specs.Interpretation.{rows_of}
use Rattle.checking_commands.specs.Run.{in_inputs}
use Rattle.checking_commands.specs.internal.RunView.{run_parts, given_spec, interpretation_read}
use Rattle.checking_commands.proofs.RunFaultLaws.{input_cause_stands}
use Rattle.checking_commands.proofs.RunLaws.{is_ready}
use Rattle.checking_commands.proofs.RunNames.{inputs_named, inputs_distinct}
use Rattle.checking_commands.proofs.RunParting.{refused_outcome, spelled_outcome}
use Rattle.checking_commands.proofs.running.reply_to_inputs.Goals as goal

pub read_inputs-requires-clause-inputs : goal.read_inputs-requires-clause-inputs
read_inputs-requires-clause-inputs c =
    rw c.as_slice.ensures
    (inputs_named c.args.names.now (program_tree c.args.program.now) c.requires.program.spelled.is_program
    c.requires.program.spelled.is_writable)

pub read_inputs-requires-clause-distinct : goal.read_inputs-requires-clause-distinct
read_inputs-requires-clause-distinct c =
    rw c.as_slice.ensures (inputs_distinct (program_tree c.args.program.now) c.requires.program.spelled.is_program)

pub reply_to_run-requires-clause-ready : goal.reply_to_run-requires-clause-ready
reply_to_run-requires-clause-ready c =
    is_ready (run_parts c.args.parts.now) (record {
      given = given_spec c.args.spec;
      names = c.args.names.now;
      program = program_tree c.args.program.now;
      interpretation = interpretation_read c.args.meaning.now;
      rows = rows_of c.in-Ok.inputs;
    })
    (record {
      spec = c.requires.spec;
      program = c.requires.program;
      meaning = c.requires.spells;
      inputs = rw (c.as_slice.ensures, c.domain-domain.ensures) at c.in-Ok.ensures.ok;
    })
    c.requires.fits c.requires.interprets (rw (c.as_slice.ensures, c.domain-domain.ensures) at c.in-Ok.ensures.rows)

pub fault_of_inputs-requires-clause-stands : goal.fault_of_inputs-requires-clause-stands
fault_of_inputs-requires-clause-stands c =
    input_cause_stands c.args.parts.now.inputs.now c.args.names.now c.args.program.now.inputs c.domain-domain.result c.in-Err.error
    (inputs_named c.args.names.now (program_tree c.args.program.now) c.requires.program.spelled.is_program
    c.requires.program.spelled.is_writable)
    (rw c.as_slice.ensures at c.in-Err.ensures.cause)

pub returns-in-Ok : goal.returns-in-Ok
returns-in-Ok c =
    spelled_outcome (run_parts c.args.parts.now) (record {
      given = given_spec c.args.spec;
      names = c.args.names.now;
      program = program_tree c.args.program.now;
      interpretation = interpretation_read c.args.meaning.now;
      rows = rows_of c.in-Ok.inputs;
    })
    c.reply_to_run.result
    (record {
      spec = c.requires.spec;
      program = c.requires.program;
      meaning = c.requires.spells;
      inputs = rw (c.as_slice.ensures, c.domain-domain.ensures) at c.in-Ok.ensures.ok;
    })
    c.reply_to_run.ensures

pub returns-in_ok-fault-in-Err : goal.returns-in_ok-fault-in-Err
returns-in_ok-fault-in-Err c =
    refused_outcome (run_parts c.args.parts.now) c.in_ok-fault-in-Err.fault c.fault_reply.result
    (in_inputs (given_spec c.args.spec) c.args.names.now (program_tree c.args.program.now) (interpretation_read c.args.meaning.now) c.in-Err.error
    c.requires.spec c.requires.program c.requires.spells
    (rw (c.as_slice.ensures, c.domain-domain.ensures) at c.in-Err.ensures.cause)
    (rw (c.as_slice.ensures, c.domain-domain.ensures) at c.in-Err.ensures.refused)
    c.in_ok-fault-in-Err.ensures)
    c.fault_reply.ensures
