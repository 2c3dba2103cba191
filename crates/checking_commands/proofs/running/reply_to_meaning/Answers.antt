use Rattle.program_tree.specs.ProgramView.{program_tree}
use Rattle.checking_commands.specs.Run.{in_meaning}
use Rattle.checking_commands.specs.internal.RunView.{run_parts, given_spec}
use Rattle.checking_commands.proofs.RunNames.{cells_named, cells_distinct}
use Rattle.checking_commands.proofs.RunParting.{refused_outcome}
use Rattle.checking_commands.proofs.running.reply_to_meaning.Goals as goal

pub read_meaning-requires-clause-cells : goal.read_meaning-requires-clause-cells
read_meaning-requires-clause-cells c =
    rw c.as_slice.ensures
    (cells_named c.args.names.now (program_tree c.args.program.now) c.requires.program.spelled.is_program
    c.requires.program.spelled.is_writable)

pub read_meaning-requires-clause-distinct : goal.read_meaning-requires-clause-distinct
read_meaning-requires-clause-distinct c =
    rw c.as_slice.ensures (cells_distinct (program_tree c.args.program.now) c.requires.program.spelled.is_program)

pub returns-in-Err-AtFault : goal.returns-in-Err-AtFault
returns-in-Err-AtFault c =
    refused_outcome (run_parts c.args.parts.now) c.in-Err-AtFault.fault c.fault_reply.result
    (in_meaning (given_spec c.args.spec) c.args.names.now (program_tree c.args.program.now) c.requires.spec c.requires.program
    (rw (c.in-Err-AtFault.field-0-is, c.as_slice.ensures) at c.in-Err-AtFault.ensures.refused))
    c.fault_reply.ensures

pub reply_to_inputs-requires-clause-means : goal.reply_to_inputs-requires-clause-means
reply_to_inputs-requires-clause-means c = rw c.as_slice.ensures at c.in-Ok.ensures.means
