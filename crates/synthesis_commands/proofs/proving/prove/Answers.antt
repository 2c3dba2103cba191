use Rattle.tsl_terms.specs.SpecView.{spec_tree}
use Rattle.command_faults.proofs.RefusalLaws.{cause_stands}
use Rattle.synthesis_commands.proofs.ProveStages.{refused_outcome, spec_outcome}
use Rattle.synthesis_commands.proofs.proving.prove.Goals as goal

pub returns-in-Ok : goal.returns-in-Ok
returns-in-Ok c =
    spec_outcome c.args.sizes c.args.bytes.now (spec_tree c.in-Ok.spec) c.reply_to_question.result c.in-Ok.ensures.ok
    c.reply_to_question.ensures

pub fault_of-requires-clause-stands : goal.fault_of-requires-clause-stands
fault_of-requires-clause-stands c = cause_stands c.args.bytes.now c.in-Err.error c.in-Err.ensures.cause

pub returns-in_ok-fault-in-Err : goal.returns-in_ok-fault-in-Err
returns-in_ok-fault-in-Err c =
    refused_outcome c.args.sizes c.args.bytes.now c.in-Err.error c.in_ok-fault-in-Err.fault c.fault_reply.result
    c.in-Err.ensures.cause c.in-Err.ensures.refused c.in_ok-fault-in-Err.ensures c.fault_reply.ensures
