use Rattle.tsl_terms.specs.SpecView.{spec_tree}
use Rattle.program_tree.specs.ProgramView.{program_tree}
use Rattle.checking_commands.proofs.CheckStages.{accepted_outcome}
use Rattle.checking_commands.proofs.checking.check.Goals as goal

pub returns-in-Accepted : goal.returns-in-Accepted
returns-in-Accepted c =
    accepted_outcome c.args.bound c.args.bytes.now (spec_tree c.in-Accepted.field-0) (program_tree c.in-Accepted.field-1)
    c.accepted.result (rw c.in-Accepted.is at c.in_ok-judged.ensures) c.accepted.ensures
