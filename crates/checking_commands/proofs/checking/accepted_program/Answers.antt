use Rattle.checking_commands.proofs.CheckStages.{texts_known}
use Rattle.checking_commands.proofs.checking.accepted_program.Goals as goal

pub returns-in-Some : goal.returns-in-Some
returns-in-Some c =
    texts_known c.args.bound c.args.bytes.now (record { spec = c.in-Some.spec.now; program = c.in-Some.program.now })
    c.texts_judged.result c.in-Some.ensures.found c.texts_judged.ensures
