use Rattle.std.proofs.Common.{refl}
use Rattle.checking_commands.specs.RunParts.{lacks_meaning, lacks_inputs}
use Rattle.checking_commands.proofs.parting.parts_of.Goals as goal

pub returns-in_default-cut_by_style-clause-lacks : goal.returns-in_default-cut_by_style-clause-lacks
returns-in_default-cut_by_style-clause-lacks c =
    lacks_meaning c.in-Some.spec.now c.in-Some.from_program.now refl c.in-Some.ensures.found c.in_default-cut_by_style.ensures.none

pub returns-in_default-cut_before-clause-lacks : goal.returns-in_default-cut_before-clause-lacks
returns-in_default-cut_before-clause-lacks c =
    lacks_inputs c.in-Some.spec.now c.in-Some.from_program.now c.in-Some-cut_by_style.cut.before.now c.in-Some-cut_by_style.cut.after.now
    c.in-Some-cut_by_style.cut.style refl c.in-Some.ensures.found c.in-Some-cut_by_style.ensures.found c.in_default-cut_before.ensures.none
