use Rattle.std.proofs.Common.{◌∙◌}
use Rattle.name_resolution.proofs.FirstPlain.{kind_faults}
use Rattle.name_resolution.proofs.faults.first_kind_fault.Goals as goal

pub returns : goal.returns
returns c = c.kind_fault_place.ensures ∙ kind_faults c.args.firsts.now c.args.occurrences.now c.requires
