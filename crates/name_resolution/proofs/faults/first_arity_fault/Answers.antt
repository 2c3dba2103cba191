use Rattle.std.proofs.Common.{◌∙◌}
use Rattle.name_resolution.proofs.FirstPlain.{arity_faults}
use Rattle.name_resolution.proofs.faults.first_arity_fault.Goals as goal

pub returns : goal.returns
returns c = c.arity_fault_place.ensures ∙ arity_faults c.args.heads.now c.args.firsts.now c.args.occurrences.now c.requires
