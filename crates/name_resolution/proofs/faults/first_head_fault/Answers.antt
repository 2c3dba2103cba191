use Rattle.std.proofs.Common.{◌∙◌, sym}
use Rattle.name_resolution.specs.Faults.{is_redefined}
use Rattle.name_resolution.specs.OccurrenceView.{occurrence_of}
use Rattle.name_resolution.proofs.FirstPlain.{position_map}
use Rattle.name_resolution.proofs.faults.first_head_fault.Goals as goal

pub returns : goal.returns
returns c = c.head_fault_place.ensures ∙ sym (position_map occurrence_of (λ o. is_redefined o.role) c.args.occurrences.now)
