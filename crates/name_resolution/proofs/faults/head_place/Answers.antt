use Rattle.std.proofs.Common.{◌∙◌, sym}
use Rattle.name_resolution.specs.Faults.{is_head_of}
use Rattle.name_resolution.specs.OccurrenceView.{occurrence_of}
use Rattle.name_resolution.proofs.FirstPlain.{position_map}
use Rattle.name_resolution.proofs.faults.head_place.Goals as goal

pub returns : goal.returns
returns c = c.place_of_head.ensures ∙ sym (position_map occurrence_of (is_head_of c.args.name.now) c.args.occurrences.now)
