use Rattle.control_flow_model.proofs.PartLemmas.{part_kept, part_stands}
use Rattle.control_flow_model.proofs.parting.number_of_part.Goals as goal

pub returns-clause-kept : goal.returns-clause-kept
returns-clause-kept c =
    part_kept c.args.part c.args.parts.now.keys c.insert_full.new.self.keys c.in_ok-number.ensures.keys

pub returns-clause-there : goal.returns-clause-there
returns-clause-there c = part_stands c.args.part c.insert_full.new.self.keys c.in_ok-number.number c.in_ok-number.ensures.stored
