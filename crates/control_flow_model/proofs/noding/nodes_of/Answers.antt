use Rattle.std.proofs.Common.{length, refl}
use Rattle.std.proofs.lemmas.Option.{slice_get_read}
use Rattle.base_library.proofs.Each.{each_at}
use Rattle.letter_space.specs.SpaceView.{space_tree}
use Rattle.letter_space.proofs.Places.{slice_get_image}
use Rattle.control_flow_model.specs.internal.Parts.{part_key, part_keys}
use Rattle.control_flow_model.specs.internal.PartNodes.{HasNode}
use Rattle.control_flow_model.proofs.noding.nodes_of.Goals as goal

pub node_of-requires-clause-has : goal.node_of-requires-clause-has
node_of-requires-clause-has c =
    each_at (HasNode (space_tree c.args.space.now) c.args.kept.now) (part_keys c.args.parts.now) c.loop-part.part-index
    (part_key c.part-item.result) c.requires.have
    (slice_get_image part_key c.args.parts.now c.loop-part.part-index c.part-item.result
    (slice_get_read c.args.parts.now (length c.args.parts.now) c.loop-part.part-index c.part-item.result refl c.loop-part-test.true
    c.part-item.is))
