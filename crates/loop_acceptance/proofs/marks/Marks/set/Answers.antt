use Rattle.std.proofs.Common.{arith}
use Rattle.loop_acceptance.proofs.PackedMarks.{byte_within, mark_set}
use Rattle.loop_acceptance.proofs.marks.Marks.set.Goals as goal

pub index-requires : goal.index-requires
index-requires c =
    let within = byte_within c.self.inside.pairing.states c.self.inside.pairing.some c.self.inside.count c.self.inside.bytes.items
    c.args.self.now c.args.node c.self.invariant c.self.view_is c.requires in
    rw c.place_of-place.ensures (omega (arith, within))

pub index_mut-requires : goal.index_mut-requires
index_mut-requires c =
    let within = byte_within c.self.inside.pairing.states c.self.inside.pairing.some c.self.inside.count c.self.inside.bytes.items
    c.args.self.now c.args.node c.self.invariant c.self.view_is c.requires in
    rw c.place_of-place.ensures (omega (arith, within))

pub returns : goal.returns
returns c =
    let at = c.place_of-place.ensures in
    rw at (mark_set c.self.inside.pairing.states c.self.inside.pairing.some c.self.inside.count c.self.inside.bytes.items
    c.args.self.now c.args.node c.self.invariant c.self.view_is c.requires c.index.result.now (rw at at c.index.ensures)
    c.with_mark.result c.args.mark (rw at at c.with_mark.ensures.there) (rw at at c.with_mark.ensures.others))
