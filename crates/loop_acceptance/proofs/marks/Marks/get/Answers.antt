use Rattle.std.proofs.Common.{◌∙◌, Some, sym, ap, arith}
use Rattle.loop_acceptance.specs.internal.PackedMarks.{mark_of}
use Rattle.loop_acceptance.proofs.PackedMarks.{byte_within, mark_read}
use Rattle.loop_acceptance.proofs.marks.Marks.get.Goals as goal

pub index-requires : goal.index-requires
index-requires c =
    let within = byte_within c.self.inside.pairing.states c.self.inside.pairing.some c.self.inside.count c.self.inside.bytes.items
    c.args.self.now c.args.node c.self.invariant c.self.view_is c.requires in
    rw c.place_of-place.ensures (omega (arith, within))

pub returns : goal.returns
returns c =
    let at = c.place_of-place.ensures in
    mark_read c.self.inside.pairing.states c.self.inside.pairing.some c.self.inside.count c.self.inside.bytes.items
    c.args.self.now c.args.node c.self.invariant c.self.view_is c.requires c.index.result.now (rw at at c.index.ensures)
    ∙ ap Some (sym (c.of_number.ensures ∙ ap mark_of (rw at at c.bits_at.ensures)))
