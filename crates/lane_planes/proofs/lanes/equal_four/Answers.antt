use Rattle.std.proofs.Common.{sym, subst, ap, map, ◌∙◌, ◌+◌, bit_xor}
use lib.Lanes.{chunk, put_chunk, zip2}
use Rattle.lane_planes.specs.internal.Parts.{IsJoined, turned, agreed}
use Rattle.lane_planes.proofs.PartLemmas.{lanes_joined, map_joined}
use Rattle.lane_planes.proofs.lanes.equal_four.Goals as goal

pub returns : goal.returns
returns c = subst (IsJoined agreed c.args.at (c.args.at + 4) c.args.out.now c.args.other.now)
    (sym (c.store.ensures
    ∙ (λ i. put_chunk c.args.at c.args.out.now (map turned (zip2 bit_xor (c.loaded.ensures i) (c.loaded-2.ensures i))))
    ∙ ap (put_chunk c.args.at c.args.out.now) (map_joined turned bit_xor (chunk c.args.at 4 c.args.out.now) (chunk c.args.at 4
    c.args.other.now))))
    (lanes_joined agreed c.args.at 4 c.args.out.now c.args.other.now c.requires.within c.requires.beside)
