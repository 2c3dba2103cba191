use Rattle.std.proofs.Common.{◌∙◌, ap}
use Rattle.clause_core.specs.Literals.{Lit}
use Rattle.bounded_encoding.specs.internal.Transitions.{moved}
use Rattle.bounded_encoding.proofs.Moved.{put_none, put_more, put_all}
use Rattle.bounded_encoding.proofs.edge_literals.put_moved.Goals as goal

pub loop-place-init : goal.loop-place-init
loop-place-init c = put_none c.args.base c.args.asked.now c.args.literals.now c.requires.room

pub loop-place-preserved : goal.loop-place-preserved
loop-place-preserved c = put_more c.args.base c.args.asked.now c.loop-place.literals c.loop-place.place c.index-asked-place.result _
    c.loop-place-test.true (c.moved.ensures ∙ ap (λ (l : Lit). moved c.args.base l) c.index-asked-place.is) c.loop-place.invariant

pub returns : goal.returns
returns c = put_all c.args.base c.args.asked.now c.loop-place.literals c.loop-place.place c.loop-place-test.false c.loop-place.invariant
