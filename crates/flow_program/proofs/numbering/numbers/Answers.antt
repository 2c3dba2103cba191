use Rattle.base_library.proofs.Passes.{passes_within}
use Rattle.program_listing.specs.internal.NamesStand.{name_stands}
use Rattle.flow_program.specs.internal.Numbering.{numbered}
use Rattle.base_library.proofs.Gathered.{each_there_within, copied_more}
use Rattle.flow_program.proofs.numbering.numbers.Goals as goal

pub numbered-requires-clause-stands : goal.numbered-requires-clause-stands
numbered-requires-clause-stands c =
    passes_within (name_stands c.args.text.now) c.args.places.now c.loop-place.place-index _ c.requires.stand c.loop-place-test.true

pub numbered-requires-clause-known : goal.numbered-requires-clause-known
numbered-requires-clause-known c =
    each_there_within
    (numbered c.args.names.now c.args.text.now) c.args.places.now c.loop-place.place-index _ c.requires.known c.loop-place-test.true

pub loop-place-preserved : goal.loop-place-preserved
loop-place-preserved c =
    copied_more (numbered c.args.names.now c.args.text.now) c.args.places.now c.loop-place.place-index _ c.loop-place.ids _
    c.numbered.result _ c.loop-place-test.true c.in_ok-push.ensures.ok c.numbered.ensures c.loop-place.invariant
