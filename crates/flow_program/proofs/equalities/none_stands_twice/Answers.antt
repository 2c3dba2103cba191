use Rattle.base_library.proofs.MadeLists.{image_passes}
use Rattle.program_listing.specs.Listing.{placed_line}
use Rattle.program_listing.specs.internal.NamesStand.{placed_line_stands}
use Rattle.flow_program.proofs.EqualityKeys.{twice, once, seen_more}
use Rattle.flow_program.proofs.equalities.none_stands_twice.Goals as goal

pub key_of-requires : goal.key_of-requires
key_of-requires c =
    image_passes placed_line (placed_line_stands c.args.text.now) _ c.requires c.loop-equality-test.true c.equality-item.is

pub returns-then-not-branch : goal.returns-then-not-branch
returns-then-not-branch c =
    twice c.args.text.now c.args.equalities.now c.loop-equality.equality-index c.equality-item.result c.loop-equality-test.true
    c.equality-item.is c.in_ok-key.key c.in_ok-key.ensures c.loop-equality.seen c.loop-equality.invariant.seen
    c.loop-equality.invariant.apart c.in_ok-insert.field-0 c.in_ok-insert.ensures.added c.if-not-branch.true

pub loop-equality-preserved : goal.loop-equality-preserved
loop-equality-preserved c = record {
  apart = once c.args.text.now c.args.equalities.now c.loop-equality.equality-index c.equality-item.result c.loop-equality-test.true
      c.equality-item.is c.in_ok-key.key c.in_ok-key.ensures c.loop-equality.seen c.loop-equality.invariant.seen
      c.loop-equality.invariant.apart c.in_ok-insert.field-0 c.in_ok-insert.ensures.added c.if-not-branch.false;
  seen = seen_more c.args.text.now c.args.equalities.now c.loop-equality.equality-index c.equality-item.result
      c.loop-equality-test.true c.equality-item.is c.in_ok-key.key c.in_ok-key.ensures c.loop-equality.seen
      c.loop-equality.invariant.seen c.insert.new.self c.in_ok-insert.ensures.updates;
}
