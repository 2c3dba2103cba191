use Rattle.tsl_terms.proofs.FirstUses.{room, names_after}
use Rattle.tsl_terms.proofs.clash.first_uses.Goals as goal

pub add_use-requires : goal.add_use-requires
add_use-requires c = room c.loop-usage.names _ c.args.uses.now c.loop-usage.usage-index _ c.loop-usage-test.true c.loop-usage.invariant
    c.requires

pub loop-usage-preserved : goal.loop-usage-preserved
loop-usage-preserved c =
    names_after c.loop-usage.names c.add_use.new.names _ c.args.uses.now c.loop-usage.usage-index _ c.loop-usage-test.true
    c.in_ok-add_use.ensures c.loop-usage.invariant
