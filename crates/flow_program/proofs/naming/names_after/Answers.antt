use Rattle.flow_program.proofs.WithUses.{use_is_few}
use Rattle.flow_program.proofs.naming.names_after.Goals as goal

pub add_use-requires : goal.add_use-requires
add_use-requires c =
    use_is_few c.loop-usage.names _ c.args.uses.now c.loop-usage.usage-index _ c.loop-usage-test.true c.loop-usage.invariant c.requires
