use Rattle.obligations.proofs.StepLemmas.{rises_seen}
use Rattle.obligations.specs.Numbers.{lent_trees}
use Rattle.obligations.proofs.stepping.choice_of.Goals as goal

pub set_named-requires : goal.set_named-requires
set_named-requires c =
    rises_seen (lent_trees c.args.names.now) c.requires.rising c.args.choice.now.next.items _ c.deref.ensures.value
    c.requires.well.next_named c.requires.well.next_rises

pub set_named-requires-2 : goal.set_named-requires-2
set_named-requires-2 c =
    rises_seen (lent_trees c.args.names.now) c.requires.rising c.args.choice.now.postponed.items _ c.deref-2.ensures.value
    c.requires.well.postponed_named c.requires.well.postponed_rises
