use Rattle.table_runner.proofs.Stepping.{acts, does_in}
use Rattle.table_runner.proofs.standing.advance.Goals as goal

pub action_in-requires : goal.action_in-requires
action_in-requires g c = record {
  acts = acts _ _ _ _ c.requires.can c.requires.stands.0 _ c.requires.stands.1;
}

pub act-requires-clause-does : goal.act-requires-clause-does
act-requires-clause-does g c = does_in _ _ _ _ c.requires.can c.requires.stands.0 _ c.requires.stands.1 _ c.in_ok-action.ensures
