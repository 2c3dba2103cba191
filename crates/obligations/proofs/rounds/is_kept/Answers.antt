use Rattle.obligations.specs.Numbers.{choice_key}
use Rattle.obligations.specs.internal.Rounds.{lent_keys}
use Rattle.obligations.proofs.KeepLemmas.{kept_by}
use Rattle.obligations.proofs.rounds.is_kept.Goals as goal

pub returns-then-own-round : goal.returns-then-own-round
returns-then-own-round c = kept_by (lent_keys c.args.lighter.now) c.args.own c.args.round
    (choice_key c.args.choice.now) c.has_within.result c.requires c.if-own-round.true c.has_within.ensures
