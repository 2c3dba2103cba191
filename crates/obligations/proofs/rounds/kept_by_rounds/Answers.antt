use Rattle.std.proofs.Common.{◌∙◌, not, nat_eq, ap}
use Rattle.obligations.specs.Choices.{is_larger}
use Rattle.obligations.specs.Numbers.{choice_keys}
use Rattle.obligations.specs.internal.Rounds.{flags_after, flagged_members}
use Rattle.obligations.proofs.RoundsLemmas.{flags_tell}
use Rattle.obligations.proofs.WeightLemmas.{all_rising, flagged_is}
use Rattle.obligations.proofs.rounds.kept_by_rounds.Goals as goal

pub returns : goal.returns
returns c =
    c.in_ok-kept.ensures
    ∙ ap (flagged_members (choice_keys c.args.choices.now))
    (c.in_ok-run_rounds.ensures ∙ ap (flags_after (choice_keys c.args.choices.now) c.args.bound) c.requires.flags
    ∙ flags_tell (choice_keys c.args.choices.now) (all_rising (choice_keys c.args.choices.now) c.requires.rising) c.args.bound
    c.requires.bound)
    ∙ flagged_is (λ x. not (is_larger nat_eq (choice_keys c.args.choices.now) x)) (choice_keys c.args.choices.now)
