use Rattle.std.proofs.Common.{◌∙◌, not, map, ap, nat_eq}
use Rattle.obligations.specs.Choices.{is_larger, without_larger}
use Rattle.obligations.specs.Numbers.{choice_keys}
use Rattle.obligations.specs.internal.Rounds.{flagged_members}
use Rattle.obligations.proofs.WeightLemmas.{flagged_is}
use Rattle.obligations.proofs.reducing.reduced_by_pairs.Goals as goal

pub returns : goal.returns
returns c =
    let keys = choice_keys c.in_ok-distinct.distinct.items in
    let told = c.as_slice-2.ensures.value ∙ c.in_ok-flags.ensures
    ∙ ap (λ l. map (λ x. not (is_larger nat_eq (choice_keys l) x)) (choice_keys l)) c.as_slice.ensures.value in
    c.in_ok-kept.ensures ∙ ap (flagged_members keys) told ∙ flagged_is (λ x. not (is_larger nat_eq keys x)) keys
    ∙ ap (without_larger nat_eq) c.in_ok-distinct.ensures
