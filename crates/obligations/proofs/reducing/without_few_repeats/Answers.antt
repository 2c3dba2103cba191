use Rattle.std.proofs.Common.{◌∙◌, ◌++◌, [], ◌∷◌, not, cond, ap, nat_eq}
use Rattle.base_library.specs.Kept.{is_kept}
use Rattle.obligations.specs.Choices.{same_choice}
use Rattle.obligations.specs.Numbers.{choice_key, choice_keys}
use Rattle.obligations.proofs.ReducingLemmas.{push_step}
use Rattle.obligations.proofs.reducing.without_few_repeats.Goals as goal

pub loop-choice-preserved : goal.loop-choice-preserved
loop-choice-preserved c =
    let told = c.is_there-is_new.ensures
    ∙ ap (λ l. is_kept (λ k d. same_choice nat_eq d k) (choice_keys l) (choice_key c.in-Some.choice)) c.as_slice.ensures.value in
    push_step c.loop-choice.yielded c.loop-choice.kept.items c.push_choice_if.new.list.items c.in-Some.choice c.loop-choice.invariant
    (c.in_ok-push_choice_if.ensures ∙ ap (λ b. choice_keys c.loop-choice.kept.items ++ cond (not b) (choice_key c.in-Some.choice ∷ []) []) told)
