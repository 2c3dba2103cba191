use Rattle.std.proofs.Common.{◌≡◌, nat_eq}
use Rattle.obligations.specs.Choices.{without_repeats}
use Rattle.obligations.specs.Numbers.{choice_keys}
use Rattle.obligations.proofs.reducing.without_few_repeats.Given as goal

-- the choices that are kept are those of the ones gone through
abbrev pub invariant-loop-choice : goal.invariant-loop-choice
invariant-loop-choice l = choice_keys l.kept.items ≡ without_repeats nat_eq (choice_keys l.yielded)
