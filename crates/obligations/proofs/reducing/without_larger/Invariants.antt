use Rattle.std.proofs.Common.{◌≡◌, ◌++◌, not, drop, filter, nat_eq}
use Rattle.obligations.specs.Choices.{is_larger}
use Rattle.obligations.specs.Numbers.{choice_keys}
use Rattle.obligations.proofs.reducing.without_larger.Given as goal

-- the choices kept so far, and then those that are left without the larger ones
abbrev pub invariant-loop-choice : goal.invariant-loop-choice
invariant-loop-choice l =
    choice_keys l.kept.items ++ filter (λ c. not (is_larger nat_eq (choice_keys l.choices) c)) (choice_keys (drop l.choice-index l.choices))
    ≡ filter (λ c. not (is_larger nat_eq (choice_keys l.choices) c)) (choice_keys l.choices)
