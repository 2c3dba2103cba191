use Rattle.std.proofs.Common.{◌≡◌, ◌++◌, not, drop, map, nat_eq}
use Rattle.obligations.specs.Choices.{is_larger}
use Rattle.obligations.specs.Numbers.{choice_keys}
use Rattle.obligations.proofs.reducing.small_flags.Given as goal

-- the flags so far, and then those of the choices that are left
abbrev pub invariant-loop-choice : goal.invariant-loop-choice
invariant-loop-choice l =
    l.flags.items ++ map (λ c. not (is_larger nat_eq (choice_keys l.choices) c)) (choice_keys (drop l.choice-index l.choices))
    ≡ map (λ c. not (is_larger nat_eq (choice_keys l.choices) c)) (choice_keys l.choices)
