use Rattle.std.proofs.Common.{◌≡◌, ◌++◌, false, drop, map}
use Rattle.obligations.specs.Numbers.{choice_keys}
use Rattle.obligations.proofs.rounds.no_flags.Given as goal

-- the flags so far, and then those of the choices that are left
abbrev pub invariant-loop-choice : goal.invariant-loop-choice
invariant-loop-choice l = l.flags.items ++ map (λ c. false) (choice_keys (drop l._choice-index l.choices))
    ≡ map (λ c. false) (choice_keys l.choices)
