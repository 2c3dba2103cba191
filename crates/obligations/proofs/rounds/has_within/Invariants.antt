use Rattle.std.proofs.Common.{◌≡◌, drop}
use Rattle.obligations.specs.Numbers.{choice_key}
use Rattle.obligations.specs.internal.Rounds.{has_within, lent_keys}
use Rattle.obligations.proofs.rounds.has_within.Given as goal

-- none of the choices gone through lies within it
abbrev pub invariant-loop-other : goal.invariant-loop-other
invariant-loop-other l = has_within (lent_keys (drop l.other-index l.lighter)) (choice_key l.choice)
    ≡ has_within (lent_keys l.lighter) (choice_key l.choice)
