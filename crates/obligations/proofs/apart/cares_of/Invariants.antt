use Rattle.std.proofs.Common.{◌≡◌, drop, bit_or}
use Rattle.obligations.specs.Numbers.{choice_keys}
use Rattle.obligations.specs.internal.Antichains.{cares}
use Rattle.obligations.proofs.apart.cares_of.Given as goal

-- the bits of the choices gone through, and those of the ones that are left
abbrev pub invariant-loop-choice : goal.invariant-loop-choice
invariant-loop-choice l = bit_or l.all (cares (choice_keys (drop l.choice-index l.choices))) ≡ cares (choice_keys l.choices)
