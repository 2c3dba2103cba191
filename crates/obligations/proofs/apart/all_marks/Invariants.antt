use Rattle.std.proofs.Common.{◌≡◌, drop, bit_or}
use Rattle.obligations.specs.Numbers.{choice_keys}
use Rattle.obligations.specs.internal.Antichains.{all_marks}
use Rattle.obligations.proofs.apart.all_marks.Given as goal

-- the bits of the choices gone through, and those of the ones that are left
abbrev pub invariant-loop-choice : goal.invariant-loop-choice
invariant-loop-choice l = bit_or l.all (all_marks (choice_keys (drop l.choice-index l.choices))) ≡ all_marks (choice_keys l.choices)
