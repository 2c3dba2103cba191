use Rattle.std.proofs.Common.{◌≡◌, drop}
use Rattle.std.specs.Ordering.{nat_cmp}
use Rattle.ltl_formula.specs.Increasing.{union}
use Rattle.obligations.proofs.sets.union_of.Given as goal

abbrev pub invariant-loop-member : goal.invariant-loop-member
invariant-loop-member l = union nat_cmp l.both.items (drop l.member-index l.right) ≡ union nat_cmp l.fn.left l.fn.right
