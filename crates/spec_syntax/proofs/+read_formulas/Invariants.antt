-- The list that is left is no deeper than the one that was handed in.
use Rattle.std.proofs.Common.{◌≤◌}
use Rattle.spec_syntax.specs.declared.trees.ReadFormulas.{size-ReadFormulas}
use Rattle.spec_syntax.proofs.+read_formulas.Given as goal

abbrev pub invariant-trees::ReadFormulas::drop-loop-self :
    goal.invariant-trees::ReadFormulas::drop-loop-self
invariant-trees::ReadFormulas::drop-loop-self l = size-ReadFormulas l.self ≤ size-ReadFormulas l.fn.self
