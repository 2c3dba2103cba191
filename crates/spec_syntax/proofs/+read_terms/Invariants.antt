-- The list that is left is no deeper than the one that was handed in.
use Rattle.std.proofs.Common.{◌≤◌}
use Rattle.spec_syntax.specs.declared.trees.ReadTerms.{size-ReadTerms}
use Rattle.spec_syntax.proofs.+read_terms.Given as goal

abbrev pub invariant-trees::ReadTerms::drop-loop-self : goal.invariant-trees::ReadTerms::drop-loop-self
invariant-trees::ReadTerms::drop-loop-self l = size-ReadTerms l.self ≤ size-ReadTerms l.fn.self
