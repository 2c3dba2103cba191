use Rattle.std.proofs.Common.{◌≡◌}
use Rattle.std.specs.Option.{is_some}
use Rattle.spec_syntax.specs.declared.trees.ReadTerms.{size-ReadTerms}
use Rattle.spec_syntax.specs.SyntaxView.{terms_syntax}
use Rattle.definition_expansion.specs.Expansion.{bare_names}
use Rattle.definition_expansion.proofs.sizing.are_bare.Given as goal

-- all are bare where those that are left are
abbrev pub invariant-loop-rest : goal.invariant-loop-rest
invariant-loop-rest l = is_some (bare_names (terms_syntax l.rest)) ≡ is_some (bare_names (terms_syntax l.fn.terms))

abbrev pub decreases-loop-rest : goal.decreases-loop-rest
decreases-loop-rest l = size-ReadTerms l.rest
