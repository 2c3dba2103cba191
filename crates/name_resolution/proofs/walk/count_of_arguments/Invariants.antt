use Rattle.std.proofs.Common.{◌≡◌, ◌+◌}
use Rattle.spec_syntax.specs.SyntaxView.{terms_syntax}
use Rattle.definition_expansion.specs.Occurrences.{count_of}
use Rattle.name_resolution.proofs.walk.count_of_arguments.Given as goal

-- the terms so far, and then those that are left
abbrev pub invariant-loop-rest : goal.invariant-loop-rest
invariant-loop-rest l = l.count + count_of (terms_syntax l.rest) ≡ count_of (terms_syntax l.fn.terms)
