use Rattle.std.proofs.Common.{◌≡◌, ◌+◌}
use Rattle.tsl_reader.specs.Naming.{count_of_arguments}
use Rattle.spec_syntax.specs.SyntaxView.{terms_syntax}
use Rattle.tsl_reader.proofs.uses.count_of_arguments.Given as goal

-- the terms so far, and then those that are left
abbrev pub invariant-loop-rest : goal.invariant-loop-rest
invariant-loop-rest l = l.count + count_of_arguments (terms_syntax l.rest) ≡ count_of_arguments (terms_syntax l.fn.terms)
