use Rattle.std.proofs.Common.{◌≡◌, ◌<◌, ◌≤◌, ◌^◌, ◌++◌, length, map}
use Rattle.spec_syntax.specs.declared.trees.ReadTerms.{size-ReadTerms}
use Rattle.tsl_reader.specs.Naming.{terms_uses}
use Rattle.spec_syntax.specs.SyntaxView.{terms_syntax}
use Rattle.tsl_reader.specs.UseView.{read_use}
use Rattle.tsl_reader.proofs.uses.+term_uses.Given as goal

-- the uses so far, and then those of the terms that are left
abbrev pub invariant-add_terms-loop-rest : goal.invariant-add_terms-loop-rest
invariant-add_terms-loop-rest l = record {
  uses_are : map read_use l.list.items ++ terms_uses (terms_syntax l.rest) ≡ map read_use l.fn.list.items
      ++ terms_uses (terms_syntax l.fn.terms);
  few : length (terms_uses (terms_syntax l.rest)) < 2 ^ 32;
  size : size-ReadTerms l.rest ≤ size-ReadTerms l.initial.rest;
}
