use Rattle.std.proofs.Common.{◌≡◌, ◌≤◌, map}
use Rattle.tsl_terms.specs.TermTree.{term_tree}
use Rattle.spec_syntax.specs.declared.trees.ReadTerms.{size-ReadTerms}
use Rattle.tsl_reader.specs.Naming.{numbered_terms}
use Rattle.spec_syntax.specs.SyntaxView.{terms_syntax}
use Rattle.tsl_terms.proofs.NumberedTerms.{numbered_front}
use Rattle.tsl_reader.proofs.numbering.+number_terms.Given as goal

-- the terms so far, and then those that are left
abbrev pub invariant-numbered_terms-loop-rest : goal.invariant-numbered_terms-loop-rest
invariant-numbered_terms-loop-rest l = record {
  numbered : numbered_front (map term_tree l.trees.items) (numbered_terms l.names (terms_syntax l.rest))
      ≡ numbered_terms l.names (terms_syntax l.fn.terms);
  size : size-ReadTerms l.rest ≤ size-ReadTerms l.initial.rest;
}
