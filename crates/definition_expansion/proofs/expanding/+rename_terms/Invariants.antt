use Rattle.std.proofs.Common.{◌≡◌, ◌≤◌, map}
use Rattle.spec_syntax.specs.declared.trees.ReadTerms.{size-ReadTerms}
use Rattle.spec_syntax.specs.Syntax.{more_terms}
use Rattle.definition_expansion.specs.Expansion.{renamed_terms, ungrouped_terms}
use Rattle.spec_syntax.specs.SyntaxView.{term_syntax, terms_syntax}
use Rattle.definition_expansion.specs.internal.Standing.{standing}
use Rattle.base_library.proofs.Lists.{with_front}
use Rattle.definition_expansion.proofs.expanding.+rename_terms.Given as goal

-- the terms so far, and then those that are left
abbrev pub invariant-renamed_terms-loop-rest : goal.invariant-renamed_terms-loop-rest
invariant-renamed_terms-loop-rest l = record {
  renamed : with_front more_terms (map term_syntax l.list.items) (ungrouped_terms (renamed_terms (standing l.passed) (terms_syntax l.rest)))
      ≡ ungrouped_terms (renamed_terms (standing l.passed) (terms_syntax l.fn.terms));
  size : size-ReadTerms l.rest ≤ size-ReadTerms l.initial.rest;
}
