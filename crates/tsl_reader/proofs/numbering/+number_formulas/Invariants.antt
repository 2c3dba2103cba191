use Rattle.std.proofs.Common.{◌≡◌, ◌≤◌, map}
use Rattle.tsl_terms.specs.FormulaTree.{formula_tree}
use Rattle.spec_syntax.specs.declared.trees.ReadFormulas.{size-ReadFormulas}
use Rattle.tsl_reader.specs.Naming.{numbered_members}
use Rattle.spec_syntax.specs.SyntaxView.{formulas_syntax}
use Rattle.tsl_reader.proofs.NumberLemmas.{members_front}
use Rattle.tsl_reader.proofs.numbering.+number_formulas.Given as goal

-- the formulas so far, and then those that are left
abbrev pub invariant-numbered_members-loop-rest : goal.invariant-numbered_members-loop-rest
invariant-numbered_members-loop-rest l = record {
  numbered : members_front (map formula_tree l.trees.items) (numbered_members l.names (formulas_syntax l.rest))
      ≡ numbered_members l.names (formulas_syntax l.fn.formulas);
  size : size-ReadFormulas l.rest ≤ size-ReadFormulas l.initial.rest;
}
