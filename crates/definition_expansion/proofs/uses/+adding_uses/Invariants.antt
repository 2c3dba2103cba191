use Rattle.std.proofs.Common.{◌≡◌, ◌≤◌, ◌++◌}
use Rattle.spec_syntax.specs.declared.trees.ReadFormulas.{size-ReadFormulas}
use Rattle.spec_syntax.specs.SyntaxView.{formulas_syntax}
use Rattle.definition_expansion.specs.internal.UseNumbers.{numbers_of, members_used_names}
use Rattle.definition_expansion.proofs.uses.+adding_uses.Given as goal

-- the numbers so far, and then those of the formulas that are left
abbrev pub invariant-add_uses_of_members-loop-rest : goal.invariant-add_uses_of_members-loop-rest
invariant-add_uses_of_members-loop-rest l = record {
  added : l.uses.items ++ numbers_of l.heads (members_used_names (formulas_syntax l.rest))
      ≡ l.fn.uses.items ++ numbers_of l.heads (members_used_names (formulas_syntax l.fn.formulas));
  size : size-ReadFormulas l.rest ≤ size-ReadFormulas l.initial.rest;
}
