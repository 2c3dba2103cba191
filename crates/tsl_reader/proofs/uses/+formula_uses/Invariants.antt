use Rattle.std.proofs.Common.{◌≡◌, ◌<◌, ◌≤◌, ◌^◌, ◌++◌, length, map}
use Rattle.spec_syntax.specs.declared.trees.ReadFormulas.{size-ReadFormulas}
use Rattle.tsl_reader.specs.Naming.{members_uses}
use Rattle.spec_syntax.specs.SyntaxView.{formulas_syntax}
use Rattle.tsl_reader.specs.UseView.{read_use}
use Rattle.tsl_reader.proofs.uses.+formula_uses.Given as goal

-- the uses so far, and then those of the formulas that are left
abbrev pub invariant-add_members-loop-rest : goal.invariant-add_members-loop-rest
invariant-add_members-loop-rest l = record {
  uses_are : map read_use l.list.items ++ members_uses (formulas_syntax l.rest) ≡ map read_use l.fn.list.items
      ++ members_uses (formulas_syntax l.fn.formulas);
  few : length (members_uses (formulas_syntax l.rest)) < 2 ^ 32;
  size : size-ReadFormulas l.rest ≤ size-ReadFormulas l.initial.rest;
}
