use Rattle.std.proofs.Common.{rules}
use Rattle.std.proofs.lemmas.Result.{on_ok_weaker}
use Rattle.spec_syntax.specs.declared.trees.ReadFormulas.{the_lemmas}
use Rattle.spec_syntax.specs.SyntaxView.{formula_syntax, formulas_syntax}
use Rattle.definition_expansion.specs.internal.UseNumbers.{used_names, members_used_names}
use Rattle.definition_expansion.proofs.UseRows.{numbers_both, numbers_further}
use Rattle.definition_expansion.proofs.uses.+adding_uses.Goals as goal

pub add_uses_of_members-loop-rest-preserved : goal.add_uses_of_members-loop-rest-preserved
add_uses_of_members-loop-rest-preserved t c = record {
  added =
      numbers_further c.args.heads.now c.loop-rest.uses.items c.add_uses.new.uses.items _
      (used_names (formula_syntax c.deref.result.now)) (members_used_names (formulas_syntax c.deref-rest.result.now)) c.in_ok-add_uses.ensures
      (rw (c.deref.ensures, c.deref-rest.ensures) (rw c.in-More.is at c.loop-rest.invariant.added));
  size = search (rules, the_lemmas);
}

pub add_uses-returns-in_ok-add_uses-in-Between : goal.add_uses-returns-in_ok-add_uses-in-Between
add_uses-returns-in_ok-add_uses-in-Between t c =
    on_ok_weaker c.add_uses-in-Between-2.result
    (λ second. rw c.in-Between.is (rw (← c.deref-in-Between.ensures, ← c.deref-in-Between-2.ensures)
    (numbers_both c.args.heads.now c.args.uses.now.items c.add_uses-in-Between.new.uses.items c.add_uses-in-Between-2.new.uses.items
    (used_names (formula_syntax c.deref-in-Between.result.now)) (used_names (formula_syntax c.deref-in-Between-2.result.now))
    c.in_ok-add_uses-in-Between.ensures second)))
    c.add_uses-in-Between-2.ensures
