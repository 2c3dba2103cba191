use Rattle.std.proofs.Common.{sym, subst}
use Rattle.ltl_formula.specs.LtlTree.{ltl_tree}
use Rattle.ltl_formula.specs.LtlOrder.{tree_cmp}
use Rattle.ltl_formula.specs.Increasing.{IsIncreasing}
use Rattle.obligations.specs.Numbers.{lent_trees}
use Rattle.obligations.proofs.NamingLemmas.{inserted, rises_with}
use Rattle.obligations.proofs.naming.insert_name.Goals as goal

pub returns-in_ok-insert-clause-rises : goal.returns-in_ok-insert-clause-rises
returns-in_ok-insert-clause-rises c =
    subst (IsIncreasing tree_cmp) (sym (inserted c.args.formula c.args.names.now.items c.deref.result.now c.insert.new.self.items
    c.in-Err.place c.deref.ensures.value c.in_ok-insert.ensures.items c.in-Err.ensures.gap))
    (rises_with (ltl_tree c.args.formula.now) (lent_trees c.args.names.now.items) c.requires)
