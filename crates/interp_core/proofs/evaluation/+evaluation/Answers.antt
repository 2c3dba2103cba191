use Rattle.std.proofs.Common.{◌≡◌, map, length, rules, Some, OnOk, subst}
use Rattle.tsl_terms.specs.TermTree.{term_trees}
use Rattle.tsl_terms.specs.Value.{values}
use Rattle.interp_core.specs.LeafValue.{leaf_value}
use Rattle.interp_core.proofs.Pushed.{last_there, last_replaced}
use Rattle.interp_core.proofs.evaluation.+evaluation.Goals as goal

pub push_value-apply_to_last-requires-clause-had : goal.push_value-apply_to_last-requires-clause-had
push_value-apply_to_last-requires-clause-had g t c =
    let here : c.len-before.result ≡ length c.args.found.now.items = search rules in
    last_there g.A.Algebra.seen c.args.found.now.items c.push_values.new.found.items
    ((g.A.Algebra.meanings c.args.algebra.now).function c.in-Apply.function)
    (values (g.A.Algebra.meanings c.args.algebra.now) (leaf_value g.A.Algebra.seen c.args.leaves.now) (term_trees c.in-Apply.arguments))
    c.len-before.result here c.in_ok-push_values-in-Apply.ensures (rw c.in-Apply.is at c.requires.had)

pub push_value-returns-in_ok-push_values-in-Apply : goal.push_value-returns-in_ok-push_values-in-Apply
push_value-returns-in_ok-push_values-in-Apply g t c =
    let here : c.len-before.result ≡ length c.args.found.now.items = search rules in
    rw c.in-Apply.is (subst (λ o. OnOk c.apply_to_last.result (o ≡ Some (map g.A.Algebra.seen c.apply_to_last.new.found.items)))
    (last_replaced g.A.Algebra.seen c.args.found.now.items c.push_values.new.found.items
    ((g.A.Algebra.meanings c.args.algebra.now).function c.in-Apply.function)
    (values (g.A.Algebra.meanings c.args.algebra.now) (leaf_value g.A.Algebra.seen c.args.leaves.now) (term_trees c.in-Apply.arguments))
    c.len-before.result here c.in_ok-push_values-in-Apply.ensures) c.apply_to_last.ensures)
