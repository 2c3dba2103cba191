use Rattle.std.proofs.Common.{◌++◌, ◌∙◌, ap, sym}
use Rattle.clause_core.proofs.Sets.{in_order_already}
use Rattle.clause_core.proofs.clause_list.put_in_order.Goals as goal

pub returns-then-branch-clause-ok : goal.returns-then-branch-clause-ok
returns-then-branch-clause-ok c =
    c.in_ok-put_rising.ensures.all c.if-branch.true
    ∙ ap (λ ls. c.args.out.now.items ++ ls) (sym (in_order_already c.args.literals.now (c.in_ok-put_rising.ensures.rising c.if-branch.true)))
