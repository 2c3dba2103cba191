use Rattle.std.proofs.Common.{◌∙◌, ◌++◌, ◌∷◌, [], ap}
use Rattle.clause_core.specs.Clauses.{in_order}
use Rattle.clause_core.proofs.Sets.{IsIncreasing-in_order}
use Rattle.clause_core.proofs.Parts.{clauses_more}
use Rattle.clause_core.proofs.clause_list.ClauseList.push.Goals as goal

pub invariant_of-self : goal.invariant_of-self
invariant_of-self c = (clauses_more _ _ _ _ _ c.self.invariant (IsIncreasing-in_order c.args.literals.now) c.in-Ok.ensures.literals
    c.in-Ok.ensures.ends).0

pub returns-in-Ok-clause-ok : goal.returns-in-Ok-clause-ok
returns-in-Ok-clause-ok c =
    (clauses_more _ _ _ _ _ c.self.invariant (IsIncreasing-in_order c.args.literals.now) c.in-Ok.ensures.literals c.in-Ok.ensures.ends).1
    ∙ ap (λ xss. xss ++ in_order c.args.literals.now ∷ []) c.self.view_is
