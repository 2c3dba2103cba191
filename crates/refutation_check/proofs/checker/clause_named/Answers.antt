use Rattle.std.proofs.Common.{◌∙◌, sym, map, arith}
use Rattle.refutation_check.specs.Checking.{numbered_from}
use Rattle.refutation_check.specs.internal.Accepted.{numbered}
use Rattle.refutation_check.proofs.Naming.{named_left, named_right, named_no_step, named_outside}
use Rattle.refutation_check.proofs.checker.clause_named.Goals as goal

pub returns-then-number-len-clause-value : goal.returns-then-number-len-clause-value
returns-then-number-len-clause-value c =
    let clauses = c.args.cnf.now.clauses in
    let steps = c.args.accepted.now in
    c.clause_of_formula.ensures.value
    ∙ sym (named_left (numbered_from 1 clauses) (map numbered steps) c.args.number
    (named_no_step steps c.args.number
    (λ k d within e. omega (arith, c.requires.above k d within, c.if-number-len.true, c.len.ensures))))

pub returns-else-number-len-clause-value : goal.returns-else-number-len-clause-value
returns-else-number-len-clause-value c =
    let clauses = c.args.cnf.now.clauses in
    c.clause_of_step.ensures.value
    ∙ sym (named_right (numbered_from 1 clauses) (map numbered c.args.accepted.now) c.args.number
    (named_outside clauses 1 c.args.number (λ a b. omega (arith, c.if-number-len.false, c.len.ensures))))
