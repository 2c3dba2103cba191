use Rattle.std.proofs.Common.{◌-◌, Some, sym, ap, ◌∙◌, arith}
use Rattle.std.proofs.lemmas.Option.{get_or_from_slice_get}
use Rattle.refutation_check.proofs.Naming.{named_at, named_outside}
use Rattle.refutation_check.proofs.checker.clause_of_formula.Goals as goal

pub returns-then-number-eq0-clause-value : goal.returns-then-number-eq0-clause-value
returns-then-number-eq0-clause-value c =
    sym (named_outside c.args.cnf.now.clauses 1 c.args.number (λ a b. omega (arith, c.if-number-eq0.true)))

pub returns-else-number-eq0-clause-value : goal.returns-else-number-eq0-clause-value
returns-else-number-eq0-clause-value c =
    let clauses = c.args.cnf.now.clauses in
    let d = c.get.result.now in
    let some = c.if-number-eq0.false in
    ap Some (sym (get_or_from_slice_get clauses (c.args.number - 1) d d c.get.ensures.value))
    ∙ sym (named_at clauses 1 (c.args.number - 1) c.args.number d (omega (arith, c.requires, some)) (omega (arith, some)))
