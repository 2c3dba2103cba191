use Rattle.std.proofs.Common.{◌∙◌, ◌<ℤ◌, ◌∷◌, sym, subst}
use Rattle.base_library.proofs.Lists.{left_at}
use Rattle.clause_core.specs.Literals.{signed_number_of}
use Rattle.clause_core.specs.Clauses.{IsIncreasing}
use Rattle.clause_core.proofs.Sets.{rises_front, below_tested}
use Rattle.clause_core.proofs.clauses.rise_after.Goals as goal

pub loop-literal-preserved : goal.loop-literal-preserved
loop-literal-preserved c = λ up.
    let last = c.loop-literal.last in
    let next = c.literal-item.result in
    let below : signed_number_of last <ℤ signed_number_of next = below_tested last next (sym c.lt.ensures ∙ c.if-lt.true) in
    c.loop-literal.invariant (subst (λ ls. IsIncreasing (last ∷ ls))
    (sym (left_at c.args.literals.now c.loop-literal.literal-index next c.loop-literal-test.true c.literal-item.is))
    (rises_front last next _ below up))
