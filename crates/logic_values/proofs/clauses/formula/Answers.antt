use Rattle.std.proofs.Common.{◌≡◌, ◌++◌, ◌∷◌, [], ◌+◌, All, length, length-append, sym, ap, subst, ◌∙◌}
use Rattle.std.proofs.lemmas.List.Elements.{All-push}
use Rattle.clause_core.specs.Clauses.{IsIncreasing, IsOver}
use Rattle.clause_core.proofs.Sets.{in_order_already}
use Rattle.logic_values.proofs.clauses.formula.Goals as goal

pub loop-clause-preserved : goal.loop-clause-preserved
loop-clause-preserved c =
    let variables = c.args.variables in
    let old = c.loop-clause.list in
    let clause = c.clause-item.result in
    let same : c.literals.result.now ≡ clause = c.literals.ensures.value in
    let put : c.push.new.self ≡ old ++ clause ∷ [] = c.in_ok-push.ensures.ok
    ∙ ap (λ ls. old ++ ls ∷ []) (in_order_already c.literals.result.now (subst IsIncreasing (sym same) c.literals.ensures.increasing) ∙ same) in
    record {
      over = subst (All (IsOver variables)) (sym put) (All-push (IsOver variables) old clause c.loop-clause.invariant.over
          (c.is_over.ensures.0 c.if-not-is_over.false));
      long = ap length put ∙ length-append old (clause ∷ []) ∙ ap (λ n. n + 1) c.loop-clause.invariant.long;
    }
