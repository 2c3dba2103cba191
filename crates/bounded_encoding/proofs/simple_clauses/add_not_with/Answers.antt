use Rattle.std.proofs.Common.{◌+◌, [], ◌∷◌, refl}
use Rattle.bounded_encoding.specs.SimpleClauses.{no_at}
use Rattle.bounded_encoding.proofs.Adding.{passed_on}
use Rattle.bounded_encoding.proofs.Begun.{begun_none, leads_first, leads_next, leads_refused, leads_cut, leads_end}
use Rattle.bounded_encoding.proofs.simple_clauses.add_not_with.Goals as goal

pub loop-y-init : goal.loop-y-init
loop-y-init c = leads_first _ _

pub returns-in_err-add_not_both-clause-refused : goal.returns-in_err-add_not_both-clause-refused
returns-in_err-add_not_both-clause-refused c = passed_on _ _ _ c.from_residual.ensures.1
    (λ is. leads_refused _ _ _ _ _ (λ y. (no_at (c.args.base + c.args.x) ∷ no_at (c.args.base + y) ∷ []) ∷ [])
    c.loop-y.invariant c.loop-y-test.true _ refl
    (c.in_err-add_not_both.ensures.refused is))

pub returns-in_err-add_not_both-clause-begun : goal.returns-in_err-add_not_both-clause-begun
returns-in_err-add_not_both-clause-begun c = passed_on _ _ _ c.from_residual.ensures.1
    (leads_cut _ _ _ _ _ (λ y. (no_at (c.args.base + c.args.x) ∷ no_at (c.args.base + y) ∷ []) ∷ [])
    c.loop-y.invariant c.loop-y-test.true _ refl
    _ (begun_none _ _ _ c.in_err-add_not_both.ensures.unchanged))

pub loop-y-preserved : goal.loop-y-preserved
loop-y-preserved c =
    leads_next _ _ _ _ _ (λ y. (no_at (c.args.base + c.args.x) ∷ no_at (c.args.base + y) ∷ []) ∷ [])
    c.loop-y.invariant c.loop-y-test.true _ refl
    _ c.in_ok-add_not_both.ensures.added

pub returns-clause-added : goal.returns-clause-added
returns-clause-added c = leads_end _ _ _ _ _ (λ y. (no_at (c.args.base + c.args.x) ∷ no_at (c.args.base + y) ∷ []) ∷ [])
    c.loop-y.invariant c.loop-y-test.false
