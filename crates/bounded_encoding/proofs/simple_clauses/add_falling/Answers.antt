use Rattle.std.proofs.Common.{◌+◌, ◌-◌, [], ◌∷◌, refl}
use Rattle.bounded_encoding.specs.SimpleClauses.{yes_at, no_at}
use Rattle.bounded_encoding.proofs.Adding.{passed_on}
use Rattle.bounded_encoding.proofs.Begun.{begun_none, leads_first, leads_next, leads_refused, leads_cut, leads_end}
use Rattle.bounded_encoding.proofs.simple_clauses.add_falling.Goals as goal

pub loop-i-init : goal.loop-i-init
loop-i-init c = leads_first _ _

pub returns-in_err-add_implies-clause-refused : goal.returns-in_err-add_implies-clause-refused
returns-in_err-add_implies-clause-refused c = passed_on _ _ _ c.from_residual.ensures.1
    (λ is. leads_refused _ _ _ _ _ (λ i. (no_at (c.args.base + i) ∷ yes_at (c.args.base + (i - 1)) ∷ []) ∷ [])
    c.loop-i.invariant c.loop-i-test.true _ refl
    (c.in_err-add_implies.ensures.refused is))

pub returns-in_err-add_implies-clause-begun : goal.returns-in_err-add_implies-clause-begun
returns-in_err-add_implies-clause-begun c = passed_on _ _ _ c.from_residual.ensures.1
    (leads_cut _ _ _ _ _ (λ i. (no_at (c.args.base + i) ∷ yes_at (c.args.base + (i - 1)) ∷ []) ∷ [])
    c.loop-i.invariant c.loop-i-test.true _ refl
    _ (begun_none _ _ _ c.in_err-add_implies.ensures.unchanged))

pub loop-i-preserved : goal.loop-i-preserved
loop-i-preserved c =
    leads_next _ _ _ _ _ (λ i. (no_at (c.args.base + i) ∷ yes_at (c.args.base + (i - 1)) ∷ []) ∷ [])
    c.loop-i.invariant c.loop-i-test.true _ refl
    _ c.in_ok-add_implies.ensures.added

pub returns-clause-added : goal.returns-clause-added
returns-clause-added c = leads_end _ _ _ _ _ (λ i. (no_at (c.args.base + i) ∷ yes_at (c.args.base + (i - 1)) ∷ []) ∷ [])
    c.loop-i.invariant c.loop-i-test.false
