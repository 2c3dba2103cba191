use Rattle.std.proofs.Common.{◌∷◌, [], List, refl, sym, subst, arith}
use Rattle.std.specs.List.{Contains}
use Rattle.std.proofs.lemmas.List.Elements.{Contains-append_right}
use Rattle.clause_core.specs.Literals.{Lit}
use Rattle.clause_learning.proofs.choices.Decisions.next_repeated.Goals as goal

pub returns-then-is_unset-clause-repeated : goal.returns-then-is_unset-clause-repeated
returns-then-is_unset-clause-repeated c =
    let l = c.in-Some.literal in
    c.loop-literal.invariant.among l (subst (λ (xs : List Lit). Contains xs l) (sym c.in-Some.ensures.items)
    (Contains-append_right c.pop.new.self.items (l ∷ []) l (0, omega arith, refl)))
