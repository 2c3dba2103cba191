use Rattle.std.proofs.Common.{◌≡◌, List, subst, OnOk, refl}
use Rattle.clause_core.specs.Literals.{Lit}
use Rattle.bounded_encoding.specs.Made.{with_clauses}
use Rattle.bounded_encoding.specs.Refusing.{Refuses}
use Rattle.bounded_encoding.proofs.Placed.{signal_by_base}
use Rattle.bounded_encoding.proofs.choice_clauses.add_signal.Goals as goal

pub returns-clause-added : goal.returns-clause-added
returns-clause-added c = subst
    (λ (more : List (List Lit)). OnOk c.add_exactly_one.result (c.add_exactly_one.new.out ≡ with_clauses c.args.out.now more))
    (signal_by_base c.args.question.now c.requires.asked c.args.s c.args.v c.args.signal.now _ _ _ c.choice_base-base.ensures.value refl
    c.len.ensures)
    c.add_exactly_one.ensures.added

pub returns-clause-refused : goal.returns-clause-refused
returns-clause-refused c = subst (λ (more : List (List Lit)). Refuses c.add_exactly_one.result (with_clauses c.args.out.now more))
    (signal_by_base c.args.question.now c.requires.asked c.args.s c.args.v c.args.signal.now _ _ _ c.choice_base-base.ensures.value refl
    c.len.ensures)
    c.add_exactly_one.ensures.refused
