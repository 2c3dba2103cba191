use Rattle.std.proofs.Common.{ℕ, ◌&&◌, ◌||◌, subst}
use Rattle.std.proofs.lemmas.Result.{IfOk-weaker}
use Rattle.controller_circuits.specs.internal.Gates.{gates_tree, GivesLiteral}
use Rattle.controller_circuits.proofs.GateLemmas.{gives_high, gives_low, gives_chosen}
use Rattle.controller_circuits.proofs.gates.Gates.chosen.Goals as goal

pub returns-then-high-eq1-clause-gives : goal.returns-then-high-eq1-clause-gives
returns-then-high-eq1-clause-gives c = IfOk-weaker c.either.result _ _
    (λ l gives. gives_high (gates_tree c.args.self.now) c.args.test c.args.high c.args.low
    (gates_tree c.either.new.self) l c.if-high-eq1.true gives)
    c.either.ensures

pub returns-then-low-eq1-clause-gives : goal.returns-then-low-eq1-clause-gives
returns-then-low-eq1-clause-gives c = IfOk-weaker c.either-then-low-eq1.result _ _
    (λ l gives. gives_low (gates_tree c.args.self.now) c.args.test c.args.high c.args.low (gates_tree c.either-then-low-eq1.new.self) l
    c.if-low-eq1.true
    (subst (λ (n : ℕ). GivesLiteral (gates_tree c.args.self.now) (gates_tree c.either-then-low-eq1.new.self) 1 l
    (λ t. t n || t c.args.high))
    c.negated.ensures gives))
    c.either-then-low-eq1.ensures

pub returns-clause-gives : goal.returns-clause-gives
returns-clause-gives c = IfOk-weaker c.either-2.result _ _
    (λ l gives. gives_chosen (gates_tree c.args.self.now) c.args.test c.args.high c.args.low (gates_tree c.both.new.self)
    (gates_tree c.both-2.new.self) (gates_tree c.either-2.new.self) c.in_ok-with_high.with_high c.in_ok-with_low.with_low l
    c.requires.test c.requires.low c.in_ok-with_high.ensures
    (subst (λ (n : ℕ). GivesLiteral (gates_tree c.both.new.self) (gates_tree c.both-2.new.self) 1 c.in_ok-with_low.with_low
    (λ t. t n && t c.args.low))
    c.negated-2.ensures c.in_ok-with_low.ensures) gives)
    c.either-2.ensures
