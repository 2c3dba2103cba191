use Rattle.std.proofs.Common.{◌∙◌, inl, inr}
use Rattle.controller_circuits.specs.internal.Gates.{gates_tree}
use Rattle.controller_circuits.proofs.GateLemmas.{left_false, right_false, opposites, left_true, same_literal, right_true}
use Rattle.controller_circuits.proofs.gates.Gates.both.Goals as goal
use Rattle.controller_circuits.proofs.gates.Gates.both.Goals.{
  then-left-eq0-via-then-left-eq0,
  then-left-eq0-via-else-left-eq0+then-right-eq0,
  then-left-eq0-via-else-left-eq0+else-right-eq0+then-left-negated,
}

pub returns-then-left-eq0 : goal.returns-then-left-eq0
returns-then-left-eq0 c = elim c.then-left-eq0.branch [
  | then-left-eq0-via-then-left-eq0 w ↦
      left_false (gates_tree c.args.self.now) c.args.left c.args.right c.requires.left c.requires.right w.if-left-eq0.true
  | then-left-eq0-via-else-left-eq0+then-right-eq0 w ↦
      right_false (gates_tree c.args.self.now) c.args.left c.args.right c.requires.left c.requires.right w.if-right-eq0.true
  | then-left-eq0-via-else-left-eq0+else-right-eq0+then-left-negated w ↦
      opposites (gates_tree c.args.self.now) c.args.left c.args.right c.requires.left c.requires.right
      (w.if-left-negated.true ∙ w.negated.ensures)
]

pub returns-then-left-eq1 : goal.returns-then-left-eq1
returns-then-left-eq1 c = elim c.then-left-eq1.either [
  | inl one ↦ left_true (gates_tree c.args.self.now) c.args.left c.args.right c.requires.left c.requires.right one
  | inr other ↦ same_literal (gates_tree c.args.self.now) c.args.left c.args.right c.requires.left c.requires.right other.1
]

pub returns-then-right-eq1 : goal.returns-then-right-eq1
returns-then-right-eq1 c =
    right_true (gates_tree c.args.self.now) c.args.left c.args.right c.requires.left c.requires.right c.if-right-eq1.true
