use Rattle.std.proofs.Common.{refl}
use Rattle.controller_circuits.proofs.GateLemmas.{joined_gates, joined_gives}
use Rattle.controller_circuits.proofs.gates.Gates.joined.Goals as goal

pub invariant_of-self : goal.invariant_of-self
invariant_of-self c = record {
  are_gates = joined_gates c.args.self.now.before c.args.self.now.made.keys c.place_of_gate.new.made.keys
      (record { left = c.args.left; right = c.args.right }) c.place_of_gate.ensures.kept c.args.self.now.are_gates
      c.requires.left c.requires.right;
}

pub returns : goal.returns
returns c =
    joined_gives c.args.self.now.before c.args.self.now.made.keys c.place_of_gate.new.made.keys
    (record { left = c.args.left; right = c.args.right }) c.place_of_gate.ensures.kept c.args.self.now.are_gates c.requires.left
    c.requires.right
    c.in_ok-place.place c.in_ok-place.ensures.there _ refl
