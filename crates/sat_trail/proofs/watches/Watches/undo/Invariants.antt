use Rattle.std.proofs.Common.{◌≡◌, ◌≤◌}
use Rattle.sat_trail.proofs.watches.Watches.undo.Given as goal

abbrev pub invariant-loop-self : goal.invariant-loop-self
invariant-loop-self l = record {
  less : l.self.held ≤ l.fn.self.held;
  rest : l.self ≡ record l.fn.self { held = l.self.held };
}

abbrev pub decreases-loop-self : goal.decreases-loop-self
decreases-loop-self l = l.self.held
