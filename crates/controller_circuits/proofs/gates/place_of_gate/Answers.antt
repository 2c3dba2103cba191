use Rattle.controller_circuits.proofs.GateLemmas.{kept_or_last, stands}
use Rattle.controller_circuits.proofs.gates.place_of_gate.Goals as goal

pub returns-clause-kept : goal.returns-clause-kept
returns-clause-kept c =
    kept_or_last c.args.made.now.keys c.insert_full.new.self.keys c.args.gate c.in_ok-place.ensures.keys

pub returns-clause-there : goal.returns-clause-there
returns-clause-there c = stands c.insert_full.new.self.keys c.args.gate c.in_ok-place.place c.in_ok-place.ensures.stored
