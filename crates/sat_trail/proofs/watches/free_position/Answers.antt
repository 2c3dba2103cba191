use Rattle.sat_trail.specs.Entries.{literals_of}
use Rattle.sat_trail.proofs.Looks.{free_found}
use Rattle.sat_trail.proofs.watches.free_position.Goals as goal

pub returns-in-None : goal.returns-in-None
returns-in-None c = free_found (literals_of c.args.stack.now.entries) c.args.literals.now c.args.except c.min-start.result
    c.free_between-in-None.result c.in-None.ensures c.free_between-in-None.ensures
