use Rattle.std.proofs.Common.{sym}
use Rattle.sat_trail.proofs.TrailSteps.{no_pairs_from}
use Rattle.sat_tests.proofs.solving.answer.Goals as goal

pub solve-requires-clause-no_tautology : goal.solve-requires-clause-no_tautology
solve-requires-clause-no_tautology c = no_pairs_from c.args.cnf.now.clauses (sym c.in_default.ensures)
