use Rattle.sat_core.proofs.Searching.{search_refuted}
use Rattle.sat_core.proofs.SearchNotes.{can_learn}
use Rattle.sat_core.proofs.search.Search.refute.Goals as goal

pub refute-requires-clause-ready : goal.refute-requires-clause-ready
refute-requires-clause-ready c = can_learn c.requires.searching

pub returns : goal.returns
returns c =
    let s = c.args.self in
    search_refuted s.reduces s.cnf.now.variables s.cnf.now.clauses s.trail s.proof_log c.in_ok-log.log c.requires.searching.logged.search
    c.requires.searching.logged.next c.in_ok-log.ensures
