use Rattle.std.proofs.Common.{◌∙◌}
use Rattle.std.proofs.lemmas.Bool.{or_left}
use Rattle.base_library.proofs.Places.{slice_get_some}
use Rattle.clause_learning.specs.ConflictAnalysis.{is_seen, is_of_clause}
use Rattle.clause_learning.proofs.analysis.Analysis.replace.Goals as goal

pub clear-requires-clause-entry : goal.clear-requires-clause-entry
clear-requires-clause-entry c =
    let t = c.args.trail.now in
    let r = slice_get_some t.clauses c.args.reason c.requires.given in
    record {
      within = c.requires.entry.within;
      here = c.in_ok-see_clause.ensures.entries_seen r.0 r.1 c.args.place ∙ or_left (is_seen c.args.self.now.seen c.args.place)
          (is_of_clause t.entries r.0 c.args.place) c.requires.entry.here;
      all = c.in_ok-see_clause.ensures.seen;
    }
