use Rattle.std.proofs.Common.{◌≡◌, Some, ap, sym, ◌∙◌}
use Rattle.std.specs.Prelude.{option_map}
use Rattle.std.proofs.lemmas.Option.{same_Some, slice_get_within}
use Rattle.base_library.proofs.Places.{slice_get_some}
use Rattle.sat_trail.specs.declared.entries.Entry.{Entry}
use Rattle.clause_learning.proofs.Stages.{forced_by}
use Rattle.clause_learning.proofs.analysis.Analysis.covered_reason.Goals as goal

pub covers-requires-clause-given : goal.covers-requires-clause-given
covers-requires-clause-given c =
    let t = c.args.trail.now in
    let r = slice_get_some t.entries c.args.place c.requires.within in
    let has_reason : r.0.reason ≡ Some c.in_ok-reason.reason = same_Some r.0.reason c.reason_at.result
    (ap (option_map (λ (x : Entry). x.reason)) (sym r.1) ∙ c.reason_at.ensures) ∙ c.in_ok-reason.was in
    let forced = forced_by t c.requires.trail.sound c.args.place r.0 c.in_ok-reason.reason r.1 has_reason in
    slice_get_within t.clauses c.in_ok-reason.reason forced.clause forced.named
