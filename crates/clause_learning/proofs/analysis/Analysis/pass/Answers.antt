use Rattle.std.proofs.Common.{ℕ, Option, MatchOption, subst}
use Rattle.std.proofs.lemmas.Result.{on_ok_weaker}
use Rattle.std.proofs.lemmas.Option.{slice_get_within}
use Rattle.base_library.proofs.Places.{slice_get_some}
use Rattle.clause_learning.specs.ConflictAnalysis.{MayStay, IsReplaced}
use Rattle.clause_learning.proofs.Stages.{forced_from}
use Rattle.clause_learning.proofs.Analysing.{analysis_kept, analysis_replaced}
use Rattle.clause_learning.proofs.analysis.Analysis.pass.Goals as goal

pub replace-requires-clause-given : goal.replace-requires-clause-given
replace-requires-clause-given c =
    let t = c.args.trail.now in
    let waiting = c.args.self.now.seen.waiting in
    let r = slice_get_some t.entries c.args.place c.requires.within in
    let why : IsReplaced t.clauses t.level waiting r.0 c.in-Some.reason =
    subst (λ (o : Option ℕ). MatchOption o (MayStay t.level waiting r.0) (IsReplaced t.clauses t.level waiting r.0)) c.in-Some.is
    (c.replacement.ensures r.0 r.1) in
    let forced = forced_from t c.requires.trail.sound c.args.place r.0 c.in-Some.reason r.1 why.forces in
    slice_get_within t.clauses c.in-Some.reason forced.clause forced.named

pub returns-in-Some : goal.returns-in-Some
returns-in-Some c =
    let t = c.args.trail.now in
    let waiting = c.args.self.now.seen.waiting in
    let r = slice_get_some t.entries c.args.place c.requires.within in
    let why : IsReplaced t.clauses t.level waiting r.0 c.in-Some.reason =
    subst (λ (o : Option ℕ). MatchOption o (MayStay t.level waiting r.0) (IsReplaced t.clauses t.level waiting r.0)) c.in-Some.is
    (c.replacement.ensures r.0 r.1) in
    on_ok_weaker c.replace.result (λ replaced. analysis_replaced t c.requires.trail.sound c.args.place r.0 r.1 c.in-Some.reason
    c.args.self.now c.replace.new.self c.requires.analysis c.requires.here replaced c.replace.ensures.rest why) c.replace.ensures.replaced

pub returns-in-None : goal.returns-in-None
returns-in-None c =
    let t = c.args.trail.now in
    let waiting = c.args.self.now.seen.waiting in
    let r = slice_get_some t.entries c.args.place c.requires.within in
    let why : MayStay t.level waiting r.0 = subst (λ (o : Option ℕ). MatchOption o (MayStay t.level waiting r.0)
    (IsReplaced t.clauses t.level waiting r.0)) c.in-None.is (c.replacement.ensures r.0 r.1) in
    on_ok_weaker c.keep.result (λ kept. analysis_kept t c.requires.trail.sound c.args.place r.0 r.1 c.args.self.now c.keep.new.self
    c.requires.analysis c.requires.here c.keep.ensures.cleared kept (c.keep.ensures.back r.0 r.1) c.keep.ensures.rest why)
    (c.keep.ensures.kept r.0 r.1)
