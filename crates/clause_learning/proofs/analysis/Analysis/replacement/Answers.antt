use Rattle.std.proofs.Common.{◌≡◌, ap, sym, ◌∙◌, arith}
use Rattle.std.specs.Prelude.{option_map}
use Rattle.std.proofs.lemmas.Option.{same_Some}
use Rattle.sat_trail.specs.declared.entries.Entry.{Entry}
use Rattle.clause_learning.specs.ConflictAnalysis.{must_go}
use Rattle.clause_learning.proofs.Stages.{entry_low, replaced_at_start, replaced_there, replaced_below, stays_there}
use Rattle.clause_learning.proofs.analysis.Analysis.replacement.Goals as goal

pub returns-then-level-eq0 : goal.returns-then-level-eq0
returns-then-level-eq0 c = λ e at.
    let t = c.args.trail.now in
    let level : e.level ≡ c.level_at-level.result = same_Some e.level c.level_at-level.result
    (ap (option_map (λ (x : Entry). x.level)) (sym at) ∙ c.level_at-level.ensures) in
    replaced_at_start t.clauses t.level c.args.self.now.seen.waiting e (omega (arith, level, c.if-level-eq0.true)) c.start_reason.result
    (c.start_reason.ensures e at)

pub returns-then-must_go : goal.returns-then-must_go
returns-then-must_go c = λ e at.
    let t = c.args.trail.now in
    let waiting = c.args.self.now.seen.waiting in
    let level : e.level ≡ c.level_at-level.result = same_Some e.level c.level_at-level.result
    (ap (option_map (λ (x : Entry). x.level)) (sym at) ∙ c.level_at-level.ensures) in
    let reason : e.reason ≡ c.reason_at.result = same_Some e.reason c.reason_at.result
    (ap (option_map (λ (x : Entry). x.reason)) (sym at) ∙ c.reason_at.ensures) in
    replaced_there t.clauses t.level waiting e (ap (must_go t.level waiting) level ∙ (sym c.must_go.ensures ∙ c.if-must_go.true))
    c.reason_at.result reason

pub returns-then-level : goal.returns-then-level
returns-then-level c = λ e at.
    let t = c.args.trail.now in
    let waiting = c.args.self.now.seen.waiting in
    let level : e.level ≡ c.level_at-level.result = same_Some e.level c.level_at-level.result
    (ap (option_map (λ (x : Entry). x.level)) (sym at) ∙ c.level_at-level.ensures) in
    stays_there t.level waiting e (omega (arith, level, c.if-level-eq0.false))
    (ap (must_go t.level waiting) level ∙ (sym c.must_go.ensures ∙ c.if-must_go.false))

pub returns : goal.returns
returns c = λ e at.
    let t = c.args.trail.now in
    let level : e.level ≡ c.level_at-level.result = same_Some e.level c.level_at-level.result
    (ap (option_map (λ (x : Entry). x.level)) (sym at) ∙ c.level_at-level.ensures) in
    replaced_below t.clauses t.level c.args.self.now.seen.waiting e (omega (arith, level, c.if-level-eq0.false))
    (let low = entry_low t c.requires.trail.sound c.args.place e at in omega (arith, level, c.level.ensures.value, c.if-level.false))
    c.covered_reason.result (c.covered_reason.ensures e at)
