use Rattle.std.proofs.Common.{◌≡◌, ℕ, List, ap, sym, subst, ◌∙◌, rules}
use Rattle.std.specs.Prelude.{reverse}
use Rattle.clause_core.specs.Literals.{Lit}
use Rattle.clause_core.specs.Clauses.{in_order}
use Rattle.clause_learning.specs.LearntClauses.{IsLearntClause}
use Rattle.clause_learning.proofs.Analysing.{analysis_ends}
use Rattle.clause_learning.proofs.learning.learnt_clause_of.Goals as goal

pub returns-clause-learnt_clause : goal.returns-clause-learnt_clause
returns-clause-learnt_clause c =
    let t = c.args.trail.now in
    let w = c.run.new.self in
    let analysed = c.in_ok-run.ensures in
    let learnt_clause = analysis_ends t c.requires.ready.sound analysed.place w analysed.analysis analysed.seen.none in
    let clause : c.in_ok-clause_of.field-0 ≡ in_order w.kept.items = c.in_ok-clause_of.ensures ∙ ap in_order c.as_slice-2.ensures.value in
    let hints : c.reverse.new.self.items ≡ reverse w.hints.items =
    (let copied : c.in_ok-hints.hints.items ≡ c.as_slice.result.now = search rules in
    c.reverse.ensures.items ∙ ap reverse (copied ∙ c.as_slice.ensures.value)) in
    subst (λ (ls : List Lit). IsLearntClause t ls c.reverse.new.self.items w.back) (sym clause)
    (subst (λ (hs : List ℕ). IsLearntClause t (in_order w.kept.items) hs w.back) (sym hints) learnt_clause)
