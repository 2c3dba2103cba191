use Rattle.std.proofs.Common.{◌+◌, ◌∷◌, ◌++◌, [], List, ℕ, ap, ◌∙◌, refl}
use Rattle.std.proofs.lemmas.Bool.{or_right}
use Rattle.clause_learning.specs.ConflictAnalysis.{is_seen, is_of_clause}
use Rattle.clause_learning.proofs.Analysing.{analysis_begins}
use Rattle.clause_learning.proofs.analysis.Analysis.begin.Goals as goal

pub see_clause-requires-clause-seen : goal.see_clause-requires-clause-seen
see_clause-requires-clause-seen c = c.begin.ensures.seen c.args.trail.now c.requires.seen

pub returns : goal.returns
returns c =
    let t = c.args.trail.now in
    let f = c.requires.conflict in
    analysis_begins t c.requires.trail.sound c.args.conflict f c.requires.met
    (record {
      seen = c.see_clause.new.self;
      kept = c.clear.new.self;
      hints = c.push.new.self;
      back = 0;
    }) c.in_ok-see_clause.ensures.seen (λ k h. c.in_ok-see_clause.ensures.entries_seen f.clause f.named k
    ∙ or_right (is_seen c.begin.new.self k) (is_of_clause t.entries f.clause k) h) c.clear.ensures.items
    (c.in_ok-push.ensures.items ∙ (ap (λ (hs : List ℕ). hs ++ (c.from.result + 1) ∷ []) c.clear-2.ensures.items
    ∙ ap (λ (n : ℕ). (n + 1) ∷ []) c.from.ensures)) refl
