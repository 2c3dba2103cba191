use Rattle.std.proofs.Common.{◌≡◌, ◌+◌, length, refl, sym, ap, ◌∙◌, arith}
use Rattle.std.proofs.lemmas.Option.{get_or_from_slice_get, slice_get_read}
use Rattle.clause_learning.specs.declared.tournament.Rank.{Rank}
use Rattle.clause_learning.specs.Tournaments.{is_before, rank_at, weight}
use Rattle.clause_learning.proofs.Rounds.{leads_to, first_leads, first_leaf}
use Rattle.clause_learning.proofs.tournament.Tournament.first.Goals as goal
use Rattle.clause_learning.proofs.tournament.Tournament.first.Goals.{After-index}

root : (c : After-index) → rank_at c.args.self.now.nodes.items 1 ≡ c.index.result.now
root c = let nodes = c.args.self.now.nodes.items in
    get_or_from_slice_get nodes 1 c.index.result.now (record { activity = 0; variable = 0 })
    (slice_get_read nodes (length nodes) 1 c.index.result.now refl (omega (arith, c.requires.size, c.requires.some)) c.index.ensures)

pub returns-clause-within : goal.returns-clause-within
returns-clause-within c =
    let r = first_leaf c.args.self.now c.requires in
    let e = ap (λ (r : Rank). r.variable) (sym (root (goal.at.returns-clause-within c).After-index) ∙ r.1.1) ∙ c.requires.named r.0 r.1.0 in
    omega (arith, e, r.1.0)

pub returns-clause-weight : goal.returns-clause-weight
returns-clause-weight c =
    let t = c.args.self.now in
    let r = first_leaf t c.requires in
    let whole = sym (root (goal.at.returns-clause-weight c).After-index) ∙ r.1.1 in
    let e = ap (λ (r : Rank). r.variable) whole ∙ c.requires.named r.0 r.1.0 in
    ap (λ (r : Rank). r.activity) whole ∙ ap (weight t) (sym e)

pub returns-clause-first : goal.returns-clause-first
returns-clause-first c = λ leaf below.
    let t = c.args.self.now in
    ap (is_before (rank_at t.nodes.items (t.leaves + leaf))) (sym (root (goal.at.returns-clause-first c).After-index))
    ∙ leads_to (rank_at t.nodes.items 1) (rank_at t.nodes.items (t.leaves + leaf)) (first_leads t c.requires (t.leaves + leaf) (t.leaves + leaf)
    (omega arith) (omega (arith, c.requires.some)) (omega (arith, below)))
