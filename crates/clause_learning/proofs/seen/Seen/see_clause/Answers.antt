use Rattle.std.proofs.Common.{◌<◌, sym}
use Rattle.std.proofs.lemmas.List.Elements.{All-contains}
use Rattle.base_library.proofs.Places.{contains_at}
use Rattle.clause_core.specs.Literals.{Lit}
use Rattle.clause_core.specs.Clauses.{IsOver}
use Rattle.clause_learning.proofs.seen.Seen.see_clause.Goals as goal

pub see-requires-clause-over : goal.see-requires-clause-over
see-requires-clause-over c =
    let t = c.args.trail.now in
    let clause = c.clause-literal-items.result.now in
    let over : IsOver t.variables clause = All-contains (IsOver t.variables) t.clauses clause c.requires.trail.sound.over
    (contains_at t.clauses c.args.number clause c.clause-literal-items.ensures.value) in
    All-contains (λ (l : Lit). l.index < t.variables) clause c.literal-item.result over
    (c.loop-literal.literal-index, c.loop-literal-test.true, sym c.literal-item.is)
