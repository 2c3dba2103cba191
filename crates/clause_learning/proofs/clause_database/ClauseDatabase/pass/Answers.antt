use Rattle.std.proofs.Common.{◌≡◌, ◌+◌, ◌++◌, ◌∷◌, [], List, Some, slice_get, sym, ap, subst, ◌∙◌, arith}
use Rattle.std.proofs.lemmas.Option.{get_or_from_slice_get}
use Rattle.base_library.proofs.Places.{slice_get_some}
use Rattle.base_library.proofs.Results.{on_ok_two}
use Rattle.clause_core.specs.Literals.{Lit}
use Rattle.clause_core.proofs.Sets.{in_order_already}
use Rattle.clause_learning.specs.ClauseDatabases.{numbers_of, AreKept}
use Rattle.clause_learning.proofs.LogHints.{kept_more}
use Rattle.clause_learning.proofs.clause_database.ClauseDatabase.pass.Goals as goal

pub returns : goal.returns
returns c = λ formula are.
    let t = c.args.trail.now in
    let numbers = numbers_of c.args.self.now in
    let place = c.args.place in
    let clause = c.clause.result.now in
    let copy : c.in_ok-clause.clause ≡ clause = c.in_ok-clause.ensures ∙ in_order_already clause c.clause.ensures.increasing in
    let grown : c.push.new.self.items ≡ c.args.kept.now.learnt.items ++ clause ∷ [] = c.in_ok-push.ensures.items
    ∙ ap (λ (d : List Lit). c.args.kept.now.learnt.items ++ d ∷ []) copy in
    let there = slice_get_some numbers place (omega (arith, c.requires.within, c.requires.numbers)) in
    let at : slice_get numbers place ≡ Some c.number_at.result = there.1
    ∙ ap Some (sym (get_or_from_slice_get numbers place there.0 0 there.1) ∙ sym c.number_at.ensures) in
    on_ok_two c.add.result (λ added same. subst (λ (cs : List (List Lit)). AreKept formula t.clauses numbers (place + 1) cs
    c.add.new.self) (sym grown) (kept_more formula t.clauses numbers place c.args.kept.now.learnt.items c.args.kept.now.database
    c.add.new.self clause c.number_at.result are c.clause.ensures.value at added)) c.add.ensures c.add.ensures
