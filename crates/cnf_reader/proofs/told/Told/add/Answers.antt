use Rattle.std.proofs.Common.{◌<◌, ◌++◌, ◌∷◌, [], All, sym, ap, ◌∙◌, subst}
use Rattle.std.proofs.lemmas.List.Elements.{All-push, All-nil}
use Rattle.clause_core.specs.Literals.{Lit}
use Rattle.clause_core.specs.Clauses.{IsOver, in_order}
use Rattle.cnf_reader.proofs.CnfLemmas.{over_in_order}
use Rattle.cnf_reader.proofs.told.Told.add.Goals as goal

pub invariant_of-self-in-None : goal.invariant_of-self-in-None
invariant_of-self-in-None c =
    let told = c.args.self.now in
    let variables = told.counts.variables in
    let literals = told.literals.items in
    record {
      over = subst (All (IsOver variables)) (sym (c.in_ok-push-in-None.ensures.ok
          ∙ ap (λ ls. told.clauses ++ in_order ls ∷ []) c.as_slice.ensures.value))
          (All-push (IsOver variables) told.clauses (in_order literals) told.over (over_in_order variables literals told.literals_over));
      literals_over = subst (IsOver variables) (sym c.clear.ensures.items) (All-nil (λ (l : Lit). l.index < variables));
    }
