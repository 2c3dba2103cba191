use Rattle.std.proofs.Common.{◌∷◌, ◌++◌, [], ap, ◌∙◌, add-one}
use Rattle.tsl_terms.proofs.NameLemmas.{absent_before, next_name}
use Rattle.tsl_terms.proofs.names.Names.copy.Goals as goal

pub add-requires-clause-absent : goal.add-requires-clause-absent
add-requires-clause-absent c =
    rw c.loop-id.invariant (absent_before c.args.self.now c.loop-id.id _ c.count-id-end.ensures.distinct c.text.ensures)

pub loop-id-preserved : goal.loop-id-preserved
loop-id-preserved c =
    rw add-one (c.in_ok-add.ensures.added
    ∙ ap (λ names. names ++ (record { text = c.text.result.now; kind = c.kind.result; arity = c.arity.result }) ∷ []) c.loop-id.invariant
    ∙ next_name c.args.self.now c.loop-id.id _ _ _ c.text.ensures c.kind.ensures c.arity.ensures)
