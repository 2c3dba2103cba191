use Rattle.std.proofs.Common.{◌≡◌, ◌∙◌, sym}
use Rattle.std.proofs.lemmas.Bool.{eqb-true}
use Rattle.table_runner.proofs.Comparing.{same_shown}
use Rattle.table_runner.proofs.standing.same_configuration.Goals.{then-a-b, else-a-b}
use Rattle.table_runner.proofs.standing.same_configuration.Goals as goal

pub returns-then-a-b-2 : goal.returns-then-a-b-2
returns-then-a-b-2 g c =
    let equal : (c.args.a.now.place ≡ c.args.b.now.place) × (c.args.a.now.state ≡ c.args.b.now.state) =
    elim c.if-a-b.branch [
      | then-a-b w ↦ (w.if-a-b.true, eqb-true _ _ (sym w.value-is ∙ c.if-a-b-2.true))
      | else-a-b w ↦ (
        eqb-true _ _ (sym w.value-is ∙ c.if-a-b-2.true),
        absurd (w.if-a-b.false (eqb-true _ _ (sym w.value-is
            ∙ c.if-a-b-2.true))),
      )
    ] in
    same_shown g.A.Algebra.seen _ c.args.a.now c.args.b.now c.same_values.result _ _ equal.0 equal.1 c.cells_of.ensures
    c.cells_of-then-a-b-2.ensures c.same_values.ensures
