use Rattle.std.proofs.lemmas.Result.{IfOk-weaker}
use Rattle.tsl_terms.specs.TermTree.{probe_tree}
use Rattle.tsl_meaning.proofs.BySignal.{column_had, column_listed}
use Rattle.tsl_meaning.proofs.atom_truths.test_truths.Goals as goal

pub column_truths-requires : goal.column_truths-requires
column_truths-requires g c = record {
  had = column_had g.J.Algebra.seen (g.J.Algebra.meanings c.args.judge.now) c.args.values.now.leaves.items (probe_tree c.args.probe.now)
      c.in-Some.column.now c.in-Some.ensures c.requires.had;
}

pub returns-in-Some : goal.returns-in-Some
returns-in-Some g c =
    IfOk-weaker c.column_truths.result _ _ (λ truths. column_listed g.J.Algebra.seen (g.J.Algebra.meanings c.args.judge.now)
    c.args.values.now.leaves.items (probe_tree c.args.probe.now) c.in-Some.column.now c.in-Some.ensures truths.items)
    c.column_truths.ensures
