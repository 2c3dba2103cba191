use Rattle.std.proofs.Common.{◌∙◌}
use Rattle.std.proofs.lemmas.Result.{IfOk-weaker}
use Rattle.tsl_terms.specs.TermTree.{term_tree, probe_tree}
use Rattle.tsl_meaning.specs.RunTree.{run_tree}
use Rattle.tsl_meaning.proofs.RunTruths.{leaves_had, test_listed, update_listed}
use Rattle.tsl_meaning.proofs.atom_truths.atom_plane.Goals as goal

pub test_truths-requires : goal.test_truths-requires
test_truths-requires g c =
    let had = rw c.in-Test.is at c.requires.had in record {
      had = leaves_had g.J.Algebra.seen (g.J.Algebra.meanings c.args.judge.now) (run_tree g.J.Algebra.seen c.args.run.now)
          c.args.values.now.leaves.items (probe_tree c.in-Test.probe.now) c.requires.values.leaves had;
      columns = c.requires.values.columns;
    }

pub returns-in_ok-truths-in-Test : goal.returns-in_ok-truths-in-Test
returns-in_ok-truths-in-Test g c = rw c.in-Test.is (IfOk-weaker c.plane_of.result _ _
    (λ plane on. test_listed g.J.Algebra.seen (g.J.Algebra.meanings c.args.judge.now) c.args.run.now c.args.values.now.leaves.items
    (probe_tree c.in-Test.probe.now) c.deref.result.now plane.items c.requires.values.leaves
    (c.deref.ensures.value ∙ c.in_ok-truths-in-Test.ensures) on) c.plane_of.ensures)

pub returns-in_ok-truths-in-Update : goal.returns-in_ok-truths-in-Update
returns-in_ok-truths-in-Update g c = rw c.in-Update.is (IfOk-weaker c.plane_of-in-Update.result _ _
    (λ plane on. update_listed g.J.Algebra.seen (g.J.Algebra.meanings c.args.judge.now) c.args.run.now c.in-Update.signal
    (term_tree c.in-Update.term.now) c.deref-in-Update.result.now plane.items
    (c.deref-in-Update.ensures.value ∙ c.in_ok-truths-in-Update.ensures) on) c.plane_of-in-Update.ensures)
