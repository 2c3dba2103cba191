use Rattle.std.proofs.Common.{◌∙◌, ap, refl, slice_get, subst, sym}
use Rattle.std.specs.List.{AllByRecursion}
use Rattle.std.proofs.lemmas.Option.{slice_get_read}
use Rattle.base_library.proofs.Each.{each_at, each_unmapped}
use Rattle.tsl_terms.specs.AtomView.{atom_tree}
use Rattle.tsl_meaning.specs.RunTree.{run_tree}
use Rattle.tsl_meaning.specs.RunLasso.{HasTruths}
use Rattle.tsl_meaning.proofs.shared_atoms.shared_atoms.Goals as goal

pub share-requires-clause-had : goal.share-requires-clause-had
share-requires-clause-had g c =
    let has = HasTruths (g.J.Algebra.meanings c.args.judge.now) (run_tree g.J.Algebra.seen c.args.run.now) in
    each_at (λ a. has (atom_tree a)) c.in_ok-list.list.items c.loop-atom.atom-index c.atom-item.result
    (each_unmapped has atom_tree c.in_ok-list.list.items (subst (AllByRecursion has) (sym c.in_ok-list.ensures) c.requires.had))
    (ap (λ xs. slice_get xs c.loop-atom.atom-index) (sym c.deref-atom-items.ensures.value)
    ∙ slice_get_read _ _ _ _ refl c.loop-atom-test.true c.atom-item.is)
