use Rattle.std.proofs.Common.{◌≡◌, ◌∙◌, map, ap, sym}
use Rattle.tsl_terms.specs.TermTree.{signal, no_terms, more_terms, term_tree, term_trees}
use Rattle.tsl_terms.specs.Value.{values}
use Rattle.interp_core.specs.LeafValue.{leaf_value}
use Rattle.tsl_meaning.proofs.BySignal.{alone, if_there}
use Rattle.tsl_meaning.proofs.columns.only_column.Goals as goal

pub returns : goal.returns
returns g c =
    let shape : term_trees c.args.terms.now ≡ more_terms (signal c.in-Signal-Empty.signal) no_terms =
    ap term_trees c.in-More.is
    ∙ (λ i. more_terms (term_tree ((sym c.deref.ensures ∙ c.in-Signal-Empty.is-0) i))
    (term_trees ((sym c.deref-2.ensures ∙ c.in-Signal-Empty.is-1) i))) in
    if_there _ _ c.column_at.result (λ column are.
    ap (λ ts. map (λ l. values (g.J.Algebra.meanings c.args.judge.now) (leaf_value g.J.Algebra.seen l) ts) c.args.of.now.leaves.items) shape
    ∙ alone g.J.Algebra.seen (g.J.Algebra.meanings c.args.judge.now) c.args.of.now.leaves.items c.in-Signal-Empty.signal column.now are)
    c.column_at.ensures
