use Rattle.std.proofs.Common.{rules, ◌∙◌, min, sym, arith, length-set}
use Rattle.spec_syntax.specs.SyntaxView.{formula_syntax}
use Rattle.definition_expansion.specs.Folds.{depths, node_counts, fold_by}
use Rattle.definition_expansion.specs.ExpansionSizes.{levels_at, nodes_at}
use Rattle.definition_expansion.proofs.SizeLemmas.{depths_stop, node_counts_stop}
use Rattle.definition_expansion.proofs.SizeTables.{put_next, all_there}
use Rattle.definition_expansion.proofs.sizing.sizes.Goals as goal

pub loop-number-preserved : goal.loop-number-preserved
loop-number-preserved c =
    let levels = c.table_size.ensures.levels
    ∙ (λ k. min 201 (fold_by depths (levels_at c.args.heads.now (c.deref.ensures.value k))
    (formula_syntax (sym c.index-definitions-number.is k).body))) in
    let nodes = c.table_size.ensures.nodes
    ∙ (λ k. min 10001 (fold_by node_counts (nodes_at c.args.heads.now (c.deref.ensures.value k))
    (formula_syntax (sym c.index-definitions-number.is k).body))) in
    record {
      size = search (rules, length-set, c.loop-number.invariant.size);
      levels =
          put_next c.args.heads.now c.args.definitions.now c.requires.heads c.count.ensures.distinct c.args.order.now c.requires.order
          depths 201 (depths_stop 201) (λ s. s.levels) c.loop-number.sizes.items c.loop-number.number-index
          c.index-definitions-number.result c.bracketed-size.result c.table_size.result.levels c.loop-number-test.true
          c.loop-number.invariant.size c.index-definitions-number.is c.loop-number.invariant.levels levels
          (omega (arith, c.bracketed-size.ensures.levels));
      nodes =
          put_next c.args.heads.now c.args.definitions.now c.requires.heads c.count.ensures.distinct c.args.order.now c.requires.order
          node_counts 10001 (node_counts_stop 10001) (λ s. s.nodes) c.loop-number.sizes.items c.loop-number.number-index
          c.index-definitions-number.result c.bracketed-size.result c.table_size.result.nodes c.loop-number-test.true
          c.loop-number.invariant.size c.index-definitions-number.is c.loop-number.invariant.nodes nodes
          (omega (arith, c.bracketed-size.ensures.nodes, c.table_size.ensures.nodes));
    }

pub returns : goal.returns
returns c = record {
  levels =
      all_there c.args.heads.now c.args.definitions.now c.requires.heads c.count.ensures.distinct c.args.order.now c.requires.order
      depths 201 (depths_stop 201) (λ s. s.levels) c.loop-number.sizes.items c.loop-number.number-index c.loop-number-test.false
      c.loop-number.invariant.levels;
  nodes =
      all_there c.args.heads.now c.args.definitions.now c.requires.heads c.count.ensures.distinct c.args.order.now c.requires.order
      node_counts 10001 (node_counts_stop 10001) (λ s. s.nodes) c.loop-number.sizes.items c.loop-number.number-index
      c.loop-number-test.false c.loop-number.invariant.nodes;
}
