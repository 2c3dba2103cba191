use Rattle.std.proofs.Common.{◌∙◌}
use Rattle.base_library.proofs.Each.{each_from_places}
use Rattle.spec_syntax.specs.SyntaxView.{formula_syntax}
use Rattle.definition_expansion.specs.Folds.{depths, node_counts}
use Rattle.definition_expansion.specs.ExpansionSizes.{levels_at, nodes_at, number_in}
use Rattle.definition_expansion.specs.internal.UseNumbers.{used_names}
use Rattle.definition_expansion.proofs.SizeLemmas.{formula_stopped, depths_stop, node_counts_stop}
use Rattle.definition_expansion.proofs.sizing.expansion_size.Goals as goal

pub returns-clause-levels : goal.returns-clause-levels
returns-clause-levels c ds are =
    let a = formula_syntax c.args.formula.now in
    let table = levels_at c.args.heads.now c.args.sizes.now in
    c.table_size.ensures.levels
    ∙ formula_stopped 201 depths (depths_stop 201) table (number_in depths ds) a
    (each_from_places _ (used_names a) (λ i x at. are.levels x))

pub returns-clause-nodes : goal.returns-clause-nodes
returns-clause-nodes c ds are =
    let a = formula_syntax c.args.formula.now in
    let table = nodes_at c.args.heads.now c.args.sizes.now in
    c.table_size.ensures.nodes
    ∙ formula_stopped 10001 node_counts (node_counts_stop 10001) table (number_in node_counts ds) a
    (each_from_places _ (used_names a) (λ i x at. are.nodes x))
