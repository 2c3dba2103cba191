use Rattle.std.proofs.Common.{rules}
use Rattle.std.specs.Ordering.{is_lt}
use Rattle.std.proofs.lemmas.List.Sorted.{IsPartitionPoint-from_clause}
use Rattle.ltl_formula.specs.LtlTree.{ltl_tree}
use Rattle.ltl_formula.specs.LtlOrder.{tree_cmp}
use Rattle.obligations.proofs.SearchedNames.{parted}
use Rattle.obligations.proofs.searching.count_below.Goals as goal

-- the closure tells whether a name is below the formula
pub returns-clause-parts : goal.returns-clause-parts
returns-clause-parts c =
    IsPartitionPoint-from_clause (λ g. is_lt (tree_cmp (ltl_tree g.now) (ltl_tree c.args.formula.now))) c.args.names.now _
    c.partition_point.ensures.partitioned (parted (ltl_tree c.args.formula.now) c.args.names.now c.requires)
    (λ a r f' called. search rules)
