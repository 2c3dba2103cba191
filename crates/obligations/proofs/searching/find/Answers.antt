use Rattle.ltl_formula.specs.LtlTree.{ltl_tree}
use Rattle.obligations.proofs.SearchedNames.{has_number, has_member, has_none}
use Rattle.obligations.proofs.searching.find.Goals as goal

pub returns-then-is_at-clause-number : goal.returns-then-is_at-clause-number
returns-then-is_at-clause-number c =
    has_number (ltl_tree c.args.formula.now) c.args.names.now c.requires c.count_below-place.result (c.is_at.ensures.yes c.if-is_at.true)

pub returns-then-is_at-clause-there : goal.returns-then-is_at-clause-there
returns-then-is_at-clause-there c =
    has_member (ltl_tree c.args.formula.now) c.args.names.now c.requires c.count_below-place.result (c.is_at.ensures.yes c.if-is_at.true)

pub returns-else-is_at-clause-new : goal.returns-else-is_at-clause-new
returns-else-is_at-clause-new c =
    has_none (ltl_tree c.args.formula.now) c.args.names.now c.requires c.count_below-place.result c.count_below-place.ensures.parts
    (c.is_at.ensures.no c.if-is_at.false)
