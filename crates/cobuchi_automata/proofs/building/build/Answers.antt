use Rattle.std.proofs.Common.{◌∙◌, [], ◌∷◌, ap}
use Rattle.ltl_formula.specs.LtlTree.{ltl_tree}
use Rattle.obligations.specs.Numbers.{lent_trees}
use Rattle.obligations.proofs.StepLemmas.{rising}
use Rattle.cobuchi_automata.proofs.building.build.Goals as goal

pub until_numbers-requires-clause-rising : goal.until_numbers-requires-clause-rising
until_numbers-requires-clause-rising c = rising (ltl_tree c.args.formula.now ∷ []) (lent_trees c.deref.result.now)
    (ap lent_trees c.deref.ensures.value ∙ c.in_ok-names.ensures)
