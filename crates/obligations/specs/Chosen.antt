-- Choices as they are answered, as choices of formulas without where these lie in memory.
use Rattle.std.specs.Prelude.{List, map}
use Rattle.ltl_formula.specs.LtlTree.{ltl_tree}
use Rattle.obligations.specs.declared.stepping.Choice.{Choice}
use Rattle.obligations.specs.Expansion.{ChoiceTree}

abbrev pub choice_tree : Choice → ChoiceTree
choice_tree c = record {
  care = c.cube.care;
  want = c.cube.want;
  next_set = map ltl_tree c.next;
  postponed = map ltl_tree c.postponed;
}

abbrev pub choice_trees : List Choice → List ChoiceTree
choice_trees cs = map choice_tree cs
