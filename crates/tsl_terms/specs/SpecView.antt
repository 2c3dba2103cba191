-- The pure value of a specification.
use Rattle.tsl_terms.specs.declared.spec.Spec.{Spec}
use Rattle.tsl_terms.specs.FormulaTree.{member_trees}
use Rattle.tsl_terms.specs.SpecTree.{SpecTree}

abbrev pub spec_tree : Spec → SpecTree
spec_tree spec = record {
  names = spec.names;
  assume_first = member_trees spec.assume_first;
  assume_always = member_trees spec.assume_always;
  guarantee_first = member_trees spec.guarantee_first;
  guarantee_always = member_trees spec.guarantee_always;
}
