-- A specification as a pure value, and the formula that it stands for.
-- Source: Finkbeiner, Klein, Piskac, Santolucito: Temporal Stream Logic: Synthesis Beyond the Bools
-- (CAV 2019), specifications as assumptions that imply guarantees.
use Rattle.std.specs.Prelude.{true, List, [], ◌∷◌, ◌++◌, map}
use Rattle.tsl_terms.specs.Name.{Name}
use Rattle.tsl_terms.specs.declared.operator.UnaryOperator.TheVariants.{Globally}
use Rattle.tsl_terms.specs.declared.operator.BinaryOperator.TheVariants.{Implication}
use Rattle.tsl_terms.specs.declared.operator.ManyOperator.TheVariants.{Conjunction}
use Rattle.tsl_terms.specs.FormulaTree.{FormulaTree, constant, unary, binary, many, formulas_of}

-- the names, and the four lists of formulas: what is assumed or guaranteed, at first or always
pub record SpecTree : Type 0 where
  pub names : List Name
  pub assume_first : List FormulaTree
  pub assume_always : List FormulaTree
  pub guarantee_first : List FormulaTree
  pub guarantee_always : List FormulaTree

-- the formulas of the four lists, one list after another
abbrev pub all_formulas : SpecTree → List FormulaTree
all_formulas spec = spec.assume_first ++ spec.assume_always ++ spec.guarantee_first ++ spec.guarantee_always

-- the conjunction of a list: true for none, the member itself for one
abbrev pub conjunction_of : List FormulaTree → FormulaTree
conjunction_of [] = constant true
conjunction_of (f ∷ []) = f
conjunction_of (f ∷ g ∷ fs) = many Conjunction (formulas_of (f ∷ g ∷ fs))

-- the formulas that hold at first, followed by those that hold always, each under globally
abbrev pub assumed : SpecTree → List FormulaTree
assumed spec = spec.assume_first ++ map (unary Globally) spec.assume_always

abbrev pub guaranteed : SpecTree → List FormulaTree
guaranteed spec = spec.guarantee_first ++ map (unary Globally) spec.guarantee_always

-- what is guaranteed, under what is assumed where something is
abbrev pub under_assumptions : List FormulaTree → FormulaTree → FormulaTree
under_assumptions [] guarantee = guarantee
under_assumptions (f ∷ fs) guarantee = binary Implication (conjunction_of (f ∷ fs)) guarantee

-- the whole formula of a specification
abbrev pub whole_formula : SpecTree → FormulaTree
whole_formula spec = under_assumptions (assumed spec) (conjunction_of (guaranteed spec))
