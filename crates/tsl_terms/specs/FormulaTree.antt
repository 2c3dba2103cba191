-- Formulas as pure trees, without where they lie in memory.
-- Source: Finkbeiner, Klein, Piskac, Santolucito: Temporal Stream Logic: Synthesis Beyond the Bools
-- (CAV 2019), the syntax of formulas.
use Rattle.std.specs.Prelude.{ℕ, Bool, true, false, List, [], ◌∷◌}
use Rattle.tsl_terms.specs.declared.operator.UnaryOperator.{UnaryOperator}
use Rattle.tsl_terms.specs.declared.operator.UnaryOperator.TheVariants.{Negation, Next, Finally, Globally}
use Rattle.tsl_terms.specs.declared.operator.BinaryOperator.{BinaryOperator}
use Rattle.tsl_terms.specs.declared.operator.BinaryOperator.TheVariants.{Implication, Equivalence, Until, WeakUntil, Release}
use Rattle.tsl_terms.specs.declared.operator.ManyOperator.{ManyOperator}
use Rattle.tsl_terms.specs.declared.operator.ManyOperator.TheVariants.{Conjunction, Disjunction}
use Rattle.tsl_terms.specs.declared.formula.Formula.{Formula}
use Rattle.tsl_terms.specs.declared.formula.Formula.TheVariants.{
  True,
  False,
  Test,
  Update,
  Not',
  All,
  Any,
  Implies',
  Iff',
  Next',
  Finally',
  Globally',
  Until',
  Weak',
  Release',
}
use Rattle.tsl_terms.specs.declared.formula.FormulaList.{FormulaList}
use Rattle.tsl_terms.specs.declared.formula.FormulaList.TheVariants.{Empty, More'}
use Rattle.tsl_terms.specs.TermTree.{TermTree, ProbeTree, term_tree, probe_tree}

-- what a formula is made of: a predicate's truth, or that a signal takes a term
pub data Atom : Type 0 where
  test : ProbeTree → Atom
  update : ℕ → TermTree → Atom

mutual
  pub data FormulaTree : Type 0 where
    constant : Bool → FormulaTree
    atom : Atom → FormulaTree
    unary : UnaryOperator → FormulaTree → FormulaTree
    binary : BinaryOperator → FormulaTree → FormulaTree → FormulaTree
    many : ManyOperator → FormulaTrees → FormulaTree

  pub data FormulaTrees : Type 0 where
    no_formulas : FormulaTrees
    more_formulas : FormulaTree → FormulaTrees → FormulaTrees

-- the members of a list of formulas, in order
abbrev pub formulas_in : FormulaTrees → List FormulaTree
formulas_in no_formulas = []
formulas_in (more_formulas f fs) = f ∷ formulas_in fs

-- the list of these members
abbrev pub formulas_of : List FormulaTree → FormulaTrees
formulas_of [] = no_formulas
formulas_of (f ∷ fs) = more_formulas f (formulas_of fs)

-- the tree of a formula
abbrev mutual
  pub formula_tree : Formula → FormulaTree
  formula_tree True = constant true
  formula_tree False = constant false
  formula_tree (Test p) = atom (test (probe_tree p))
  formula_tree (Update s t) = atom (update s (term_tree t))
  formula_tree (Not' p a) = unary Negation (formula_tree a)
  formula_tree (All fs) = many Conjunction (formula_trees fs)
  formula_tree (Any fs) = many Disjunction (formula_trees fs)
  formula_tree (Implies' p a q b) = binary Implication (formula_tree a) (formula_tree b)
  formula_tree (Iff' p a q b) = binary Equivalence (formula_tree a) (formula_tree b)
  formula_tree (Next' p a) = unary Next (formula_tree a)
  formula_tree (Finally' p a) = unary Finally (formula_tree a)
  formula_tree (Globally' p a) = unary Globally (formula_tree a)
  formula_tree (Until' p a q b) = binary Until (formula_tree a) (formula_tree b)
  formula_tree (Weak' p a q b) = binary WeakUntil (formula_tree a) (formula_tree b)
  formula_tree (Release' p a q b) = binary Release (formula_tree a) (formula_tree b)

  pub formula_trees : FormulaList → FormulaTrees
  formula_trees Empty = no_formulas
  formula_trees (More' p head q rest) = more_formulas (formula_tree head) (formula_trees rest)

-- the trees of a list's members, in order
abbrev pub member_trees : FormulaList → List FormulaTree
member_trees fs = formulas_in (formula_trees fs)
