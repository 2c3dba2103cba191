-- A formula by its outermost operator, without where it lies in memory.
use Rattle.std.specs.Prelude.{ℕ, ◌<◌}
use Rattle.tsl_terms.specs.declared.formula.Formula.{size-Formula}
use Rattle.tsl_terms.specs.declared.formula.FormulaList.{size-FormulaList}
use Rattle.tsl_terms.specs.declared.parts.FormulaParts.{FormulaParts}
use Rattle.tsl_terms.specs.declared.parts.FormulaParts.TheVariants.{Constant, Atom, Unary, Binary, Many}
use Rattle.tsl_terms.specs.AtomView.{atom_tree}
use Rattle.tsl_terms.specs.FormulaTree.{FormulaTree, constant, atom, unary, binary, many, formula_tree, formula_trees}

abbrev pub parts_tree : FormulaParts → FormulaTree
parts_tree (Constant holds) = constant holds
parts_tree (Atom a) = atom (atom_tree a)
parts_tree (Unary operator part) = unary operator (formula_tree part.now)
parts_tree (Binary operator left right) = binary operator (formula_tree left.now) (formula_tree right.now)
parts_tree (Many operator members) = many operator (formula_trees members.now)

-- each part is smaller than this
abbrev pub AreSmaller : FormulaParts → ℕ → Type 0
AreSmaller (Constant holds) size = Unit {0}
AreSmaller (Atom a) size = Unit {0}
AreSmaller (Unary operator part) size = size-Formula part.now < size
AreSmaller (Binary operator left right) size = (size-Formula left.now < size) × (size-Formula right.now < size)
AreSmaller (Many operator members) size = size-FormulaList members.now < size
