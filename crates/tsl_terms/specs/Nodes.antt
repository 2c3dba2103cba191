-- How many nodes a formula has. A node counts 1 and what its parts count; a test counts 1 and its
-- arguments, and the signal on the left of an update is no node. Both sides of an equivalence and the
-- right side of a weak until are counted twice, since a formula that is written out names them twice.
-- How nodes are counted is this project's own rule.
use Rattle.std.specs.Prelude.{ℕ, ◌+◌, ◌*◌}
use Rattle.tsl_terms.specs.declared.operator.BinaryOperator.{BinaryOperator}
use Rattle.tsl_terms.specs.declared.operator.BinaryOperator.TheVariants.{Implication, Equivalence, Until, WeakUntil, Release}
use Rattle.tsl_terms.specs.TermTree.{TermTree, signal, apply, TermTrees, no_terms, more_terms}
use Rattle.tsl_terms.specs.FormulaTree.{
  Atom,
  test,
  update,
  FormulaTree,
  FormulaTrees,
  constant,
  atom,
  unary,
  binary,
  many,
  no_formulas,
  more_formulas,
}

abbrev mutual
  pub nodes_of_term : TermTree → ℕ
  nodes_of_term (signal s) = 1
  nodes_of_term (apply f arguments) = 1 + nodes_of_terms arguments

  pub nodes_of_terms : TermTrees → ℕ
  nodes_of_terms no_terms = 0
  nodes_of_terms (more_terms t ts) = nodes_of_term t + nodes_of_terms ts

abbrev pub nodes_of_atom : Atom → ℕ
nodes_of_atom (test p) = 1 + nodes_of_terms p.arguments
nodes_of_atom (update s t) = 1 + nodes_of_term t

-- what the sides of an operator count for, by what each of them counts
abbrev pub nodes_of_sides : BinaryOperator → ℕ → ℕ → ℕ
nodes_of_sides Implication left right = left + right
nodes_of_sides Equivalence left right = 2 * left + 2 * right
nodes_of_sides Until left right = left + right
nodes_of_sides WeakUntil left right = left + 2 * right
nodes_of_sides Release left right = left + right

abbrev mutual
  pub nodes : FormulaTree → ℕ
  nodes (constant holds) = 1
  nodes (atom a) = nodes_of_atom a
  nodes (unary op f) = 1 + nodes f
  nodes (binary op f g) = 1 + nodes_of_sides op (nodes f) (nodes g)
  nodes (many op fs) = 1 + nodes_of_members fs

  pub nodes_of_members : FormulaTrees → ℕ
  nodes_of_members no_formulas = 0
  nodes_of_members (more_formulas f fs) = nodes f + nodes_of_members fs
