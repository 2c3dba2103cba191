-- Automata of formulas of the meaning that is asked for.
use Rattle.std.specs.Prelude.{List}
use Rattle.tsl_terms.specs.SpecTree.{SpecTree}
use Rattle.tsl_terms.specs.WindowTree.{WindowTree}
use Rattle.ltl_formula.specs.LtlTree.{LtlTree}
use Rattle.ltl_rewriting.specs.SameMeaning.{MeansSame}
use Rattle.cobuchi_automata.specs.Automata.{StateTree, EdgeTree, IsAutomaton}
use Rattle.machines.specs.declared.side.Side.TheVariants.{Controller}
use Rattle.program_check.specs.Verdicts.{form_for}

-- the edges are those of an automaton of some formula that means the same as the negation of the whole formula under windows
pub record IsAutomatonFor (spec : SpecTree) (windows : List WindowTree) (edges : List EdgeTree) : Type 0 where
  pub formula : LtlTree
  pub same : MeansSame formula (form_for Controller spec windows)
  pub states : List StateTree
  pub automaton : IsAutomaton formula states edges
