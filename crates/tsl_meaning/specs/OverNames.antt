-- What is named as it is used: each number stands for a signal, or for a function or a predicate of so many arguments.
-- How the names are spelled, and how large a program is, is no part of it.
use Rattle.std.specs.Prelude.{Bool, true, ◌&&◌, List, ◌++◌, IsTrue}
use Rattle.std.specs.List.{list_all}
use Rattle.tsl_terms.specs.declared.names.NameKind.TheVariants.{Signal, Function, Predicate}
use Rattle.tsl_terms.specs.Name.{Name, is_name}
use Rattle.tsl_terms.specs.TermTree.{TermTree, signal, apply, TermTrees, no_terms, more_terms, ProbeTree, count_of_terms}
use Rattle.tsl_terms.specs.FormulaTree.{Atom, test, update, FormulaTree}
use Rattle.tsl_terms.specs.Atoms.{atoms}
use Rattle.tsl_terms.specs.OnlyThese.{formula_reads_only, formula_updates_only}
use Rattle.tsl_terms.specs.WindowTree.{WindowTree, ListedTree, window_probes}
use Rattle.program_tree.specs.NodeTree.{NodeTree, branch, assign}
use Rattle.program_tree.specs.ProgramTree.{ProgramTree, controlled}
use Rattle.program_tree.specs.Fits.{IsProgram}

abbrev mutual
  pub term_is_over : List Name → TermTree → Bool
  term_is_over names (signal s) = is_name names s Signal 0
  term_is_over names (apply f arguments) = is_name names f Function (count_of_terms arguments) && terms_are_over names arguments

  pub terms_are_over : List Name → TermTrees → Bool
  terms_are_over names no_terms = true
  terms_are_over names (more_terms t ts) = term_is_over names t && terms_are_over names ts

abbrev pub probe_is_over : List Name → ProbeTree → Bool
probe_is_over names p = is_name names p.predicate Predicate (count_of_terms p.arguments) && terms_are_over names p.arguments

abbrev pub listed_is_over : List Name → ListedTree → Bool
listed_is_over names u = is_name names u.signal Signal 0 && term_is_over names u.term

abbrev pub window_is_over : List Name → WindowTree → Bool
window_is_over names w = list_all (probe_is_over names) (window_probes w) && list_all (listed_is_over names) w.updates

abbrev pub node_is_over : List Name → NodeTree → Bool
node_is_over names (branch t then_node else_node) = probe_is_over names t
node_is_over names (assign ts go) = list_all (term_is_over names) ts

abbrev pub atom_is_over : List Name → Atom → Bool
atom_is_over names (test p) = probe_is_over names p
atom_is_over names (update s t) = is_name names s Signal 0 && term_is_over names t

-- a program over these names
pub record IsProgramOver (names : List Name) (program : ProgramTree) : Type 0 where
  pub is_program : IsProgram program
  pub signals : IsTrue (list_all (λ s. is_name names s Signal 0) (program.inputs ++ controlled program))
  pub windows : IsTrue (list_all (window_is_over names) program.windows)
  pub nodes : IsTrue (list_all (node_is_over names) program.nodes)

-- a formula over these names that speaks of a program: it reads the program's inputs and cells only, and updates its
-- cells and outputs only
pub record IsFormulaOver (names : List Name) (program : ProgramTree) (formula : FormulaTree) : Type 0 where
  pub names_fit : IsTrue (list_all (atom_is_over names) (atoms formula))
  pub reads : IsTrue (formula_reads_only (program.inputs ++ program.cells) formula)
  pub updates : IsTrue (formula_updates_only (controlled program) formula)
