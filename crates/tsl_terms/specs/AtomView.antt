-- A lent atom, without where it lies in memory.
use Rattle.tsl_terms.specs.declared.atom.AtomRef.{AtomRef}
use Rattle.tsl_terms.specs.declared.atom.AtomRef.TheVariants.{Test, Update}
use Rattle.tsl_terms.specs.TermTree.{term_tree, probe_tree}
use Rattle.tsl_terms.specs.FormulaTree.{Atom, test, update}

abbrev pub atom_tree : AtomRef → Atom
atom_tree (Test p) = test (probe_tree p.now)
atom_tree (Update s t) = update s (term_tree t.now)
