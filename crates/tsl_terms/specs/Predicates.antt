-- The predicate terms of a specification.
use Rattle.std.specs.Prelude.{List, [], ◌∷◌, flat_map}
use Rattle.tsl_terms.specs.TermTree.{ProbeTree}
use Rattle.tsl_terms.specs.FormulaTree.{Atom, test, update, FormulaTree}
use Rattle.tsl_terms.specs.Atoms.{atoms}
use Rattle.tsl_terms.specs.SameTree.{same_probe_tree}
use Rattle.tsl_terms.specs.Distinct.{without_repeats}
use Rattle.tsl_terms.specs.SpecTree.{SpecTree, whole_formula}

-- the probe that an atom tests
abbrev pub probe_of : Atom → List ProbeTree
probe_of (test p) = p ∷ []
probe_of (update s t) = []

-- the probes that a formula tests, from the left
abbrev pub probes_in : FormulaTree → List ProbeTree
probes_in f = flat_map probe_of (atoms f)

-- the probes of the whole formula, by first appearance from the left, without repeats
abbrev pub predicates_of : SpecTree → List ProbeTree
predicates_of spec = without_repeats same_probe_tree (probes_in (whole_formula spec))
