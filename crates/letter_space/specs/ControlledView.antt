-- Predicate terms and signals as pure values.
use Rattle.std.specs.Prelude.{List, map}
use Rattle.tsl_terms.specs.declared.term.Probe.{Probe}
use Rattle.tsl_terms.specs.TermTree.{term_tree, probe_tree}
use Rattle.letter_space.specs.declared.controlled.Controlled.{Controlled}
use Rattle.letter_space.specs.SpaceTree.{ControlledTree, SpaceTree}

abbrev pub controlled_tree : Controlled → ControlledTree
controlled_tree c = record { signal = c.signal; choices = map term_tree c.choices; first = c.first }

-- the space of these predicate terms and signals
abbrev pub space_with : List Probe → List Controlled → SpaceTree
space_with predicates controlled = record {
  predicates = map probe_tree predicates;
  controlled = map controlled_tree controlled;
}
