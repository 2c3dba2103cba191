-- Programs over the bits of a space: each test is a predicate term, and each assigned term a choice of its signal.
use Rattle.std.specs.Prelude.{◌≡◌, Bool, true, false, ◌&&◌, List, [], ◌∷◌, map, is_some, IsTrue}
use Rattle.std.specs.List.{list_all}
use Rattle.tsl_terms.specs.TermTree.{TermTree}
use Rattle.program_tree.specs.NodeTree.{NodeTree, branch, assign}
use Rattle.program_tree.specs.ProgramTree.{ProgramTree, controlled}
use Rattle.letter_space.specs.SpaceTree.{ControlledTree, SpaceTree}
use Rattle.letter_space.specs.Bits.{bit_of_choice, bit_of_probe}

-- whether terms are choices, one of each signal
abbrev pub are_terms_chosen : List ControlledTree → List TermTree → Bool
are_terms_chosen [] [] = true
are_terms_chosen (c ∷ cs) (t ∷ ts) = is_some (bit_of_choice c t) && are_terms_chosen cs ts
are_terms_chosen [] (t ∷ ts) = false
are_terms_chosen (c ∷ cs) [] = false

-- whether what a node tests is a predicate term, or what it assigns are choices
abbrev pub node_has_bits : SpaceTree → NodeTree → Bool
node_has_bits space (branch t then_node else_node) = is_some (bit_of_probe space t)
node_has_bits space (assign ts go) = are_terms_chosen space.controlled ts

-- a program has the signals of a space as its cells and then its outputs, and each node has its bits
pub record ProgramHasBits (space : SpaceTree) (program : ProgramTree) : Type 0 where
  pub signals : map (λ c. c.signal) space.controlled ≡ controlled program
  pub nodes : IsTrue (list_all (node_has_bits space) program.nodes)
