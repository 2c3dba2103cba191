-- Internal: the lines of states whose edges are listed.
use Rattle.std.specs.Prelude.{ℕ, suc, List, [], ◌∷◌, ◌++◌, map}
use Rattle.cobuchi_automata.specs.Automata.{EdgeTree}
use Rattle.automaton_text.specs.HoaText.{state_text, edge_text}

-- the lines of states from this one on, whose edges these are
abbrev pub listed_lines : ℕ → ℕ → List (List EdgeTree) → List (List ℕ)
listed_lines bits q [] = []
listed_lines bits q (edges ∷ lists) = (state_text q ∷ map (edge_text bits) edges) ++ listed_lines bits (suc q) lists
