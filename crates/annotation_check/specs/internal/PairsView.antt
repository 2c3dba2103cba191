-- Internal: only private functions of this crate use these words.
-- The pure value of moves and edges by states.
use Rattle.annotation_check.specs.declared.growing.Pairs.{Pairs}
use Rattle.annotation_check.specs.internal.Pairs.{PairsTree, pairs_with}

abbrev pub pairs_tree : Pairs → PairsTree
pairs_tree p = pairs_with p.moves.items p.edges.items p.machine_states p.automaton_states p.bound
