-- Letter loops that an automaton accepts: it has a path that turns through a rejecting edge.
-- Source: Schewe, Finkbeiner: Bounded Synthesis (ATVA 2007), co-Büchi automata. Here rejecting marks stand on edges, and an automaton
-- of a formula is read the other way round: the loops with a path that passes rejecting edges again and again are those on which the
-- formula holds.
use Rattle.std.specs.Prelude.{ℕ, List, take, drop}
use Rattle.ltl_formula.specs.LetterLoop.{LetterLoop}
use Rattle.cobuchi_automata.specs.Automata.{EdgeTree}
use Rattle.cobuchi_automata.specs.Paths.{IsRejectingTurn}

-- the loop of these letters whose last one goes on to the one with a number
abbrev pub loop_of : List ℕ → ℕ → LetterLoop
loop_of letters back = record { stem = take back letters; cycle = drop back letters }

-- there is a path from the start over the letters of a loop that turns through a rejecting edge
abbrev pub Accepts : List EdgeTree → LetterLoop → Type 0
Accepts edges loop = (stem : List EdgeTree) × (turn : List EdgeTree) × IsRejectingTurn edges loop stem turn
