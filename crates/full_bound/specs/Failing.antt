-- Machines that fail: a letter loop of the machine on which a formula holds, which is to hold on none. And machines that do not: they
-- have an annotation within a bound.
use Rattle.std.specs.Prelude.{◌≡◌, ◌<◌, ◌≤◌, ◌^◌, ℕ, true, List, length, Option, Contains}
use Rattle.ltl_formula.specs.LtlTree.{LtlTree}
use Rattle.ltl_formula.specs.LetterLoop.{LetterLoop, holds}
use Rattle.cobuchi_automata.specs.Automata.{EdgeTree}
use Rattle.cobuchi_automata.specs.Paths.{FitsLetters}
use Rattle.machines.specs.Moves.{MoveTree, IsLoopOf}
use Rattle.annotation_check.specs.Annotations.{edges_from, IsAnnotation}

-- each move in one of so many states goes to one of them, and its letter is a number of 64 bits
abbrev pub StayWithin : ℕ → (ℕ → List MoveTree) → Type 0
StayWithin states moves =
    (s : ℕ) (m : MoveTree) → s < states → Contains (moves s) m → (m.next < states) × (m.letter < 2 ^ 64)

-- A letter loop on which a machine with these moves fails: the machine runs along it, it is a loop of numbers of 64 bits that goes
-- round, and the formula holds on it.
pub record IsFailing (f : LtlTree) (moves : ℕ → List MoveTree) (loop : LetterLoop) : Type 0 where
  pub state : ℕ → ℕ
  pub runs : IsLoopOf moves loop state
  pub fits : FitsLetters loop
  pub goes_round : 1 ≤ length loop.cycle
  pub holds_there : holds loop f 0 ≡ true

-- there is such a loop
abbrev pub Fails : LtlTree → (ℕ → List MoveTree) → Type 0
Fails f moves = (loop : LetterLoop) × IsFailing f moves loop

-- there is an annotation within a bound
abbrev pub HasAnnotationWithin : List EdgeTree → (ℕ → List MoveTree) → ℕ → Type 0
HasAnnotationWithin edges moves bound = (number : ℕ → ℕ → Option ℕ) × IsAnnotation (edges_from edges) moves bound number
