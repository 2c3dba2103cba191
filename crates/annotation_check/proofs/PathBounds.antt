-- An annotation within a bound leaves no path over a letter loop of the machine with more rejecting edges; so no formula whose
-- automaton it is holds on such a loop.
use Rattle.std.proofs.Common.{◌≡◌, ◌∙◌, ℕ, ◌+◌, ◌≤◌, Bool, true, false, List, [], ◌∷◌, length, Option, Some, refl, ap, arith}
use Rattle.ltl_formula.specs.LtlTree.{LtlTree}
use Rattle.ltl_formula.specs.LetterLoop.{LetterLoop, holds}
use Rattle.cobuchi_automata.specs.Automata.{StateTree, EdgeTree, IsAutomaton}
use Rattle.cobuchi_automata.specs.Paths.{IsPath, FitsLetters, rejections}
use Rattle.cobuchi_automata.proofs.LawLemmas.{law}
use Rattle.loop_shape.specs.LoopShape.{after}
use Rattle.ltl_formula.specs.LetterLoop.{shape_of}
use Rattle.machines.specs.Moves.{MoveTree, IsLoopOf}
use Rattle.annotation_check.specs.Annotations.{edges_from, IsAnnotation}
use Rattle.annotation_check.proofs.LeavingEdges.{leaves}
use Rattle.annotation_check.proofs.PairNumbers.{number_there}

module _ (edges : List EdgeTree) (moves : ℕ → List MoveTree) (bound : ℕ) (number : ℕ → ℕ → Option ℕ)
    (annotation : IsAnnotation (edges_from edges) moves bound number) (loop : LetterLoop) (state : ℕ → ℕ)
    (runs : IsLoopOf moves loop state) where
  -- from a pair with a number, no more rejecting edges than are left up to the bound
  few_from : (path : List EdgeTree) (q i n : ℕ) → number (state i) q ≡ Some n → IsPath edges loop q i path → n + rejections path ≤ bound
  few_from [] q i n at is_path = let b = annotation.within (state i) q n at in omega (arith, b)
  few_from (e ∷ path) q i n at is_path =
      let step = runs.goes_on i is_path.2.0 is_path.2.1 in
      let asked = annotation.numbering.goes_on (state i) q n at _ step e (leaves edges q e is_path.0 is_path.1) is_path.2.2 in
      let next = number_there _ _ asked in
      let rest = few_from path e.to (after (shape_of loop) i) next.0 next.1 is_path.3 in
      omega (arith, next.2, rest)

  pub few : (path : List EdgeTree) → IsPath edges loop 0 0 path → rejections path ≤ bound
  few path is_path =
      let start = number_there 0 (number 0 0) annotation.numbering.start in
      let rest = few_from path 0 0 start.0 (ap (λ s. number s 0) runs.begins ∙ start.1) is_path in
      omega (arith, rest)

  pub fails : (f : LtlTree) (states : List StateTree) → IsAutomaton f states edges → FitsLetters loop → 1 ≤ length loop.cycle →
      holds loop f 0 ≡ false
  fails f states automaton letters goes_on = by (holds loop f 0) refl
    where
      by : (b : Bool) → holds loop f 0 ≡ b → b ≡ false
      by false e = refl
      by true e =
          let found = law f states edges automaton loop letters goes_on e bound in
          let most = few found.0 found.1 in
          absurd (omega (arith, found.3, most))
