-- Whether the search finds a turn is whether the automaton accepts the loop, and what a formula of the automaton means on it.
use Rattle.std.proofs.Common.{◌≡◌, ℕ, ◌<◌, ◌≤◌, ◌^◌, Bool, true, ◌↔◌, List, length, get_or, All, Vec, sym, subst, arith}
use Rattle.std.specs.declared.alloc.Global.{Global}
use Rattle.std.specs.List.{AllByRecursion}
use Rattle.std.proofs.lemmas.List.{take-append-drop, length-drop}
use Rattle.std.proofs.lemmas.List.Elements.{recursion_from_All, All-from_get_or}
use Rattle.ltl_formula.specs.LtlTree.{LtlTree}
use Rattle.ltl_formula.specs.LetterLoop.{LetterLoop, holds}
use Rattle.cobuchi_automata.specs.Automata.{StateTree, IsAutomaton}
use Rattle.cobuchi_automata.specs.Edges.{edge_trees, IsBetween}
use Rattle.cobuchi_automata.specs.Paths.{FitsLetters}
use Rattle.cobuchi_automata.specs.declared.automaton.Edge.{Edge}
use Rattle.loop_acceptance.specs.Accepts.{loop_of, Accepts}
use Rattle.loop_acceptance.specs.internal.Graph.{TurnFrom}
use Rattle.loop_acceptance.specs.internal.Product.{row_lists, product_step, AreEdgeRows}
use Rattle.loop_acceptance.proofs.AcceptedLoops.{accepts_where_it_holds}
use Rattle.loop_acceptance.proofs.LoopTurns.{IsLoopGraph, accepted_turns, turns_accepted}
use Rattle.loop_acceptance.proofs.ProductSteps.{graph}

-- the letters of a loop of 64 bit numbers fit
pub letters_fit : (letters : List ℕ) (back : ℕ) → ((i : ℕ) → get_or letters i 0 < 2 ^ 64) → FitsLetters (loop_of letters back)
letters_fit letters back fit =
    subst (AllByRecursion (λ letter. letter < 2 ^ 64)) (sym (take-append-drop back letters))
    (recursion_from_All (λ letter. letter < 2 ^ 64) letters
    (All-from_get_or (λ letter. letter < 2 ^ 64) letters 0 (λ i within. fit i)))

module _ (edges : List Edge) (states : ℕ) (between : All (IsBetween states) edges) (starts : 1 ≤ states)
    (items rows : List (Vec Edge Global)) (many : length items ≡ states) (are : AreEdgeRows (row_lists items) edges) (same : rows ≡ items)
    (letters : List ℕ) (back : ℕ) (goes_on : back < length letters) where
  abbrev loop : LetterLoop
  loop = loop_of letters back

  abbrev step_in : ℕ → List (Vec Edge Global) → Type 0
  step_in n rs = IsLoopGraph n (edge_trees edges) loop (product_step n (row_lists rs) letters back)

  is_graph : step_in (length rows) rows
  is_graph =
      subst (λ rs. step_in (length rs) rs) (sym same)
      (subst (λ n. step_in n items) (sym many) (graph states (row_lists items) edges are between starts letters back goes_on))

  abbrev Tells : Bool → Type 0
  Tells answer = (answer ≡ true) ↔ TurnFrom (product_step (length rows) (row_lists rows) letters back) 0

  pub judged : (answer : Bool) → Tells answer → ((answer ≡ true) ↔ Accepts (edge_trees edges) loop)
  judged answer tells = (
    λ is. turns_accepted (length rows) (edge_trees edges) loop (product_step (length rows) (row_lists rows) letters back) is_graph
        (tells.0 is),
    λ accepts.
        tells.1 (accepted_turns (length rows) (edge_trees edges) loop (product_step (length rows) (row_lists rows) letters back) is_graph
        accepts),
  )

  pub judged_formula : FitsLetters loop → (answer : Bool) → Tells answer → (f : LtlTree) (fs : List StateTree) →
      IsAutomaton f fs (edge_trees edges) → ((answer ≡ true) ↔ (holds loop f 0 ≡ true))
  judged_formula fit answer tells f fs automaton =
      let goes_round : 1 ≤ length loop.cycle = (let l = length-drop back letters in omega (arith, l, goes_on)) in
      let law = accepts_where_it_holds f fs (edge_trees edges) automaton loop fit goes_round in
      let accepts = judged answer tells in
      (λ is. law.0 (accepts.0 is), λ holding. accepts.1 (law.1 holding))
