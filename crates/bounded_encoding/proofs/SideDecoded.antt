-- The numbers that are read from an assignment that meets the clauses of a side annotate the machine whose moves are read from it.
use Rattle.std.proofs.Common.{◌≡◌, ◌∙◌, ℕ, ◌+◌, ◌<◌, ◌≤◌, ◌==◌, Bool, true, List, Option, Some, slice_get, Contains, sym, ap, subst, arith}
use Rattle.std.proofs.lemmas.Bool.{eqb-true}
use Rattle.base_library.proofs.Each.{each_at}
use Rattle.ltl_formula.specs.Cubes.{cube_matches}
use Rattle.cobuchi_automata.specs.Automata.{EdgeTree}
use Rattle.machines.specs.Moves.{MoveTree}
use Rattle.annotation_check.specs.Annotations.{edges_from, IsAtLeast, after_edge, IsAnnotation}
use Rattle.annotation_check.proofs.LeavingEdges.{passes_filtered}
use Rattle.bounded_encoding.specs.Question.{JoinsStates}
use Rattle.bounded_encoding.specs.Frames.{FrameTree, next_at, number_at}
use Rattle.bounded_encoding.specs.Reading.{next_of, number_of}
use Rattle.bounded_encoding.specs.Sides.{SideTree, IsSide}
use Rattle.bounded_encoding.proofs.Ranges.{first_passes, first_below}
use Rattle.bounded_encoding.proofs.LevelNumbers.{number_is, number_reaches}
use Rattle.bounded_encoding.proofs.SideDemands.{AreMet, IsAsAsked}
use Rattle.bounded_encoding.proofs.SolutionsAreAssignments.MovesHeld.{place_of}

module _ (z : SideTree) (side : IsSide z) (a : ℕ → Bool) where
  abbrev f : FrameTree
  f = z.frame

  abbrev level : ℕ → ℕ → ℕ → Bool
  level s p i = a (number_at f s p i)

  pub next_within : (s r : ℕ) → next_of f a s r < f.states
  next_within s r = first_below (λ t. a (next_at f s r t)) f.states side.has_state

  module _ (met : AreMet z a) (moves : ℕ → List MoveTree) (letter : ℕ → ℕ → ℕ)
      (move_of_row : (s : ℕ) (m : MoveTree) → s < f.states → Contains (moves s) m →
      (r : ℕ) × (r < f.rows) × (m ≡ record { letter = letter s r; next = next_of f a s r }))
      (matched : (s r : ℕ) (e : EdgeTree) → s < f.states → r < f.rows → cube_matches e.care e.want (letter s r) ≡ true →
      (k : ℕ) × (slice_get (z.met e) k ≡ Some r) × IsAsAsked z a e s r) where
    next_is_set : (s r : ℕ) → s < f.states → r < f.rows → a (next_at f s r (next_of f a s r)) ≡ true
    next_is_set s r in_states in_rows =
        let one = met.nexts s r in_states in_rows in
        first_passes (λ t. a (next_at f s r t)) f.states one.some.0 one.some.2 one.some.3

    -- a step of the machine, along an edge that the letter matches
    step : (s r n j : ℕ) (e : EdgeTree) → s < f.states → r < f.rows → slice_get f.edges j ≡ Some e → number_of f a s e.from ≡ Some n →
        cube_matches e.care e.want (letter s r) ≡ true → IsAtLeast (after_edge n e) (number_of f a (next_of f a s r) e.to)
    step s r n j e in_states in_rows at numbered matches =
        let here = number_is level f.states f.automaton_states f.bound s e.from n numbered in
        let row = matched s r e in_states in_rows matches in
        let after = met.edges s j r row.0 (next_of f a s r) n e in_states at row.1 (next_within s r) here.2 here.3
        (next_is_set s r in_states in_rows) row.2 in
        number_reaches level f.states f.automaton_states f.bound met.fall (next_of f a s r) e.to (after_edge n e) (next_within s r)
        (each_at (JoinsStates f.automaton_states) f.edges j e side.between at).1 after.0 after.1

    goes_on : (s p n : ℕ) → number_of f a s p ≡ Some n → (m : MoveTree) → Contains (moves s) m → (e : EdgeTree) →
        Contains (edges_from f.edges p) e → cube_matches e.care e.want m.letter ≡ true →
        IsAtLeast (after_edge n e) (number_of f a m.next e.to)
    goes_on s p n numbered m move e edge matches =
        let leaves = passes_filtered (λ (d : EdgeTree). d.from == p) f.edges e edge in
        let from = eqb-true e.from p leaves.1 in
        let at = place_of f.edges e leaves.0 in
        let in_states = (number_is level f.states f.automaton_states f.bound s p n numbered).0 in
        let row = move_of_row s m in_states move in
        subst (λ (t : ℕ). IsAtLeast (after_edge n e) (number_of f a t e.to)) (sym (ap (λ (k : MoveTree). k.next) row.2))
        (step s row.0 n at.0 e in_states row.1 at.1 (ap (number_of f a s) from ∙ numbered)
        (ap (λ (k : MoveTree). cube_matches e.care e.want k.letter) (sym row.2) ∙ matches))

    pub is_annotation : IsAnnotation (edges_from f.edges) moves f.bound (number_of f a)
    is_annotation = record {
      numbering = record {
        start = number_reaches level f.states f.automaton_states f.bound met.fall 0 0 0 side.has_state side.automaton_starts
            (omega arith) met.start;
        goes_on = goes_on;
      };
      within = λ s p n numbered. (number_is level f.states f.automaton_states f.bound s p n numbered).2;
    }
