-- What it is for an assignment to meet the clauses of a side, kind by kind.
use Rattle.std.proofs.Common.{◌≡◌, ◌∙◌, ℕ, ◌+◌, ◌-◌, ◌<◌, ◌≤◌, Bool, true, List, [], ◌∷◌, ◌++◌, Some, slice_get, refl, arith}
use Rattle.std.proofs.lemmas.Bool.{and_from, and_parts}
use Rattle.base_library.proofs.Passes.{list_all_parts, list_all_joined}
use Rattle.clause_core.specs.Literals.{Lit}
use Rattle.clause_core.specs.Clauses.{meets, meets_all}
use Rattle.ltl_formula.specs.Cubes.{has_bit}
use Rattle.cobuchi_automata.specs.Automata.{EdgeTree}
use Rattle.annotation_check.specs.Annotations.{after_edge}
use Rattle.bounded_encoding.specs.SimpleClauses.{exactly_one, falling}
use Rattle.bounded_encoding.specs.Grids.{cell_index, one_in_row, falling_in_row}
use Rattle.bounded_encoding.specs.Frames.{FrameTree, next_at, number_at, next_grid, number_grid}
use Rattle.bounded_encoding.specs.Sides.{SideTree, differing, numbered, clause_along, clauses_to, clauses_under, clauses_along, clauses_in}
use Rattle.bounded_encoding.specs.Sides.{clauses_of_nexts, clauses_of_start, clauses_of_numbers, clauses_of_edges, clauses_of_side}
use Rattle.bounded_encoding.proofs.Ranges.{all_in_range, all_of_range, all_in_list, all_of_list}
use Rattle.bounded_encoding.proofs.Implications.{clause_asks, clause_from, all_agree, none_differs, last_says, last_said, falls, falling_met}
use Rattle.bounded_encoding.proofs.Implications.{only_holds, only_met}
use Rattle.bounded_encoding.proofs.SolutionsAreAssignments.ExactlyOne.{IsOneOf, one_from_clauses, clauses_from_one}

module _ (z : SideTree) (a : ℕ → Bool) where
  abbrev f : FrameTree
  f = z.frame

  -- what the machine does is as an edge asks
  abbrev pub IsAsAsked : EdgeTree → ℕ → ℕ → Type 0
  IsAsAsked e s r =
      (b : ℕ) → b < f.bits → has_bit (f.first_bit + b) e.care ≡ true → a (z.base s r + b) ≡ has_bit (f.first_bit + b) e.want

  -- a pair has a number within the bound, at least this one
  abbrev pub IsNumbered : ℕ → ℕ → ℕ → Type 0
  IsNumbered t p n = (n ≤ f.bound) × (a (number_at f t p n) ≡ true)

  pub record AreMet : Type 0 where
    pub nexts : (s r : ℕ) → s < f.states → r < f.rows → IsOneOf (λ t. a (next_at f s r t)) 0 f.states
    pub start : a (number_at f 0 0 0) ≡ true
    pub fall : (s p i : ℕ) → s < f.states → p < f.automaton_states → 1 ≤ i → i ≤ f.bound → a (number_at f s p i) ≡ true →
        a (number_at f s p (i - 1)) ≡ true
    pub edges : (s j r k t i : ℕ) (e : EdgeTree) → s < f.states → slice_get f.edges j ≡ Some e → slice_get (z.met e) k ≡ Some r →
        t < f.states → i ≤ f.bound → a (number_at f s e.from i) ≡ true → a (next_at f s r t) ≡ true → IsAsAsked e s r →
        IsNumbered t e.to (after_edge i e)

  module _ (s : ℕ) (e : EdgeTree) (r t i : ℕ) where
    abbrev unless : List Lit
    unless = differing (z.base s r) f.first_bit f.bits e

    asks : meets a (clause_along f unless s e r t i) ≡ true → a (number_at f s e.from i) ≡ true → a (next_at f s r t) ≡ true →
        IsAsAsked e s r → IsNumbered t e.to (after_edge i e)
    asks met from goes asked =
        last_says a (number_at f t e.to) f.bound (after_edge i e)
        (clause_asks a (number_at f s e.from i) (next_at f s r t) unless (numbered f t e.to (after_edge i e)) met from goes
        (none_differs a (λ b. z.base s r + b) (λ b. has_bit (f.first_bit + b) e.care) (λ b. has_bit (f.first_bit + b) e.want) f.bits
        asked))

    asks_from : (a (number_at f s e.from i) ≡ true → a (next_at f s r t) ≡ true → IsAsAsked e s r →
        IsNumbered t e.to (after_edge i e)) → meets a (clause_along f unless s e r t i) ≡ true
    asks_from gives =
        clause_from a (number_at f s e.from i) (next_at f s r t) unless (numbered f t e.to (after_edge i e)) (λ from goes none.
        last_said a (number_at f t e.to) f.bound (after_edge i e) (gives from goes
        (all_agree a (λ b. z.base s r + b) (λ b. has_bit (f.first_bit + b) e.care) (λ b. has_bit (f.first_bit + b) e.want) f.bits
        none)))

  pub are_met : meets_all a (clauses_of_side z) ≡ true → AreMet
  are_met met =
      let one = list_all_parts (meets a) (clauses_of_nexts f) (clauses_of_start f ++ (clauses_of_numbers f ++ clauses_of_edges z)) met in
      let two = list_all_parts (meets a) (clauses_of_start f) (clauses_of_numbers f ++ clauses_of_edges z) one.1 in
      let three = list_all_parts (meets a) (clauses_of_numbers f) (clauses_of_edges z) two.1 in
      record {
        nexts = λ s r in_states in_rows.
            one_from_clauses a (next_at f s r) 0 f.states
            (all_in_range (meets a) (λ r. exactly_one (cell_index (next_grid f) s r) 0 f.states) 0 (f.rows - 0) r
            (all_in_range (meets a) (one_in_row (next_grid f)) 0 (f.states - 0) s one.0 (omega arith) (omega arith)) (omega arith)
            (omega arith));
        start = only_holds a (number_at f 0 0 0) two.0;
        fall = λ s p i in_states in_automaton some most.
            falls a (number_at f s p) f.bound
            (all_in_range (meets a) (λ p. falling (cell_index (number_grid f) s p) f.bound) 0 (f.automaton_states - 0) p
            (all_in_range (meets a) (falling_in_row (number_grid f) f.bound) 0 (f.states - 0) s three.0 (omega arith) (omega arith))
            (omega arith) (omega arith)) i some most;
        edges = λ s j r k t i e in_states at met_at in_states_too most.
            asks s e r t i
            (and_parts (meets a (clause_along f (unless s e r t i) s e r t i)) true
            (all_in_range (meets a) (λ i. clause_along f (unless s e r t i) s e r t i ∷ []) 0 (f.bound + 1 - 0) i
            (all_in_range (meets a) (clauses_to f (unless s e r t i) s e r) 0 (f.states - 0) t
            (all_in_list (meets a) (clauses_under z s e) (z.met e) k r
            (all_in_list (meets a) (clauses_along z s) f.edges j e
            (all_in_range (meets a) (clauses_in z) 0 (f.states - 0) s three.1 (omega arith) (omega arith)) at) met_at)
            (omega arith) (omega arith)) (omega arith) (omega arith))).0;
      }

  pub clauses_are_met : AreMet → meets_all a (clauses_of_side z) ≡ true
  clauses_are_met met =
      list_all_joined (meets a) (clauses_of_nexts f) (clauses_of_start f ++ (clauses_of_numbers f ++ clauses_of_edges z))
      (all_of_range (meets a) (one_in_row (next_grid f)) 0 (f.states - 0) (λ s from below.
      all_of_range (meets a) (λ r. exactly_one (cell_index (next_grid f) s r) 0 f.states) 0 (f.rows - 0) (λ r from_too below_too.
      clauses_from_one a (next_at f s r) 0 f.states (met.nexts s r (omega arith) (omega arith)))))
      (list_all_joined (meets a) (clauses_of_start f) (clauses_of_numbers f ++ clauses_of_edges z)
      (only_met a (number_at f 0 0 0) met.start)
      (list_all_joined (meets a) (clauses_of_numbers f) (clauses_of_edges z)
      (all_of_range (meets a) (falling_in_row (number_grid f) f.bound) 0 (f.states - 0) (λ s from below.
      all_of_range (meets a) (λ p. falling (cell_index (number_grid f) s p) f.bound) 0 (f.automaton_states - 0) (λ p from_too below_too.
      falling_met a (number_at f s p) f.bound (λ i some most.
      met.fall s p i (omega arith) (omega arith) some most))))
      (all_of_range (meets a) (clauses_in z) 0 (f.states - 0) (λ s from below.
      all_of_list (meets a) (clauses_along z s) f.edges (λ j e at.
      all_of_list (meets a) (clauses_under z s e) (z.met e) (λ k r met_at.
      all_of_range (meets a) (clauses_to f (differing (z.base s r) f.first_bit f.bits e) s e r) 0 (f.states - 0) (λ t from_t below_t.
      all_of_range (meets a) (λ i. clause_along f (differing (z.base s r) f.first_bit f.bits e) s e r t i ∷ []) 0 (f.bound + 1 - 0)
      (λ i from_i below_i.
      and_from (meets a (clause_along f (differing (z.base s r) f.first_bit f.bits e) s e r t i)) true
      (asks_from s e r t i (met.edges s j r k t i e (omega arith) at met_at (omega arith) (omega arith)))
      refl))))))))
