-- What is read number by number is what the definitions read in states and under vectors.
use Rattle.std.proofs.Common.{◌≡◌, ◌∙◌, ℕ, ◌+◌, ◌*◌, ◌/◌, ◌%◌, ◌<◌, ◌≤◌, Bool, List, slice_get, sym, ap, subst}
use Rattle.base_library.proofs.Lists.{map_agree}
use Rattle.base_library.proofs.Places.{slice_get_mapped}
use Rattle.machines.specs.MachineTree.{NameStates}
use Rattle.bounded_encoding.specs.ClauseLists.{below}
use Rattle.bounded_encoding.specs.Question.{QuestionTree}
use Rattle.bounded_encoding.proofs.Ranges.{first_below}
use Rattle.bounded_encoding.proofs.SolutionsAreAssignments.Readings.{row_and_column}
use Rattle.counterstrategy.specs.DualVariables.{vectors_in_all, before_moves}
use Rattle.counterstrategy.specs.DualDecoding.{successor_read, successors_read}
use Rattle.counterstrategy.specs.internal.DualReading.{successor_numbered, successors_from}

module _ (q : QuestionTree) (a : ℕ → Bool) where
  pub successors_agree : successors_from a (before_moves q) q.states (q.states * vectors_in_all q) ≡ successors_read q a
  successors_agree = map_agree (successor_numbered a (before_moves q) q.states)
      (λ k. successor_read q a (k / vectors_in_all q) (k % vectors_in_all q))
      (λ k i. successor_numbered a (before_moves q) q.states (row_and_column k (vectors_in_all q) i)) (below (q.states * vectors_in_all q))

-- the first state that a variable names is a state
pub successors_stay : (a : ℕ → Bool) (base states count : ℕ) (next : List ℕ) → next ≡ successors_from a base states count →
    1 ≤ states → NameStates states next
successors_stay a base states count next is some i n at =
    let found = slice_get_mapped (successor_numbered a base states) (below count) i n
    (sym (ap (λ (ns : List ℕ). slice_get ns i) is) ∙ at) in
    subst (λ m. m < states) found.2 (first_below (λ t. a (base + found.0 * states + t)) states some)
