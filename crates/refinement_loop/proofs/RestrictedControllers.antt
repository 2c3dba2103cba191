-- A controller that does in each of its states what another one does in a state of its own has an annotation where that one has.
use Rattle.std.proofs.Common.{◌≡◌, ◌∙◌, ℕ, ◌≤◌, true, List, Option, None, Some, slice_get, Contains, sym, ap, subst}
use Rattle.std.specs.Prelude.{option_and_then}
use Rattle.std.proofs.lemmas.Option.{none-some}
use Rattle.ltl_formula.specs.Cubes.{cube_matches}
use Rattle.letter_space.specs.SpaceTree.{SpaceTree}
use Rattle.letter_space.specs.Letters.{letter_of}
use Rattle.cobuchi_automata.specs.Automata.{EdgeTree}
use Rattle.machines.specs.MachineTree.{EntryTree, ControllerTree, controller_entry}
use Rattle.machines.specs.Moves.{MoveTree, controller_moves}
use Rattle.annotation_check.specs.Annotations.{IsAtLeast, after_edge, IsAnnotation}
use Rattle.control_flow_model.proofs.MovesThere.{move_of, move_there}
use Rattle.bounded_encoding.proofs.SolutionsAreAssignments.MovesHeld.{move_entry}
use Rattle.bounded_encoding.proofs.Tables.{cell_in_row}

-- an entry of a state does what a controller does in the state that stands in a list there, and goes to the state that stands for
-- the next one
pub record IsMovedEntry (c : ControllerTree) (kept : List ℕ) (i v : ℕ) (e : EntryTree) : Type 0 where
  pub state : ℕ
  pub is_state : slice_get kept i ≡ Some state
  pub entry : EntryTree
  pub there : controller_entry c state v ≡ Some entry
  pub choices : e.choices ≡ entry.choices
  pub next : slice_get kept e.next ≡ Some entry.next

-- a controller whose states stand for states of another one
pub record IsRestriction (c d : ControllerTree) (kept : List ℕ) : Type 0 where
  pub start : slice_get kept 0 ≡ Some 0
  pub entries : (i v : ℕ) (e : EntryTree) → controller_entry d i v ≡ Some e → IsMovedEntry c kept i v e

-- the numbers of the states that are stood for
abbrev pub numbers_by : List ℕ → (ℕ → ℕ → Option ℕ) → ℕ → ℕ → Option ℕ
numbers_by kept number i q = option_and_then (λ s. number s q) (slice_get kept i)

module _ (space : SpaceTree) (c d : ControllerTree) (kept : List ℕ) (restriction : IsRestriction c d kept) (edges : ℕ → List EdgeTree)
    (bound : ℕ) (number : ℕ → ℕ → Option ℕ) (annotation : IsAnnotation edges (controller_moves space c) bound number) where
  goes_on : (i q n : ℕ) → numbers_by kept number i q ≡ Some n → (m : MoveTree) → Contains (controller_moves space d i) m →
      (e : EdgeTree) → Contains (edges q) e → cube_matches e.care e.want m.letter ≡ true →
      IsAtLeast (after_edge n e) (numbers_by kept number m.next e.to)
  goes_on i q n at m moved e stands matches =
      let found = move_entry space d i m moved in
      let is = restriction.entries i found.0 found.2 (cell_in_row d.valuations d.entries i found.0 found.1 ∙ found.3) in
      let here : number is.state q ≡ Some n = sym (ap (option_and_then (λ s. number s q)) is.is_state) ∙ at in
      let letter : m.letter ≡ letter_of space found.0 is.entry.choices =
      ap (λ (x : MoveTree). x.letter) found.4 ∙ ap (letter_of space found.0) is.choices in
      let asked = annotation.numbering.goes_on is.state q n here (move_of space found.0 is.entry)
      (move_there space c is.state found.0 is.entry is.there) e stands (ap (cube_matches e.care e.want) (sym letter) ∙ matches) in
      let next : numbers_by kept number m.next e.to ≡ number is.entry.next e.to =
      ap (λ (x : MoveTree). numbers_by kept number x.next e.to) found.4 ∙ ap (option_and_then (λ s. number s e.to)) is.next in
      subst (IsAtLeast (after_edge n e)) (sym next) asked

  pub restricted_annotation : IsAnnotation edges (controller_moves space d) bound (numbers_by kept number)
  restricted_annotation = record {
    numbering = record {
      start = subst (IsAtLeast 0) (sym (ap (option_and_then (λ s. number s 0)) restriction.start)) annotation.numbering.start;
      goes_on = goes_on;
    };
    within = λ i q n at. within q n (slice_get kept i) at;
  }
    where
      within : (q n : ℕ) (o : Option ℕ) → option_and_then (λ s. number s q) o ≡ Some n → n ≤ bound
      within q n None at = absurd (none-some n at)
      within q n (Some s) at = annotation.within s q n at
