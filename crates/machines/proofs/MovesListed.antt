-- The moves of a state, one valuation after another.
use Rattle.std.proofs.Common.{◌≡◌, ◌∙◌, ℕ, ◌+◌, ◌*◌, ◌<◌, ◌≤◌, Bool, true, false, cond, ltb, List, [], ◌∷◌, ◌++◌, map, drop, None, Some}
use Rattle.std.proofs.Common.{slice_get, add-one, append-nil, sym, ap, arith}
use Rattle.std.proofs.lemmas.List.{drop_all, length-take}
use Rattle.std.proofs.lemmas.Option.{none-some, slice_get_within, get_or_from_slice_get}
use Rattle.base_library.proofs.Lists.{left_at, map_push_front}
use Rattle.base_library.proofs.Places.{slice_get_taken, slice_get-drop}
use Rattle.letter_space.specs.SpaceTree.{SpaceTree}
use Rattle.letter_space.specs.Letters.{letter_of}
use Rattle.machines.specs.MachineTree.{EntryTree, ControllerTree, cell_at, controller_entry}
use Rattle.machines.specs.Moves.{MoveTree, entries_of, moves_from}

-- what stands at a row and a column stands at their place
pub cell_there : {X : Type 0} (columns : ℕ) (cells : List X) (row column : ℕ) (x : X) → cell_at columns cells row column ≡ Some x →
    slice_get cells (row * columns + column) ≡ Some x
cell_there columns cells row column x = by (ltb column columns)
  where
    by : (b : Bool) → cond b (slice_get cells (row * columns + column)) None ≡ Some x → slice_get cells (row * columns + column) ≡ Some x
    by true is = is
    by false is = absurd (none-some x is)

module _ (space : SpaceTree) (c : ControllerTree) (s : ℕ) where
  -- the entry of a valuation among those of the state
  pub entry_there : (v : ℕ) (e : EntryTree) → v < c.valuations → Some e ≡ controller_entry c s v → slice_get (entries_of c s) v ≡ Some e
  entry_there v e below is =
      slice_get_taken c.valuations (drop (s * c.valuations) c.entries) v e below
      (slice_get-drop (s * c.valuations) c.entries v ∙ cell_there c.valuations c.entries s v e (sym is))

  -- one move more
  pub move_listed : {X : Type 0} (f : X → MoveTree) (moves : List X) (move : X) (v : ℕ) (e : EntryTree) → v < c.valuations →
      Some e ≡ controller_entry c s v → f move ≡ record { letter = letter_of space v e.choices; next = e.next } →
      map f moves ++ moves_from space v (drop v (entries_of c s)) ≡ moves_from space 0 (entries_of c s) →
      map f (moves ++ move ∷ []) ++ moves_from space (v + 1) (drop (v + 1) (entries_of c s)) ≡ moves_from space 0 (entries_of c s)
  move_listed f moves move v e below entry is so_far =
      let at = entry_there v e below entry in
      let left = left_at (entries_of c s) v e (slice_get_within (entries_of c s) v e at)
      (sym (get_or_from_slice_get (entries_of c s) v e e at)) in
      map_push_front f moves move (moves_from space (v + 1) (drop (v + 1) (entries_of c s)))
      ∙ ap (λ m. map f moves ++ m ∷ moves_from space (v + 1) (drop (v + 1) (entries_of c s))) is
      ∙ ap (λ n. map f moves ++ record { letter = letter_of space v e.choices; next = e.next } ∷ moves_from space n
      (drop (v + 1) (entries_of c s)))
      (add-one v) ∙ ap (λ es. map f moves ++ moves_from space v es) (sym left) ∙ so_far

  -- and no more after the last valuation
  pub moves_listed : (moves : List MoveTree) (v : ℕ) → c.valuations ≤ v →
      moves ++ moves_from space v (drop v (entries_of c s)) ≡ moves_from space 0 (entries_of c s) →
      moves ≡ moves_from space 0 (entries_of c s)
  moves_listed moves v past so_far =
      let short = length-take c.valuations (drop (s * c.valuations) c.entries) in
      let none = drop_all v (entries_of c s) (omega (arith, short, past)) in
      sym (append-nil moves) ∙ ap (λ es. moves ++ moves_from space v es) (sym none) ∙ so_far
