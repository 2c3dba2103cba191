-- The entry of a state and a valuation is one of the state's moves.
use Rattle.std.proofs.Common.{◌≡◌, ◌∙◌, ℕ, zero, suc, ◌+◌, ◌*◌, nat_lt, Bool, true, false, cond, List, [], ◌∷◌, drop}
use Rattle.std.proofs.Common.{Some, None, slice_get, refl, sym, ap, arith, length-drop}
use Rattle.std.specs.Prelude.{Contains}
use Rattle.std.proofs.lemmas.Bool.{ltb-true}
use Rattle.std.proofs.lemmas.List.{get_or-drop}
use Rattle.std.proofs.lemmas.Option.{none-some, same_Some, slice_get_within, slice_get-get_or, get_or_from_slice_get}
use Rattle.base_library.proofs.Places.{slice_get_taken, contains_at}
use Rattle.letter_space.specs.SpaceTree.{SpaceTree}
use Rattle.letter_space.specs.Letters.{letter_of}
use Rattle.machines.specs.MachineTree.{EntryTree, ControllerTree, controller_entry}
use Rattle.machines.specs.Moves.{MoveTree, entries_of, moves_from, controller_moves}

slice_get_dropped : {X : Type 0} (xs : List X) (n k : ℕ) (x : X) → slice_get xs (n + k) ≡ Some x → slice_get (drop n xs) k ≡ Some x
slice_get_dropped xs n k x at =
    let within = slice_get_within xs (n + k) x at in
    slice_get-get_or (drop n xs) k x (omega (arith, length-drop n xs, within))
    ∙ ap Some (get_or-drop n xs k x ∙ get_or_from_slice_get xs (n + k) x x at)

-- a move with the letter of a valuation and an entry's choices
abbrev pub move_of : SpaceTree → ℕ → EntryTree → MoveTree
move_of space v e = record { letter = letter_of space v e.choices; next = e.next }

moves_at : (space : SpaceTree) (first k : ℕ) (es : List EntryTree) (e : EntryTree) → slice_get es k ≡ Some e →
    slice_get (moves_from space first es) k ≡ Some (move_of space (first + k) e)
moves_at space first k [] e at = absurd (none-some e at)
moves_at space first zero (d ∷ es) e at =
    let same : first ≡ first + 0 = omega arith in
    λ i. Some (move_of space (same i) (same_Some d e at i))
moves_at space first (suc k) (d ∷ es) e at =
    let same : suc first + k ≡ first + suc k = omega arith in
    moves_at space (suc first) k es e at ∙ ap (λ v. Some (move_of space v e)) same

pub move_there : (space : SpaceTree) (c : ControllerTree) (s v : ℕ) (e : EntryTree) → controller_entry c s v ≡ Some e →
    Contains (controller_moves space c s) (move_of space v e)
move_there space c s v e at = by (nat_lt v c.valuations) refl
  where
    by : (b : Bool) → nat_lt v c.valuations ≡ b → Contains (controller_moves space c s) (move_of space v e)
    by true within =
        let there : slice_get c.entries (s * c.valuations + v) ≡ Some e =
        ap (λ b. cond b (slice_get c.entries (s * c.valuations + v)) None) (sym within) ∙ at in
        let entry : slice_get (entries_of c s) v ≡ Some e = slice_get_taken c.valuations (drop (s * c.valuations) c.entries) v e
        (ltb-true v c.valuations within) (slice_get_dropped c.entries (s * c.valuations) v e there) in
        let first : 0 + v ≡ v = omega arith in
        contains_at (controller_moves space c s) v (move_of space v e)
        (moves_at space 0 v (entries_of c s) e entry ∙ ap (λ w. Some (move_of space w e)) first)
    by false past = absurd (none-some e (ap (λ b. cond b (slice_get c.entries (s * c.valuations + v)) None) (sym past) ∙ at))
