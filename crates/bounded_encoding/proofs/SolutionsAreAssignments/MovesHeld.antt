-- The moves of a state are those of its entries.
use Rattle.std.proofs.Common.{◌≡◌, ◌∙◌, ℕ, zero, suc, ◌+◌, ◌*◌, ◌<◌, List, [], ◌∷◌, drop, Some, slice_get, get_or, Contains}
use Rattle.std.proofs.Common.{refl, sym, ap, arith}
use Rattle.std.proofs.lemmas.Option.{none-some, same_Some, slice_get-get_or}
use Rattle.base_library.proofs.Places.{slice_get-take, slice_get-drop, slice_get_taken}
use Rattle.letter_space.specs.SpaceTree.{SpaceTree}
use Rattle.letter_space.specs.Letters.{letter_of}
use Rattle.machines.specs.MachineTree.{EntryTree, ControllerTree}
use Rattle.machines.specs.Moves.{MoveTree, entries_of, moves_from}

-- a member stands at some place
pub place_of : {X : Type 0} (xs : List X) (x : X) → Contains xs x → (k : ℕ) × (slice_get xs k ≡ Some x)
place_of xs x stands = (stands.0, slice_get-get_or xs stands.0 x stands.1 ∙ ap Some stands.2)

abbrev pub move_of : SpaceTree → ℕ → EntryTree → MoveTree
move_of space v e = record { letter = letter_of space v e.choices; next = e.next }

module _ (space : SpaceTree) where
  moves_have : (v : ℕ) (es : List EntryTree) (m : MoveTree) → Contains (moves_from space v es) m →
      (k : ℕ) × (e : EntryTree) × (slice_get es k ≡ Some e) × (m ≡ move_of space (v + k) e)
  moves_have v [] m stands = absurd (omega (arith, stands.1))
  moves_have v (e ∷ es) m (zero, within, is) =
      let same : v ≡ v + 0 = omega arith in
      (0, e, refl, sym is ∙ ap (λ n. move_of space n e) same)
  moves_have v (e ∷ es) m (suc k, within, is) =
      let r = moves_have (suc v) es m (k, omega arith, is) in
      let same : suc v + r.0 ≡ v + suc r.0 = omega arith in
      (suc r.0, r.1, r.2, r.3 ∙ ap (λ n. move_of space n r.1) same)

  moves_hold : (v : ℕ) (es : List EntryTree) (k : ℕ) (e : EntryTree) → slice_get es k ≡ Some e →
      Contains (moves_from space v es) (move_of space (v + k) e)
  moves_hold v [] k e at = absurd (none-some e at)
  moves_hold v (d ∷ es) zero e at =
      let same : v ≡ v + 0 = omega arith in
      (0, omega arith, (λ i. move_of space (same i) (same_Some d e at i)))
  moves_hold v (d ∷ es) (suc k) e at =
      let r = moves_hold (suc v) es k e at in
      let same : suc v + k ≡ v + suc k = omega arith in
      moved r same
    where
      moved : Contains (moves_from space (suc v) es) (move_of space (suc v + k) e) → suc v + k ≡ v + suc k →
          Contains (moves_from space v (d ∷ es)) (move_of space (v + suc k) e)
      moved r same = (
        suc r.0,
        omega (arith, r.1),
        ap (λ n. get_or (moves_from space (suc v) es) r.0 (move_of space n e)) (sym same)
            ∙ r.2 ∙ ap (λ n. move_of space n e) same,
      )

  module _ (c : ControllerTree) (s : ℕ) where
    -- a move has a valuation and an entry there
    pub move_entry : (m : MoveTree) → Contains (moves_from space 0 (entries_of c s)) m →
        (v : ℕ) × (v < c.valuations) × (e : EntryTree) × (slice_get c.entries (s * c.valuations + v) ≡ Some e) × (m ≡ move_of space v e)
    move_entry m stands =
        let r = moves_have 0 (entries_of c s) m stands in
        let there = slice_get-take c.valuations (drop (s * c.valuations) c.entries) r.0 r.1 r.2 in
        let same : 0 + r.0 ≡ r.0 = omega arith in
        (r.0, there.0, r.1, sym (slice_get-drop (s * c.valuations) c.entries r.0) ∙ there.1, r.3 ∙ ap (λ n. move_of space n r.1) same)

    -- and each entry gives a move
    pub entry_move : (v : ℕ) (e : EntryTree) → v < c.valuations → slice_get c.entries (s * c.valuations + v) ≡ Some e →
        Contains (moves_from space 0 (entries_of c s)) (move_of space v e)
    entry_move v e below at =
        let there = slice_get_taken c.valuations (drop (s * c.valuations) c.entries) v e below
        (slice_get-drop (s * c.valuations) c.entries v ∙ at) in
        let same : 0 + v ≡ v = omega arith in
        turned same (moves_hold 0 (entries_of c s) v e there)
      where
        turned : 0 + v ≡ v → Contains (moves_from space 0 (entries_of c s)) (move_of space (0 + v) e) →
            Contains (moves_from space 0 (entries_of c s)) (move_of space v e)
        turned same r = (
          r.0,
          r.1,
          ap (λ n. get_or (moves_from space 0 (entries_of c s)) r.0 (move_of space n e)) (sym same)
              ∙ r.2 ∙ ap (λ n. move_of space n e) same,
        )
