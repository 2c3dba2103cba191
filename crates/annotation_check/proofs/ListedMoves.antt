-- Moves in any order as a list of letters and one of states.
use Rattle.std.proofs.Common.{◌≡◌, ◌∙◌, ℕ, zero, suc, ◌+◌, List, [], ◌∷◌, ◌++◌, map, length-append, inl, inr, Some, Contains, sym, ap, subst, arith}
use Rattle.std.specs.Prelude.{Result, IfOk, Err, Ok}
use Rattle.std.specs.List.Sorted.{IsPermutation}
use Rattle.std.proofs.lemmas.List.Sorted.{IsPermutation-map, IsPermutation-sym, Contains-permutation}
use Rattle.std.proofs.lemmas.Option.{none-some, same_Some}
use Rattle.base_library.proofs.Places.{slice_get_push}
use Rattle.machines.specs.Moves.{MoveTree}
use Rattle.machines.specs.MachineView.{move_tree}
use Rattle.machines.specs.declared.moves.Move.{Move}
use Rattle.annotation_check.specs.declared.listing.Listing.{Listing}
use Rattle.annotation_check.specs.internal.Listings.{IsMoveIn, IsMoveListing}
use Rattle.annotation_check.specs.internal.Pairs.{AreMoveListings}

abbrev letters_of : List Move → List ℕ
letters_of ms = map (λ (m : Move). m.letter) ms

abbrev states_of : List Move → List ℕ
states_of ms = map (λ (m : Move). m.next) ms

stands : (ms : List Move) (m : MoveTree) → Contains (map move_tree ms) m → IsMoveIn (letters_of ms) (states_of ms) m
stands (x ∷ ms) m (zero, within, is) = (0, ap (λ (n : MoveTree). Some n.letter) is, ap (λ (n : MoveTree). Some n.next) is)
stands (x ∷ ms) m (suc k, within, is) = let rest = stands ms m (k, omega arith, is) in (suc rest.0, rest.1, rest.2)
stands [] m (k, within, is) = absurd (omega (arith, within))

contained : (ms : List Move) (m : MoveTree) → IsMoveIn (letters_of ms) (states_of ms) m → Contains (map move_tree ms) m
contained [] m (i, letter, next) = absurd (none-some m.letter letter)
contained (x ∷ ms) m (zero, letter, next) =
    let l : x.letter ≡ m.letter = same_Some x.letter m.letter letter in
    let n : x.next ≡ m.next = same_Some x.next m.next next in
    (0, omega arith, λ i. record { letter = l i; next = n i })
contained (x ∷ ms) m (suc i, letter, next) = let rest = contained ms m (i, letter, next) in (suc rest.0, omega (arith, rest.1), rest.2)

-- moves in another order have the same listing
pub listing_of_sorted : (moves sorted : List Move) → IsPermutation moves sorted → IsMoveListing (map move_tree moves) (letters_of sorted) (states_of sorted)
listing_of_sorted moves sorted same m = (
  λ moved. stands sorted m
      (Contains-permutation (map move_tree moves) (map move_tree sorted) m (IsPermutation-map move_tree moves sorted same) moved),
  λ listed. Contains-permutation (map move_tree sorted) (map move_tree moves) m
      (IsPermutation-sym _ _ (IsPermutation-map move_tree moves sorted same)) (contained sorted m listed),
)

pub listing_made : (moves sorted : List Move) → IsPermutation moves sorted → {E : Type 0} (made : Result Listing E) →
    IfOk made (λ l. l.letters.items ≡ map (λ (m : Move). m.letter) sorted) → IfOk made (λ l. l.next.items ≡ map (λ (m : Move). m.next) sorted) →
    IfOk made (λ l. IsMoveListing (map move_tree moves) l.letters.items l.next.items)
listing_made moves sorted same (Err e) letters next = letters
listing_made moves sorted same (Ok l) letters next =
    subst (λ ls. IsMoveListing (map move_tree moves) ls l.next.items) (sym letters)
    (subst (IsMoveListing (map move_tree moves) (letters_of sorted)) (sym next) (listing_of_sorted moves sorted same))

-- the listing of one state more
pub listing_more : (moves : ℕ → List MoveTree) (listings : List Listing) (l : Listing) (n : ℕ) →
    IsMoveListing (moves n) l.letters.items l.next.items → AreMoveListings moves listings n → AreMoveListings moves (listings ++ l ∷ []) (n + 1)
listing_more moves listings l n is so_far = (
  (let many = length-append listings (l ∷ []) in let size = so_far.0 in omega (arith, many, size)),
  λ s m at. elim (slice_get_push listings l s m at) [
    | inl (below, old) ↦ so_far.1 s m old
    | inr (place, same) ↦
        subst (λ (x : Listing). IsMoveListing (moves s) x.letters.items x.next.items) same
        (subst (λ k. IsMoveListing (moves k) l.letters.items l.next.items) (sym so_far.0 ∙ sym place) is)
  ],
)
