-- Moves of a machine go to its states, and none is in a state that is none.
use Rattle.std.proofs.Common.{◌≡◌, ◌∙◌, ℕ, suc, ◌+◌, ◌*◌, ◌<◌, ◌≤◌, List, [], ◌∷◌, take, drop, Option, None, Some}
use Rattle.std.proofs.Common.{option_map, option_and_then, slice_get, Contains, refl, sym, ap, subst, arith}
use Rattle.std.specs.List.{AllByRecursion, cons_option, filter_map, range_with_len}
use Rattle.std.proofs.Math.Nat.{mul-le-mul_right}
use Rattle.std.proofs.Math.Seq.{take-nil}
use Rattle.std.proofs.lemmas.List.{drop_all, take-append-drop}
use Rattle.std.proofs.lemmas.Option.{none-some, same_Some, slice_get-map, slice_get_past, option_and_then_some}
use Rattle.base_library.proofs.Each.{each_from_places, each_contained, each_left, each_right}
use Rattle.letter_space.specs.SpaceTree.{SpaceTree}
use Rattle.machines.specs.MachineTree.{EntryTree, ControllerTree, IsController, EnvironmentTree, IsEnvironment, successor_at}
use Rattle.machines.specs.Moves.{MoveTree, entries_of, moves_from, controller_moves, move_under, environment_move, environment_moves}
use Rattle.machines.proofs.MovesListed.{cell_there}
use Rattle.machines.proofs.RangeMembers.{given_from}

moves_of_each : (space : SpaceTree) (n v : ℕ) (es : List EntryTree) → AllByRecursion (λ e. e.next < n) es →
    AllByRecursion (λ (m : MoveTree). m.next < n) (moves_from space v es)
moves_of_each space n v [] each = tt
moves_of_each space n v (e ∷ es) each = (each.0, moves_of_each space n (suc v) es each.1)

-- what holds of the moves of a machine with so many states
pub record AreMovesOf (states : ℕ) (moves : ℕ → List MoveTree) : Type 0 where
  pub past : (s : ℕ) → states ≤ s → moves s ≡ []
  pub stay : (s : ℕ) (m : MoveTree) → Contains (moves s) m → m.next < states

-- ---- controllers

module _ (space : SpaceTree) (c : ControllerTree) (is : IsController c) where
  controller_moves_stay : (s : ℕ) (m : MoveTree) → Contains (controller_moves space c s) m → m.next < c.states
  controller_moves_stay s m stands =
      let all = each_from_places (λ (e : EntryTree). e.next < c.states) c.entries
      (λ i e at. is.stays i e.next (slice_get-map (λ (e : EntryTree). e.next) c.entries i
      ∙ ap (option_map (λ (e : EntryTree). e.next)) at)) in
      let later = each_right (λ (e : EntryTree). e.next < c.states) (take (s * c.valuations) c.entries) (drop (s * c.valuations) c.entries)
      (subst (AllByRecursion (λ e. e.next < c.states)) (sym (take-append-drop (s * c.valuations) c.entries)) all) in
      let first = each_left (λ (e : EntryTree). e.next < c.states) (entries_of c s) (drop c.valuations (drop (s * c.valuations) c.entries))
      (subst (AllByRecursion (λ e. e.next < c.states)) (sym (take-append-drop c.valuations (drop (s * c.valuations) c.entries))) later) in
      each_contained (λ (m : MoveTree). m.next < c.states) (controller_moves space c s) m
      (moves_of_each space c.states 0 (entries_of c s) first) stands

  -- no move is in a state that is none
  controller_moves_past : (s : ℕ) → c.states ≤ s → controller_moves space c s ≡ []
  controller_moves_past s past =
      let far = mul-le-mul_right c.valuations past in
      let size = is.has_entries in
      let none = drop_all (s * c.valuations) c.entries (omega (arith, far, size)) in
      ap (λ es. moves_from space 0 (take c.valuations es)) none ∙ ap (moves_from space 0) (take-nil c.valuations)

  pub controller_moves_are : AreMovesOf c.states (controller_moves space c)
  controller_moves_are = record { past = controller_moves_past; stay = controller_moves_stay }

-- ---- environments

-- nothing is given where a function gives nothing
none_given : {X Y : Type 0} (f : X → Option Y) (xs : List X) → ((x : X) → f x ≡ None) → filter_map f xs ≡ []
none_given f [] none = refl
none_given f (x ∷ xs) none = ap (λ o. cons_option o (filter_map f xs)) (none x) ∙ none_given f xs none

-- where a move leads
move_leads : (space : SpaceTree) (e : EnvironmentTree) (s u : ℕ) (m : MoveTree) → environment_move space e s u ≡ Some m →
    successor_at e s u ≡ Some m.next
move_leads space e s u m is =
    option_and_then_some (λ truths. option_map (move_under space truths u) (successor_at e s u)) (slice_get e.truths s) m is
    (λ truths here moved. mapped truths (successor_at e s u) moved)
  where
    mapped : (truths : ℕ) (o : Option ℕ) → option_map (move_under space truths u) o ≡ Some m → o ≡ Some m.next
    mapped truths None moved = absurd (none-some m moved)
    mapped truths (Some next) moved = ap (λ (k : MoveTree). Some k.next) (same_Some (move_under space truths u next) m moved)

module _ (space : SpaceTree) (e : EnvironmentTree) (is : IsEnvironment e) where
  environment_moves_stay : (s : ℕ) (m : MoveTree) → Contains (environment_moves space e s) m → m.next < e.states
  environment_moves_stay s m stands =
      let found = given_from (environment_move space e s) 0 e.vectors m stands in
      let leads = move_leads space e s found.0 m found.3 in
      is.stays (s * e.vectors + found.0) m.next (cell_there e.vectors e.next s found.0 m.next leads)

  environment_moves_past : (s : ℕ) → e.states ≤ s → environment_moves space e s ≡ []
  environment_moves_past s past =
      let none = slice_get_past e.truths s (let many = is.has_truths in omega (arith, past, many)) in
      none_given (environment_move space e s) (range_with_len 0 e.vectors)
      (λ u. ap (λ o. option_and_then (λ truths. option_map (move_under space truths u) (successor_at e s u)) o) none)

  pub environment_moves_are : AreMovesOf e.states (environment_moves space e)
  environment_moves_are = record { past = environment_moves_past; stay = environment_moves_stay }
