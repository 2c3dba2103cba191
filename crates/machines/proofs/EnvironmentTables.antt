-- What an environment's type keeps holds of its pure table, and its moves one vector after another.
use Rattle.std.proofs.Common.{◌≡◌, ◌∙◌, ℕ, zero, suc, ◌+◌, ◌<◌, List, [], ◌∷◌, ◌++◌, map, Option, Some, slice_get, option_map}
use Rattle.std.proofs.Common.{option_and_then, get_or, add-one, sym, ap, arith}
use Rattle.std.specs.List.{cons_option, filter_map, range_with_len}
use Rattle.std.proofs.lemmas.List.{map_push}
use Rattle.std.proofs.lemmas.List.Elements.{filter_map-append}
use Rattle.std.proofs.lemmas.Option.{slice_get-get_or}
use Rattle.letter_space.specs.SpaceTree.{SpaceTree}
use Rattle.machines.specs.declared.environment.Environment.{Environment}
use Rattle.machines.specs.MachineTree.{EnvironmentTree, IsEnvironment, successor_at}
use Rattle.machines.specs.MachineView.{environment_tree}
use Rattle.machines.specs.Moves.{MoveTree, move_under, environment_move}

pub is_environment : (e : Environment) → IsEnvironment (environment_tree e)
is_environment e = record { has_state = e.has_state; has_truths = e.has_truths; has_next = e.has_next; stays = e.stays }

-- what is true in a state
pub truths_there : (e : Environment) (s truths : ℕ) → s < e.states → truths ≡ get_or e.truths s 0 → slice_get e.truths s ≡ Some truths
truths_there e s truths below is =
    let many = e.has_truths in slice_get-get_or e.truths s 0 (omega (arith, below, many)) ∙ ap Some (sym is)

-- one number more
range_more : (a n : ℕ) → range_with_len a (suc n) ≡ range_with_len a n ++ (a + n) ∷ []
range_more a zero = let same : a ≡ a + 0 = omega arith in ap (λ k. k ∷ []) same
range_more a (suc n) =
    let last : a + 1 + n ≡ a + suc n = omega arith in
    ap (λ ns. a ∷ ns) (range_more (a + 1) n ∙ ap (λ k. range_with_len (a + 1) n ++ k ∷ []) last)

pub given_more : {X : Type 0} (f : ℕ → Option X) (n : ℕ) (x : X) → f n ≡ Some x →
    filter_map f (range_with_len 0 (n + 1)) ≡ filter_map f (range_with_len 0 n) ++ x ∷ []
given_more f n x is =
    let same : 0 + n ≡ n = omega arith in
    ap (filter_map f) (ap (range_with_len 0) (add-one n) ∙ range_more 0 n) ∙ (filter_map-append f (range_with_len 0 n) ((0 + n) ∷ [])
    ∙ ap (λ o. filter_map f (range_with_len 0 n) ++ cons_option o []) (ap f same ∙ is))

module _ (space : SpaceTree) (e : EnvironmentTree) (s : ℕ) where
  -- the move under a vector
  pub move_is : (truths u next : ℕ) → slice_get e.truths s ≡ Some truths → Some next ≡ successor_at e s u →
      environment_move space e s u ≡ Some (move_under space truths u next)
  move_is truths u next here goes =
      ap (λ o. option_and_then (λ n. option_map (move_under space n u) (successor_at e s u)) o) here
      ∙ ap (option_map (move_under space truths u)) (sym goes)

  -- one move more
  pub move_given : {X : Type 0} (f : X → MoveTree) (moves : List X) (move : X) (truths u next : ℕ) → slice_get e.truths s ≡ Some truths →
      Some next ≡ successor_at e s u → f move ≡ move_under space truths u next →
      map f moves ≡ filter_map (environment_move space e s) (range_with_len 0 u) →
      map f (moves ++ move ∷ []) ≡ filter_map (environment_move space e s) (range_with_len 0 (u + 1))
  move_given f moves move truths u next here goes is so_far =
      map_push f moves move ∙ ((λ i. so_far i ++ is i ∷ [])
      ∙ sym (given_more (environment_move space e s) u (move_under space truths u next) (move_is truths u next here goes)))
