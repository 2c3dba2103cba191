-- What is carried along a plane is an until along the loop.
use Rattle.std.proofs.Common.{◌≡◌, ◌∙◌, ℕ, zero, suc, ◌+◌, ◌-◌, ◌*◌, ◌<◌, ◌≤◌, nat_lt, Bool, true, false, ◌&&◌, ◌||◌, sym, ap, arith}
use Rattle.std.proofs.Common.{inl, inr, List, length}
use Rattle.std.proofs.lemmas.Bool.{cases_lt, cases_Bool, false≢true, or_left, or_right, lt-ltb, le-ltb}
use Rattle.loop_shape.specs.LoopShape.{LoopShape, IsPosition, after}
use Rattle.loop_shape.specs.AlongLoop.{until_at, next_at}
use Rattle.loop_shape.proofs.Steps.{last, onward}
use Rattle.loop_shape.proofs.Untils.{until_unrolls}
use Rattle.loop_shape.proofs.Fixpoints.{until_least}
use Rattle.lane_planes.specs.Planes.{has_bit}
use Rattle.position_planes.specs.Carries.{carry_to, shifted}
use Rattle.position_planes.specs.Positions.{IsPlaneOf, bit_of, loop_of}

module _ (start round : ℕ) (goes_on : 1 ≤ round) (a b : ℕ → Bool) (left right : List ℕ)
    (on_left : IsPlaneOf (start + round) a left) (on_right : IsPlaneOf (start + round) b right) where
  abbrev all : ℕ
  all = start + round

  abbrev shape : LoopShape
  shape = loop_of start round

  position : (p : ℕ) → p < all → IsPosition shape p
  position p below = record { goes_on = goes_on; within = below }

  -- what comes from a position, by what comes to the last one
  abbrev from : Bool → ℕ → Bool
  from c p = carry_to (has_bit left) (has_bit right) c (all - p)

  from_end : (c : Bool) → from c all ≡ c
  from_end c = let none : all - all ≡ 0 = omega arith in ap (carry_to (has_bit left) (has_bit right) c) none

  from_here : (c : Bool) (p : ℕ) → p < all → from c p ≡ (b p || (a p && from c (suc p)))
  from_here c p below =
      let here : all - p ≡ suc (bit_of all p) = omega (arith, below) in
      ap (carry_to (has_bit left) (has_bit right) c) here
      ∙ (λ k. on_right.truths p below k || (on_left.truths p below k && from c (suc p)))

  -- where the until at the start comes to the last position, the until at each position comes from it
  whole : (m p : ℕ) → p + suc m ≡ all → from (until_at shape a b start) p ≡ until_at shape a b p
  whole zero p end =
      let over : suc p ≡ all = omega (arith, end) in
      from_here (until_at shape a b start) p (omega (arith, end))
      ∙ ap (λ u. b p || (a p && u)) (ap (from (until_at shape a b start)) over ∙ from_end (until_at shape a b start)
      ∙ ap (until_at shape a b) (sym (last shape p (omega (arith, end)))))
      ∙ sym (until_unrolls shape a b p (position p (omega (arith, end))))
  whole (suc m) p end =
      from_here (until_at shape a b start) p (omega (arith, end))
      ∙ ap (λ u. b p || (a p && u)) (whole m (suc p) (omega (arith, end))
      ∙ ap (until_at shape a b) (sym (onward shape p (omega (arith, end)))))
      ∙ sym (until_unrolls shape a b p (position p (omega (arith, end))))

  at_start : from (until_at shape a b start) start ≡ until_at shape a b start
  at_start = whole (round - 1) start (omega (arith, goes_on))

  -- what comes from the part that goes round, where nothing comes to the last position
  abbrev soon : ℕ → Bool
  soon p = nat_lt p start || from false p

  soon_at : (p : ℕ) → start ≤ p → soon p ≡ from false p
  soon_at p over = ap (λ c. c || from false p) (le-ltb p start over)

  module _ (never : from false start ≡ false) where
    soon_next : (p : ℕ) → p < all → start ≤ p → soon (after shape p) ≡ from false (suc p)
    soon_next p below over = elim (cases_lt (p + 1) all) [
      | inl more ↦ ap soon (onward shape p more) ∙ soon_at (suc p) (omega (arith, over))
      | inr end ↦
          let done : suc p ≡ all = omega (arith, end, below) in
          ap soon (last shape p (omega (arith, done))) ∙ soon_at start (omega arith) ∙ never ∙ sym (ap (from false) done ∙ from_end false)
    ]

    soon_closed : (p : ℕ) → IsPosition shape p → (b p || (a p && soon (after shape p))) ≡ true → soon p ≡ true
    soon_closed p at holds = elim (cases_lt p start) [
      | inl before ↦ or_left (nat_lt p start) (from false p) (lt-ltb p start before)
      | inr over ↦ or_right (nat_lt p start) (from false p)
          (from_here false p at.within ∙ ap (λ u. b p || (a p && u)) (sym (soon_next p at.within over)) ∙ holds)
    ]

  comes : from false start ≡ until_at shape a b start
  comes = elim (cases_Bool (until_at shape a b start)) [
    | inr fails ↦ ap (λ c. from c start) (sym fails) ∙ at_start
    | inl holds ↦ elim (cases_Bool (from false start)) [
      | inl found ↦ found ∙ sym holds
      | inr never ↦ absurd (false≢true (sym never ∙ sym (soon_at start (omega arith))
          ∙ until_least shape a b soon (soon_closed never) start (position start (omega (arith, goes_on))) holds))
    ]
  ]

  pub until_plane : (new : List ℕ) (c : Bool) → length new ≡ length left →
      c ≡ carry_to (has_bit left) (has_bit right) false (suc (round - 1)) →
      ((i : ℕ) → i < 64 * length left → has_bit new i ≡ carry_to (has_bit left) (has_bit right) c (suc i)) →
      IsPlaneOf (start + round) (until_at (loop_of start round) a b) new
  until_plane new c long is bits = record {
    size = long ∙ on_left.size;
    truths = λ p below.
        let here : suc (bit_of all p) ≡ all - p = omega (arith, below) in
        let rest : p + suc (all - suc p) ≡ all = omega (arith, below) in
        bits (bit_of all p) (omega (arith, below, on_left.size)) ∙ ap (carry_to (has_bit left) (has_bit right) c) here
        ∙ ap (λ d. from d p) (is ∙ ap (carry_to (has_bit left) (has_bit right) false) turn ∙ comes)
        ∙ whole (all - suc p) p rest;
  }
    where
      turn : suc (round - 1) ≡ all - start
      turn = omega (arith, goes_on)

pub next_plane : (start round : ℕ) → 1 ≤ round → (a : ℕ → Bool) (old new : List ℕ) (c : Bool) → IsPlaneOf (start + round) a old →
    length new ≡ length old → c ≡ has_bit old (round - 1) → ((i : ℕ) → i < 64 * length old → has_bit new i ≡ shifted (has_bit old) c i) →
    IsPlaneOf (start + round) (next_at (loop_of start round) a) new
next_plane start round goes_on a old new c on_old long is bits = record {
  size = long ∙ on_old.size;
  truths = λ p below. bits (bit_of (start + round) p) (omega (arith, below, on_old.size)) ∙ elim (cases_lt (p + 1) (start + round)) [
    | inl more ↦
        let up : bit_of (start + round) p ≡ suc (bit_of (start + round) (suc p)) = omega (arith, more) in
        ap (shifted (has_bit old) c) up ∙ on_old.truths (suc p) (omega (arith, more)) ∙ ap a (sym (onward (loop_of start round) p more))
    | inr end ↦
        let low : bit_of (start + round) p ≡ 0 = omega (arith, end, below) in
        let turn : round - 1 ≡ bit_of (start + round) start = omega (arith, goes_on) in
        ap (shifted (has_bit old) c) low ∙ is ∙ ap (has_bit old) turn ∙ on_old.truths start (omega (arith, goes_on))
        ∙ ap a (sym (last (loop_of start round) p (omega (arith, end, below))))
  ];
}
