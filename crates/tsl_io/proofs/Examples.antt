-- The definitions on examples, accepted and refused.
use Rattle.std.proofs.Common.{◌≡◌, ℕ, ◌^◌, ◌-◌, [], ◌∷◌, Some, None, ◌++◌, length, length-append, suc, zero, ap, refl, inl, inr, arith}
use Rattle.std.proofs.Common.{lit<}
use Rattle.tsl_io.specs.Told.{before, with_added, TakesPrefix, TakesFirst, AddsPrefix}
use Rattle.tsl_io.specs.Faults.{next_count, Faulted}
use Rattle.tsl_io.specs.Memory.{FailsNext, no_calls, with_success, with_fault}

before-told : before (1 ∷ 2 ∷ []) (Some (3 ∷ [])) ≡ Some (1 ∷ 2 ∷ 3 ∷ [])
before-told = refl

with_added-told : with_added (1 ∷ 2 ∷ []) (Some (3 ∷ [])) ≡ Some (3 ∷ 1 ∷ 2 ∷ [])
with_added-told = refl

before-untold : before (1 ∷ []) None ≡ None
before-untold = refl

-- a source that has one byte and then none gave that byte
one_taken : TakesFirst 1 (Some (7 ∷ [])) (Some [])
one_taken = (7 ∷ [], refl, refl)

-- and not two
not_two_taken : TakesFirst 2 (Some (7 ∷ [])) (Some []) → ⊥
not_two_taken taken =
    let e : 7 ∷ [] ≡ taken.0 ++ [] = cc in
    omega (arith, ap length e, length-append taken.0 [], taken.1)

-- bytes do not come back
none_comes_back : TakesPrefix (Some []) (Some (7 ∷ [])) → ⊥
none_comes_back taken =
    let e : [] ≡ taken.0 ++ 7 ∷ [] = cc in
    omega (arith, ap length e, length-append taken.0 (7 ∷ []))

-- the first of two bytes was added
one_added : AddsPrefix (1 ∷ 2 ∷ []) (Some (9 ∷ [])) (Some (9 ∷ 1 ∷ []))
one_added = (1, refl)

-- the second alone cannot have been
not_the_second : AddsPrefix (1 ∷ 2 ∷ []) (Some []) (Some (2 ∷ [])) → ⊥
not_the_second (zero, e) = cc
not_the_second (suc n, e) =
    let first : ℕ = 2 in
    let heads : first ≡ 1 = cc in
    omega (arith, heads)

-- a count that rose
rose : Faulted 4 5
rose = inl (lit< tt)

-- a count that stands at the last value
at_last : Faulted (2 ^ 64 - 1) (2 ^ 64 - 1)
at_last = inr (refl, refl)

-- an unchanged count below it shows no fault
unchanged : Faulted 4 4 → ⊥
unchanged fault = elim fault [ inl more ↦ omega arith | inr last ↦ omega (arith, last.0) ]

-- and a count that fell shows none
fell : Faulted 5 4 → ⊥
fell fault = elim fault [ inl more ↦ omega arith | inr last ↦ omega (arith, last.0) ]

next_counts : (next_count 0 ≡ 1) × (next_count (2 ^ 64 - 1) ≡ 2 ^ 64 - 1)
next_counts = (refl, refl)

-- the second call fails, and no other
second_fails : FailsNext (with_success (no_calls (2 ∷ [])))
second_fails = (0, lit< tt, refl)

first_succeeds : FailsNext (no_calls (2 ∷ [])) → ⊥
first_succeeds (zero, within, e) = omega (arith, e)
first_succeeds (suc n, within, e) = omega (arith, within)

third_succeeds : FailsNext (with_fault (with_success (no_calls (2 ∷ [])))) → ⊥
third_succeeds (zero, within, e) = omega (arith, e)
third_succeeds (suc n, within, e) = omega (arith, within)
