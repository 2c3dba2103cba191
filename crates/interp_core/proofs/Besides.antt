-- What stands beside a signal is what stands at the first place of the signal.
use Rattle.std.proofs.Common.{◌≡◌, ◌∙◌, ℕ, suc, ◌+◌, ◌==◌, Bool, true, false, cond, List, [], ◌∷◌, map, slice_get, length, get_or, ◌<◌, ◌≤◌}
use Rattle.std.proofs.Common.{Bor, Option, Some, None, refl, sym, ap, arith}
use Rattle.std.specs.Prelude.{option_map, option_and_then, MatchOption, IfSome}
use Rattle.std.specs.Option.{option_copied}
use Rattle.std.proofs.lemmas.Option.{slice_get_past, slice_get_read}
use Rattle.std.specs.List.{position, position_from}
use Rattle.std.proofs.lemmas.Iterator.Adapters.{position_from-zero}
use Rattle.tsl_terms.specs.Value.{beside}

module _ {K : Type 0} (test : K → Bool) where
  next_place : (i : ℕ) (xs : List K) → position_from test (suc i) xs ≡ option_map suc (position_from test i xs)
  next_place i [] = refl
  next_place i (x ∷ xs) = by (let e : suc i + 1 ≡ suc (i + 1) = omega arith in ap (λ n. position_from test n xs) e
      ∙ next_place (i + 1) xs) (test x)
    where
      by : position_from test (suc i + 1) xs ≡ option_map suc (position_from test (i + 1) xs) → (b : Bool) →
          cond b (Some (suc i)) (position_from test (suc i + 1) xs) ≡ option_map suc (cond b (Some i) (position_from test (i + 1) xs))
      by rest true = refl
      by rest false = rest

module _ {V : Type 0} (s : ℕ) where
  nothing_at : (place : Option ℕ) → option_and_then (slice_get {X = V} []) place ≡ None
  nothing_at None = refl
  nothing_at (Some i) = refl

  one_on : (v : V) (vs : List V) (place : Option ℕ) →
      option_and_then (slice_get (v ∷ vs)) (option_map suc place) ≡ option_and_then (slice_get vs) place
  one_on v vs None = refl
  one_on v vs (Some i) = refl

  beside_from : (rs : List ℕ) (vs : List V) →
      option_and_then (slice_get vs) (position_from (λ r. r == s) 0 rs) ≡ beside s rs vs
  beside_from [] vs = refl
  beside_from (r ∷ rs) [] = nothing_at (position_from (λ t. t == s) 0 (r ∷ rs))
  beside_from (r ∷ rs) (v ∷ vs) = by (beside_from rs vs) (r == s)
    where
      by : option_and_then (slice_get vs) (position_from (λ t. t == s) 0 rs) ≡ beside s rs vs → (b : Bool) →
          option_and_then (slice_get (v ∷ vs)) (cond b (Some 0) (position_from (λ t. t == s) 1 rs)) ≡ cond b (Some v) (beside s rs vs)
      by rest true = refl
      by rest false = ap (option_and_then (slice_get (v ∷ vs))) (next_place (λ t. t == s) 0 rs) ∙ one_on v vs _ ∙ rest

  pub beside_place : (rs : List ℕ) (vs : List V) →
      option_and_then (slice_get vs) (position (λ r. r == s) rs) ≡ beside s rs vs
  beside_place rs vs = ap (option_and_then (slice_get vs)) (position_from-zero (λ r. r == s) rs) ∙ beside_from rs vs

  -- and so is what a look-up at that place answers
  pub found_beside : (rs signals : List ℕ) (vs values : List V) (place : Option ℕ) (found : Option V) →
      place ≡ position (λ r. r == s) rs → rs ≡ signals → vs ≡ values → found ≡ option_and_then (slice_get vs) place →
      found ≡ beside s signals values
  found_beside rs signals vs values place found at same_signals same_values looked_up =
      rw (← same_signals, ← same_values) (looked_up ∙ ap (option_and_then (slice_get vs)) at ∙ beside_place rs vs)

-- what is seen of the value beside a signal
pub beside-map : {V S : Type 0} (seen : V → S) (s : ℕ) (rs : List ℕ) (vs : List V) →
    beside s rs (map seen vs) ≡ option_map seen (beside s rs vs)
beside-map seen s [] vs = refl
beside-map seen s (r ∷ rs) [] = refl
beside-map seen s (r ∷ rs) (v ∷ vs) = by (beside-map seen s rs vs) (r == s)
  where
    by : beside s rs (map seen vs) ≡ option_map seen (beside s rs vs) → (b : Bool) →
        cond b (Some (seen v)) (beside s rs (map seen vs)) ≡ option_map seen (cond b (Some v) (beside s rs vs))
    by rest true = refl
    by rest false = rest

-- what a look-up at a place answers
pub got_at : {V : Type 0} (P : Bor V → Type 0) (found : Option (Bor V)) (vs : List V) (i : ℕ) →
    IfSome found (λ v. v.now ≡ get_or vs i v.now) →
    MatchOption found (length vs ≤ i) (λ v. (i < length vs) × P v) → option_copied found ≡ slice_get vs i
got_at P None vs i read past = sym (slice_get_past vs i past)
got_at P (Some v) vs i read within = sym (slice_get_read vs (length vs) i v.now refl within.0 read)
