-- What stands beside a signal in two lists that are joined.
use Rattle.std.proofs.Common.{◌≡◌, ℕ, ◌==◌, Bool, true, false, cond, List, [], ◌∷◌, ◌++◌, length, Some, refl, arith}
use Rattle.std.specs.Option.{option_or}
use Rattle.tsl_terms.specs.Value.{beside}

pub beside_joined : {S : Type 0} (s : ℕ) (rs qs : List ℕ) (us ws : List S) → length us ≡ length rs →
    beside s (rs ++ qs) (us ++ ws) ≡ option_or (beside s rs us) (beside s qs ws)
beside_joined s [] qs [] ws long = refl
beside_joined s [] qs (u ∷ us) ws long = absurd (omega (arith, long))
beside_joined s (r ∷ rs) qs [] ws long = absurd (omega (arith, long))
beside_joined s (r ∷ rs) qs (u ∷ us) ws long = by (beside_joined s rs qs us ws (omega (arith, long))) (r == s)
  where
    by : beside s (rs ++ qs) (us ++ ws) ≡ option_or (beside s rs us) (beside s qs ws) → (b : Bool) →
        cond b (Some u) (beside s (rs ++ qs) (us ++ ws)) ≡ option_or (cond b (Some u) (beside s rs us)) (beside s qs ws)
    by rest true = refl
    by rest false = rest
