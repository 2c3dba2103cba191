-- The numbers from one to below another: the first of them, and when there is none.
use Rattle.std.proofs.Common.{◌≡◌, ℕ, suc, ◌+◌, ◌-◌, ◌<◌, ◌≤◌, [], ◌∷◌, refl, arith}
use Rattle.bounded_encoding.specs.ClauseLists.{between}

pub between_more : (a b : ℕ) → a < b → between a b ≡ a ∷ between (a + 1) b
between_more a b h = let e : b - a ≡ suc (b - (a + 1)) = omega arith in rw e refl

pub between_none : (a b : ℕ) → b ≤ a → between a b ≡ []
between_none a b h = let e : b - a ≡ 0 = omega arith in rw e refl
