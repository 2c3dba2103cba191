-- Where a sequence comes back to a value.
use Rattle.std.specs.Prelude.{◌≡◌, ◌≢◌, ℕ, ◌+◌, ◌<◌, ◌≤◌, Option, Some, None}

module _ {X : Type 0} (at : ℕ → X) where
  -- it does not come back to the value of a step within so many steps
  abbrev pub IsAway : ℕ → ℕ → Type 0
  IsAway t n = (k : ℕ) → 1 ≤ k → k ≤ n → at (t + k) ≢ at t

  -- it comes back to the value of a step after so many steps, and not before
  pub record Returns (t n : ℕ) : Type 0 where
    pub goes_on : 1 ≤ n
    pub same : at (t + n) ≡ at t
    pub first : (k : ℕ) → 1 ≤ k → k < n → at (t + k) ≢ at t

  -- whether it does within so many steps, and after how many
  abbrev pub IsReturnWithin : ℕ → ℕ → Option ℕ → Type 0
  IsReturnWithin t reach None = IsAway t reach
  IsReturnWithin t reach (Some n) = Returns t n × (n ≤ reach)

  -- the first step whose value is there again after so many steps
  pub record IsFirstStart (n t : ℕ) : Type 0 where
    pub same : at (t + n) ≡ at t
    pub first : (k : ℕ) → k < t → at (k + n) ≢ at k
