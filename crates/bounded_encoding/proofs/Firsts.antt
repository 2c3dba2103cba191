-- A loop over the numbers below a bound that looks for the first that passes a test, or for how many pass in a row.
use Rattle.std.proofs.Common.{◌≡◌, ◌∙◌, ℕ, ◌+◌, ◌<◌, ◌≤◌, Bool, true, false, cond, Some, sym, ap, arith}
use Rattle.std.specs.Prelude.{find}
use Rattle.std.specs.Option.{unwrap_or}
use Rattle.std.specs.List.{prefix_len}
use Rattle.bounded_encoding.specs.ClauseLists.{between}
use Rattle.bounded_encoding.proofs.Between.{between_more, between_none}

module _ (test : ℕ → Bool) where
  -- a loop that looks for the first
  pub first_later : (whole a b : ℕ) → a < b → test a ≡ false → unwrap_or (find test (between a b)) 0 ≡ whole →
      unwrap_or (find test (between (a + 1) b)) 0 ≡ whole
  first_later whole a b h fails so_far =
      sym (ap (λ t. unwrap_or (cond t (Some a) (find test (between (a + 1) b))) 0) fails)
      ∙ sym (ap (λ ns. unwrap_or (find test ns) 0) (between_more a b h)) ∙ so_far

  pub first_here : (whole a b : ℕ) → a < b → test a ≡ true → unwrap_or (find test (between a b)) 0 ≡ whole → a ≡ whole
  first_here whole a b h passes so_far =
      sym (ap (λ t. unwrap_or (cond t (Some a) (find test (between (a + 1) b))) 0) passes)
      ∙ sym (ap (λ ns. unwrap_or (find test ns) 0) (between_more a b h)) ∙ so_far

  pub first_nowhere : (whole a b : ℕ) → b ≤ a → unwrap_or (find test (between a b)) 0 ≡ whole → 0 ≡ whole
  first_nowhere whole a b h so_far = sym (ap (λ ns. unwrap_or (find test ns) 0) (between_none a b h)) ∙ so_far

  -- a loop that counts those in a row
  pub run_goes_on : (whole a b : ℕ) → a < b → test a ≡ true → a + prefix_len test (between a b) ≡ whole →
      (a + 1) + prefix_len test (between (a + 1) b) ≡ whole
  run_goes_on whole a b h passes so_far =
      let e = ap (prefix_len test) (between_more a b h)
      ∙ ap (λ t. cond t (1 + prefix_len test (between (a + 1) b)) 0) passes in
      omega (arith, e, so_far)

  pub run_stops : (whole a b : ℕ) → a < b → test a ≡ false → a + prefix_len test (between a b) ≡ whole → a ≡ whole
  run_stops whole a b h fails so_far =
      let e = ap (prefix_len test) (between_more a b h)
      ∙ ap (λ t. cond t (1 + prefix_len test (between (a + 1) b)) 0) fails in
      omega (arith, e, so_far)

  pub run_ends : (whole a b : ℕ) → b ≤ a → a + prefix_len test (between a b) ≡ whole → a ≡ whole
  run_ends whole a b h so_far = let e = ap (prefix_len test) (between_none a b h) in omega (arith, e, so_far)
