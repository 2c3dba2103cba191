-- Walks that follow each other are a walk, and a walk stays in a set that is closed under steps.
use Rattle.std.proofs.Common.{ℕ, zero, suc, Option, refl, sym, subst}
use Rattle.loop_acceptance.specs.declared.product.Step.{Step}
use Rattle.loop_acceptance.specs.internal.Graph.{StepsTo, IsWalk, WalksTo}

module _ (step : ℕ → ℕ → Option Step) where
  pub reach_step : (p q : ℕ) → StepsTo step p q → WalksTo step p q
  reach_step p q leads = (suc zero, (q, leads, refl))

  pub reach_itself : (p : ℕ) → WalksTo step p p
  reach_itself p = (zero, refl)

  walk_then : (n p q r : ℕ) → IsWalk step n p q → WalksTo step q r → WalksTo step p r
  walk_then zero p q r same rest = subst (λ x. WalksTo step x r) (sym same) rest
  walk_then (suc n) p q r walk rest = let on = walk_then n walk.0 q r walk.2 rest in (suc on.0, (walk.0, walk.1, on.1))

  pub reach_both : (p q r : ℕ) → WalksTo step p q → WalksTo step q r → WalksTo step p r
  reach_both p q r first rest = walk_then first.0 p q r first.1 rest

  pub reach_first : (p q r : ℕ) → StepsTo step p q → WalksTo step q r → WalksTo step p r
  reach_first p q r leads rest = (suc rest.0, (q, leads, rest.1))

  walk_stays : (K : ℕ → Type 0) → ((p q : ℕ) → K p → StepsTo step p q → K q) → (n p r : ℕ) → K p → IsWalk step n p r → K r
  walk_stays K closed zero p r here walk = subst K walk here
  walk_stays K closed (suc n) p r here walk = walk_stays K closed n walk.0 r (closed p walk.0 here walk.1) walk.2

  pub reach_stays : (K : ℕ → Type 0) → ((p q : ℕ) → K p → StepsTo step p q → K q) → (p r : ℕ) → K p → WalksTo step p r → K r
  reach_stays K closed p r here walk = walk_stays K closed walk.0 p r here walk.1
