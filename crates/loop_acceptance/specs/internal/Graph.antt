-- Internal: only private functions and proofs of this crate use these words.
-- Steps between numbered nodes, some of them rejecting: what they lead to, and turns through a rejecting one.
use Rattle.std.specs.Prelude.{◌≡◌, ℕ, zero, suc, true, Option, Some}
use Rattle.loop_acceptance.specs.declared.product.Step.{Step}

-- the step of a node at a place, if there is one
module _ (step : ℕ → ℕ → Option Step) where
  -- a step of a node leads to another
  abbrev pub StepsTo : ℕ → ℕ → Type 0
  StepsTo p q = (k : ℕ) × (s : Step) × (step p k ≡ Some s) × (s.to ≡ q)

  -- a rejecting one does
  abbrev pub Rejects : ℕ → ℕ → Type 0
  Rejects p q = (k : ℕ) × (s : Step) × (step p k ≡ Some s) × (s.to ≡ q) × (s.rejecting ≡ true)

  -- so many steps, one after the other
  abbrev pub IsWalk : ℕ → ℕ → ℕ → Type 0
  IsWalk zero p r = p ≡ r
  IsWalk (suc n) p r = (q : ℕ) × StepsTo p q × IsWalk n q r

  -- some number of steps leads from a node to another
  abbrev pub WalksTo : ℕ → ℕ → Type 0
  WalksTo p r = (n : ℕ) × IsWalk n p r

  -- a rejecting step of a node that is reached, and steps from where it leads back to the node
  pub record TurnFrom (start : ℕ) : Type 0 where
    pub node : ℕ
    pub next : ℕ
    pub reached : WalksTo start node
    pub rejects : Rejects node next
    pub back : WalksTo next node
