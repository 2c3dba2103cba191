-- Internal: only private functions and proofs of this crate use these words.
-- Steps between numbered nodes, some of them marked: walks, turns through a marked step, and numbers that rise along marked steps.
use Rattle.std.specs.Prelude.{◌≡◌, ℕ, ◌+◌, ◌<◌, ◌≤◌, Bool, true, cond, List, [], ◌∷◌, Option, Some, Contains}
use Rattle.std.specs.List.{list_any}

module _ {S : Type 0} (steps : ℕ → List S) (to : S → ℕ) (marked : S → Bool) where
  -- steps that follow each other from a node to another
  abbrev pub IsWalk : ℕ → List S → ℕ → Type 0
  IsWalk p [] r = p ≡ r
  IsWalk p (s ∷ ss) r = Contains (steps p) s × IsWalk (to s) ss r

  -- a walk from node 0 to a node, and one from there back to it that has a marked step
  pub record MarkedTurn : Type 0 where
    pub node : ℕ
    pub stem : List S
    pub turn : List S
    pub to_node : IsWalk 0 stem node
    pub back : IsWalk node turn node
    pub passes : list_any marked turn ≡ true

  -- numbers of some nodes, node 0 among them, that never fall along steps and rise along marked ones, and none above a bound
  pub record IsNodeNumbering (nodes bound : ℕ) (number : ℕ → Option ℕ) : Type 0 where
    pub start : (n : ℕ) × (number 0 ≡ Some n)
    pub within : (p n : ℕ) → number p ≡ Some n → (n ≤ bound) × (p < nodes)
    pub rises : (p n : ℕ) (s : S) → number p ≡ Some n → Contains (steps p) s
        → (m : ℕ) × (number (to s) ≡ Some m) × (n + cond (marked s) 1 0 ≤ m)
