-- Walks that follow each other are a walk.
use Rattle.std.proofs.Common.{ℕ, Bool, List, [], ◌∷◌, ◌++◌, sym, subst}
use Rattle.full_bound.specs.internal.Graph.{IsWalk}

module _ {S : Type 0} (steps : ℕ → List S) (to : S → ℕ) (marked : S → Bool) where
  pub walk_both : (p : ℕ) (ss ts : List S) (r t : ℕ) → IsWalk steps to marked p ss r → IsWalk steps to marked r ts t →
      IsWalk steps to marked p (ss ++ ts) t
  walk_both p [] ts r t first second = subst (λ n. IsWalk steps to marked n ts t) (sym first) second
  walk_both p (s ∷ ss) ts r t first second = (first.0, walk_both (to s) ss ts r t first.1 second)
