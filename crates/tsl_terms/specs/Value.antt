-- The values of terms, for any meanings of the symbols. A symbol or a signal that is not had has no
-- value, and then neither has a term that names it.
-- Source: Finkbeiner, Klein, Piskac, Santolucito: Temporal Stream Logic: Synthesis Beyond the Bools
-- (CAV 2019), the semantics of terms.
use Rattle.std.specs.Prelude.{ℕ, Bool, ◌==◌, List, [], ◌∷◌, Option, Some, None, option_map, option_and_then, if◌then◌else◌}
use Rattle.tsl_terms.specs.TermTree.{TermTree, signal, apply, TermTrees, no_terms, more_terms, ProbeTree}

-- what symbols mean over values of a type: the value of a function on its arguments, the truth of a
-- predicate on them, and the value that a cell has at first
pub record Meanings (V : Type 0) : Type 0 where
  pub function : ℕ → List V → Option V
  pub predicate : ℕ → List V → Option Bool
  pub initial : ℕ → Option V

module _ {V : Type 0} where
  -- the value of a term, where `at` gives the values of the signals
  abbrev mutual
    pub value : Meanings V → (ℕ → Option V) → TermTree → Option V
    value meanings at (signal s) = at s
    value meanings at (apply f arguments) = option_and_then (meanings.function f) (values meanings at arguments)

    pub values : Meanings V → (ℕ → Option V) → TermTrees → Option (List V)
    values meanings at no_terms = Some []
    values meanings at (more_terms t ts) =
        option_and_then (λ v. option_map (λ vs. v ∷ vs) (values meanings at ts)) (value meanings at t)

  -- whether a predicate holds of its arguments' values
  abbrev pub truth : Meanings V → (ℕ → Option V) → ProbeTree → Option Bool
  truth meanings at p = option_and_then (meanings.predicate p.predicate) (values meanings at p.arguments)

  -- what stands beside a signal, where signals and values stand in one order
  abbrev pub beside : ℕ → List ℕ → List V → Option V
  beside s (r ∷ rs) (v ∷ vs) = if r == s then Some v else beside s rs vs
  beside s [] vs = None
  beside s (r ∷ rs) [] = None
