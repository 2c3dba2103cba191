-- The numbers of steps.
use Rattle.std.proofs.Common.{◌≡◌, ℕ, suc, ◌+◌, ◌<◌, ◌≤◌, List, [], ◌∷◌, ◌++◌, length, subst, arith}
use Rattle.std.specs.List.{AllByRecursion}
use Rattle.std.proofs.lemmas.List.Elements.{All-from_recursion, recursion_from_All}
use Rattle.clause_learning.specs.Hints.{AreHints}
use Rattle.refutation_check.specs.declared.steps.Step.{Step}
use Rattle.refutation_check.specs.LogNumbers.{IsNumbered, AreNumbered}

-- a step whose hints are at most the number before its own
pub is_numbered : (step : Step) (last : ℕ) → step.number ≡ last + 1 → AreHints last step.hints → IsNumbered (last + 1) step
is_numbered step last is all = record {
  number_is = is;
  hints_earlier = All-from_recursion (λ hint. (1 ≤ hint) × (hint < last + 1)) step.hints
      (each step.hints (recursion_from_All (λ hint. (1 ≤ hint) × (hint ≤ last)) step.hints all));
}
  where
    each : (hints : List ℕ) → AllByRecursion (λ hint. (1 ≤ hint) × (hint ≤ last)) hints →
        AllByRecursion (λ hint. (1 ≤ hint) × (hint < last + 1)) hints
    each [] h = tt
    each (hint ∷ hints) h = ((h.0.0, omega (arith, h.0.1)), each hints h.1)

pub numbered_more : (number : ℕ) (steps : List Step) (step : Step) (n : ℕ) → n ≡ number + length steps → AreNumbered number steps →
    IsNumbered n step → AreNumbered number (steps ++ step ∷ [])
numbered_more number [] step n at all is = (subst (λ k. IsNumbered k step) (let e : n ≡ number = omega arith in e) is, tt)
numbered_more number (s ∷ steps) step n at all is = (all.0, numbered_more (suc number) steps step n (omega arith) all.1 is)
