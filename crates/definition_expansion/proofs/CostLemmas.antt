-- The making of an expansion ends.
use Rattle.std.proofs.Common.{◌≡◌, ℕ, zero, suc, ◌<◌, ◌≤◌, ◌-◌, List, Option, Some, None, ap, sym, ◌∙◌, arith}
use Rattle.std.specs.Prelude.{option_map}
use Rattle.spec_syntax.specs.Syntax.{FormulaSyntax, grouped}
use Rattle.spec_syntax.specs.Syntax.{Definition}
use Rattle.definition_expansion.specs.Expansion.{passed, expanded, expansion_within, ungrouped}
use Rattle.definition_expansion.specs.Folds.{number_or, number_of_test, fold_by, number_within}
use Rattle.definition_expansion.specs.internal.Costs.{costs}

module _ (named : List ℕ → Option Definition) where
  of_use : (n : ℕ) (o : Option Definition) → 5 ≤ number_or (option_map
      (λ d. costs.of_group (fold_by costs (number_within costs named n) d.body)) o) 5
  of_use n None = omega arith
  of_use n (Some d) = omega arith

  pub name_cost : (n : ℕ) (x : List ℕ) → 5 ≤ number_or (number_within costs named n x) 5
  name_cost zero x = omega arith
  name_cost (suc n) x = of_use n (named x)

  pub test_cost : (n : ℕ) (p : List ℕ) (names : Option (List (List ℕ))) →
      5 ≤ number_or (number_of_test costs (number_within costs named n) p names) 5
  test_cost n p None = omega arith
  test_cost n p (Some ys) = name_cost n p

  -- the cost of a body is below that of its use
  pub body_cost : (m n : ℕ) (x : List ℕ) (d : Definition) → n ≡ suc m → named x ≡ Some d →
      fold_by costs (number_within costs named m) d.body < number_or (number_within costs named n x) 5 - 3
  body_cost m n x d is there =
      let cost : number_or (number_within costs named n x) 5 ≡ costs.of_group (fold_by costs (number_within costs named m) d.body) =
      ap (λ k. number_or (number_within costs named k x) 5) is
      ∙ ap (λ o. number_or (option_map (λ k. costs.of_group (fold_by costs (number_within costs named m) k.body)) o) 5) there in
      omega (arith, cost)

  -- what stands in the place of a use
  pub put_for_use : (m n : ℕ) (x : List ℕ) (ys : List (List ℕ)) (d : Definition) (f : FormulaSyntax) → n ≡ suc m → named x ≡ Some d →
      f ≡ ungrouped (expanded (expansion_within named m) (passed d.parameters ys) d.body) →
      Some f ≡ option_map ungrouped (expansion_within named n x ys)
  put_for_use m n x ys d f is there made =
      ap Some made
      ∙ sym (ap (λ k. option_map ungrouped (expansion_within named k x ys)) is
      ∙ ap (λ o. option_map ungrouped (option_map (λ k. grouped (expanded (expansion_within named m) (passed k.parameters ys) k.body))
      o)) there)
