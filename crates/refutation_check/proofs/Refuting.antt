-- A log that is not refused shows that no assignment meets the formula.
use Rattle.std.proofs.Common.{◌≡◌, ℕ, suc, Bool, true, false, cond, eqb, List, [], ◌∷◌, ◌++◌, map, length, Option, Some, None, ap, ◌∙◌}
use Rattle.std.proofs.Common.{refl, arith, inl, inr, Contains}
use Rattle.std.specs.Prelude.{option_map}
use Rattle.std.specs.List.{list_any, list_all}
use Rattle.std.proofs.lemmas.Bool.{false≢true, or_cases, cases_Bool, and_parts, and_from}
use Rattle.std.proofs.lemmas.List.{map-append}
use Rattle.clause_core.specs.Literals.{Lit, negation, has}
use Rattle.clause_core.specs.Clauses.{meets, meets_all, AreUnsatisfiable, Follows}
use Rattle.clause_core.specs.Propagation.{not_false, ReachesFalse}
use Rattle.clause_core.specs.Propagation.Reaches.{done, turn}
use Rattle.clause_core.proofs.Semantics.{reverse_follows, meets_all-append}
use Rattle.refutation_check.specs.declared.steps.Step.{Step}
use Rattle.refutation_check.specs.Checking.{Numbered, numbered_from, clause_named, HintEffect, ends, makes, shows_nothing, Refusal, at_line}
use Rattle.refutation_check.specs.Checking.{at_hint, effect_of_open, effect_of_named, led_to, refused_hint, is_no_step, step_refusal}
use Rattle.refutation_check.specs.Checking.{first_of, steps_refusal, is_empty_clause, end_refusal, log_refusal, unfinished}

abbrev clauses_in : List Numbered → List (List Lit)
clauses_in known = map (λ k. k.clause) known

-- a clause that is named is known
named_known : (known : List Numbered) (n : ℕ) (clause : List Lit) → clause_named known n ≡ Some clause → Contains (clauses_in known) clause
named_known [] n clause h = absurd cc
named_known (k ∷ known) n clause h = by_test (eqb k.number n) h (named_known known n clause)
  where
    by_test : (b : Bool) → cond b (Some k.clause) (clause_named known n) ≡ Some clause →
        (clause_named known n ≡ Some clause → Contains (clauses_in known) clause) → Contains (k.clause ∷ clauses_in known) clause
    by_test true h rest = (0, omega arith, cc)
    by_test false h rest = let r = rest h in (suc r.0, omega (arith, r.1), r.2)

-- what the clauses do that hints name
data Finds (clauses : List (List Lit)) (trues : List Lit) : HintEffect → Type 0 where
  finds_false : (clause : List Lit) → Contains clauses clause → not_false trues clause ≡ [] → Finds clauses trues ends
  finds_unit : (clause : List Lit) (l : Lit) → Contains clauses clause → not_false trues clause ≡ l ∷ [] → has trues l ≡ false →
      Finds clauses trues (makes l)
  finds_nothing : Finds clauses trues shows_nothing

finds_open : (clauses : List (List Lit)) (trues clause : List Lit) → Contains clauses clause →
    Finds clauses trues (effect_of_open trues (not_false trues clause))
finds_open clauses trues clause in' = by_open (not_false trues clause) refl
  where
    by_open : (ls : List Lit) → not_false trues clause ≡ ls → Finds clauses trues (effect_of_open trues ls)
    by_open [] e = finds_false clause in' e
    by_open (l ∷ []) e = by_test (has trues l) refl
      where
        by_test : (b : Bool) → has trues l ≡ b → Finds clauses trues (cond b shows_nothing (makes l))
        by_test true h = finds_nothing
        by_test false h = finds_unit clause l in' e h
    by_open (l ∷ m ∷ ms) e = finds_nothing

finds_named : (known : List Numbered) (trues : List Lit) (n : ℕ) →
    Finds (clauses_in known) trues (effect_of_named trues (clause_named known n))
finds_named known trues n = by_name (clause_named known n) refl
  where
    by_name : (o : Option (List Lit)) → clause_named known n ≡ o → Finds (clauses_in known) trues (effect_of_named trues o)
    by_name None e = finds_nothing
    by_name (Some clause) e = finds_open (clauses_in known) trues clause (named_known known n clause e)

-- hints that are not refused reach a false clause by unit propagation
hints_reach : (known : List Numbered) (hints : List ℕ) (trues : List Lit) (position : ℕ) → refused_hint known trues position hints ≡ None →
    ReachesFalse (clauses_in known) trues
hints_reach known [] trues position h = absurd cc
hints_reach known (hint ∷ hints) trues position h =
    by_effect (effect_of_named trues (clause_named known hint)) (finds_named known trues hint) h
    (λ l. hints_reach known hints (l ∷ trues) (suc position))
  where
    by_effect : (e : HintEffect) → Finds (clauses_in known) trues e →
        led_to position (λ l. refused_hint known (l ∷ trues) (suc position) hints) e ≡ None →
        ((l : Lit) → refused_hint known (l ∷ trues) (suc position) hints ≡ None → ReachesFalse (clauses_in known) (l ∷ trues)) →
        ReachesFalse (clauses_in known) trues
    by_effect e (finds_false clause in' f) h rest = (trues, done, (clause, in', f))
    by_effect e (finds_unit clause l in' u free) h rest =
        let r = rest l h in
        (r.0, turn {clause = clause} {l = l} in' (record { others_false = u; unassigned = free }) r.1, r.2)
    by_effect e finds_nothing h rest = absurd cc

-- the clause of a step that is not refused follows from the known ones
step_follows : (variables largest : ℕ) (known : List Numbered) (step : Step) → step_refusal variables largest known step ≡ None →
    Follows (clauses_in known) step.clause
step_follows variables largest known step h = by_test (is_no_step variables largest step) h
  where
    by_hint : (o : Option ℕ) → option_map (at_hint step.number) o ≡ None → o ≡ None
    by_hint None e = refl
    by_hint (Some p) e = absurd cc

    by_test : (b : Bool) →
        cond b (Some (at_line step.number)) (option_map (at_hint step.number) (refused_hint known (map negation step.clause) 1 step.hints))
        ≡ None → Follows (clauses_in known) step.clause
    by_test true e = absurd cc
    by_test false e = reverse_follows (clauses_in known) step.clause
        (hints_reach known step.hints (map negation step.clause) 1 (by_hint (refused_hint known (map negation step.clause) 1 step.hints) e))

pub first_none : (a b : Option Refusal) → first_of a b ≡ None → (a ≡ None) × (b ≡ None)
first_none None b h = (refl, h)
first_none (Some r) b h = absurd cc

-- an assignment that meets the known clauses meets those of the steps
steps_met : (v : ℕ → Bool) (variables : ℕ) (steps : List Step) (largest : ℕ) (known : List Numbered) →
    steps_refusal variables largest known steps ≡ None → meets_all v (clauses_in known) ≡ true →
    list_all (λ step. meets v step.clause) steps ≡ true
steps_met v variables [] largest known h m = refl
steps_met v variables (step ∷ steps) largest known h m =
    let named : Numbered = record { number = step.number; clause = step.clause } in
    let parts = first_none (step_refusal variables largest known step)
    (steps_refusal variables step.number (known ++ named ∷ []) steps) h in
    let met = step_follows variables largest known step parts.0 v m in
    let all : meets_all v (clauses_in (known ++ named ∷ [])) ≡ true =
    ap (meets_all v) (map-append (λ (k : Numbered). k.clause) known (named ∷ []))
    ∙ meets_all-append v (clauses_in known) step.clause m met in
    and_from (meets v step.clause) (list_all (λ s. meets v s.clause) steps) met
    (steps_met v variables steps step.number (known ++ named ∷ []) parts.1 all)

-- no assignment meets the empty clause
none_empty : (v : ℕ → Bool) (steps : List Step) → list_any (λ step. is_empty_clause step.clause) steps ≡ true →
    list_all (λ step. meets v step.clause) steps ≡ true → ⊥
none_empty v [] some all = false≢true some
none_empty v (step ∷ steps) some all =
    let parts = and_parts (meets v step.clause) (list_all (λ s. meets v s.clause) steps) all in
    elim (or_cases (is_empty_clause step.clause) (list_any (λ s. is_empty_clause s.clause) steps) some) [
      | inl e ↦ unmet step.clause e parts.0
      | inr h ↦ none_empty v steps h parts.1
    ]
  where
    unmet : (clause : List Lit) → is_empty_clause clause ≡ true → meets v clause ≡ true → ⊥
    unmet [] e m = false≢true m
    unmet (l ∷ ls) e m = false≢true e

named_clauses : (k : ℕ) (clauses : List (List Lit)) → clauses_in (numbered_from k clauses) ≡ clauses
named_clauses k [] = refl
named_clauses k (c ∷ cs) = ap (λ xs. c ∷ xs) (named_clauses (suc k) cs)

pub accepted_refutes : (variables : ℕ) (clauses : List (List Lit)) (steps : List Step) → log_refusal variables clauses steps ≡ None →
    AreUnsatisfiable clauses
accepted_refutes variables clauses steps h v =
    let parts = first_none (steps_refusal variables (length clauses) (numbered_from 1 clauses) steps) (end_refusal steps) h in
    elim (cases_Bool (meets_all v clauses)) [
      | inl m ↦ absurd (none_empty v steps (by_end (list_any (λ step. is_empty_clause step.clause) steps) parts.1)
          (steps_met v variables steps (length clauses) (numbered_from 1 clauses) parts.0 (ap (meets_all v) (named_clauses 1 clauses) ∙ m)))
      | inr f ↦ f
    ]
  where
    by_end : (b : Bool) → cond b None (Some unfinished) ≡ None → b ≡ true
    by_end true e = refl
    by_end false e = absurd cc
