-- The log of a solver can be read back.
use Rattle.std.proofs.Common.{◌≡◌, ℕ, suc, ◌+◌, ◌<◌, ◌≤◌, ◌^◌, Bool, true, false, cond, leb, ◌||◌, List, [], ◌∷◌, ◌++◌, length, map, Some, None}
use Rattle.std.proofs.Common.{All, refl, arith}
use Rattle.std.specs.Prelude.{option_map}
use Rattle.std.specs.List.{list_any}
use Rattle.std.proofs.lemmas.Bool.{or_parts, leb-false}
use Rattle.std.proofs.lemmas.List.Elements.{All-head, All-tail, All-nil, All-cons}
use Rattle.clause_core.specs.Literals.{Lit, negation}
use Rattle.clause_core.specs.Clauses.{IsIncreasing, IsOver, has_pair}
use Rattle.refutation_check.specs.declared.steps.Step.{Step}
use Rattle.refutation_check.specs.Checking.{Numbered, numbered_from, at_line, at_hint, refused_hint, is_no_step, step_refusal, steps_refusal}
use Rattle.refutation_check.specs.Checking.{end_refusal, log_refusal}
use Rattle.refutation_check.proofs.Refuting.{first_none}
use Rattle.refutation_text.specs.Written.{IsReadable}
use Rattle.refutation_check.specs.LogNumbers.{AreNumbered}

none_above : (variables : ℕ) (clause : List Lit) → list_any (λ l. leb variables l.index) clause ≡ false → IsOver variables clause
none_above variables [] h = All-nil (λ (l : Lit). l.index < variables)
none_above variables (l ∷ ls) h =
    let parts = or_parts (leb variables l.index) (list_any (λ m. leb variables m.index) ls) h in
    All-cons (λ (m : Lit). m.index < variables) l ls (leb-false variables l.index parts.0) (none_above variables ls parts.1)

-- the clause of a step that is not refused is over the variables
step_over : (variables largest : ℕ) (known : List Numbered) (s : Step) → step_refusal variables largest known s ≡ None → IsOver variables s.clause
step_over variables largest known s h = by_test (is_no_step variables largest s) refl h
  where
    by_test : (b : Bool) → is_no_step variables largest s ≡ b →
        cond b (Some (at_line s.number)) (option_map (at_hint s.number) (refused_hint known (map negation s.clause) 1 s.hints)) ≡ None →
        IsOver variables s.clause
    by_test true e k = absurd cc
    by_test false e k =
        let parts = or_parts (leb s.number largest) (list_any (λ l. leb variables l.index) s.clause || has_pair s.clause) e in
        none_above variables s.clause (or_parts (list_any (λ l. leb variables l.index) s.clause) (has_pair s.clause) parts.1).0

steps_over : (variables largest : ℕ) (known : List Numbered) (steps : List Step) → steps_refusal variables largest known steps ≡ None →
    All (λ step. IsOver variables step.clause) steps
steps_over variables largest known [] h = All-nil (λ (step : Step). IsOver variables step.clause)
steps_over variables largest known (s ∷ ss) h =
    let rest : List Numbered = known ++ record { number = s.number; clause = s.clause } ∷ [] in
    let parts = first_none (step_refusal variables largest known s) (steps_refusal variables s.number rest ss) h in
    All-cons (λ (step : Step). IsOver variables step.clause) s ss (step_over variables largest known s parts.0)
    (steps_over variables s.number rest ss parts.1)

readable_from : (variables start : ℕ) (steps : List Step) → variables ≤ 2147483647 → AreNumbered start steps → start + length steps ≤ 10 ^ 18 →
    All (λ step. IsIncreasing step.clause) steps → All (λ step. IsOver variables step.clause) steps → All IsReadable steps
readable_from variables start [] few numbered within rising over = All-nil IsReadable
readable_from variables start (s ∷ ss) few numbered within rising over =
    let here : IsOver variables s.clause = All-head (λ (step : Step). IsOver variables step.clause) s ss over in
    let below : start < 10 ^ 18 = omega (arith, within) in
    All-cons IsReadable s ss
    (record {
      number = omega (arith, below, numbered.0.number_is);
      clause = record {
        increasing = All-head (λ (step : Step). IsIncreasing step.clause) s ss rising;
        over = λ k d inside. omega (arith, few, here k d inside);
      };
      hints = λ k d inside. (let hint = numbered.0.hints_earlier k d inside in (hint.0, omega (arith, hint.1, below)));
    })
    (readable_from variables (suc start) ss few numbered.1 (omega (arith, within))
    (All-tail (λ (step : Step). IsIncreasing step.clause) s ss rising) (All-tail (λ (step : Step). IsOver variables step.clause) s ss over))

pub are_readable : (variables : ℕ) (clauses : List (List Lit)) (steps : List Step) → variables ≤ 1048576 → length clauses ≤ 2000000 →
    length steps < 200000000000000000 → AreNumbered (length clauses + 1) steps → log_refusal variables clauses steps ≡ None →
    All (λ step. IsIncreasing step.clause) steps → All IsReadable steps
are_readable variables clauses steps few within short numbered accepted rising =
    readable_from variables (length clauses + 1) steps (omega (arith, few)) numbered (omega (arith, within, short)) rising
    (steps_over variables (length clauses) (numbered_from 1 clauses) steps
    (first_none (steps_refusal variables (length clauses) (numbered_from 1 clauses) steps) (end_refusal steps) accepted).0)
