-- One more step is accepted.
use Rattle.std.proofs.Common.{◌≡◌, ℕ, ◌+◌, ◌<◌, ◌≤◌, Bool, true, false, cond, leb, ◌||◌, List, [], ◌∷◌, ◌++◌, map, length, get_or, take}
use Rattle.std.proofs.Common.{drop, Some, None, All, AllPairs, sym, ap, ◌∙◌, subst, refl, arith, inl, inr}
use Rattle.std.specs.Prelude.{option_map}
use Rattle.std.specs.List.{list_any}
use Rattle.std.proofs.lemmas.Bool.{or_parts, cases_lt, cond-true, leb-false}
use Rattle.std.proofs.lemmas.List.{take_more, drop_more, drop_all, map_push, append_assoc, length_push, get_or_push, get_or_append_left}
use Rattle.std.proofs.lemmas.List.Elements.{All-push, All-cons, All-nil}
use Rattle.clause_core.specs.Literals.{Lit, negation}
use Rattle.clause_core.specs.Clauses.{IsOver, has_pair}
use Rattle.refutation_check.specs.declared.steps.Step.{Step}
use Rattle.refutation_check.specs.Checking.{Numbered, numbered_from, at_line, at_hint, refused_hint, is_no_step, step_refusal, first_of}
use Rattle.refutation_check.specs.Checking.{steps_refusal, is_empty_clause, end_refusal, log_refusal, unfinished}
use Rattle.refutation_check.specs.internal.Accepted.{numbered, known_after, AreAccepted}

-- the steps up to a place are accepted, and what is left decides
pub record AreChecked (variables : ℕ) (clauses : List (List Lit)) (steps : List Step) (place largest : ℕ) : Type 0 where
  pub accepted : AreAccepted variables (length clauses) (take place steps)
  pub count : length clauses ≤ largest
  pub largest_so_far : All (λ step. step.number ≤ largest) (take place steps)
  pub same : steps_refusal variables largest (known_after clauses (take place steps)) (drop place steps)
      ≡ steps_refusal variables (length clauses) (numbered_from 1 clauses) steps

-- a step that is not refused may be tried
may_stand : (variables largest : ℕ) (known : List Numbered) (s : Step) → step_refusal variables largest known s ≡ None →
    is_no_step variables largest s ≡ false
may_stand variables largest known s h = by_test (is_no_step variables largest s) h
  where
    by_test : (b : Bool) →
        cond b (Some (at_line s.number)) (option_map (at_hint s.number) (refused_hint known (map negation s.clause) 1 s.hints)) ≡ None →
        b ≡ false
    by_test true e = absurd cc
    by_test false e = refl

none_large : (variables : ℕ) (clause : List Lit) → list_any (λ l. leb variables l.index) clause ≡ false → IsOver variables clause
none_large variables [] h = All-nil (λ (l : Lit). l.index < variables)
none_large variables (l ∷ ls) h =
    let parts = or_parts (leb variables l.index) (list_any (λ m. leb variables m.index) ls) h in
    All-cons (λ (m : Lit). m.index < variables) l ls (leb-false variables l.index parts.0) (none_large variables ls parts.1)

rises_more : (steps : List Step) (s : Step) (largest : ℕ) → AllPairs (λ a b. a.number < b.number) steps →
    All (λ t. t.number ≤ largest) steps → largest < s.number → AllPairs (λ a b. a.number < b.number) (steps ++ s ∷ [])
rises_more steps s largest rise small above i j d order within =
    elim (cases_lt j (length steps)) [
      | inl inside ↦ (let a = get_or_append_left steps (s ∷ []) d i (omega arith) in
          let b = get_or_append_left steps (s ∷ []) d j inside in
          subst (λ (t : Step). t.number < (get_or (steps ++ s ∷ []) j d).number) (sym a)
          (subst (λ (t : Step). (get_or steps i d).number < t.number) (sym b) (rise i j d order inside)))
      | inr last ↦ (let place : length steps ≡ j = omega (arith, length_push steps s) in
          let a = get_or_append_left steps (s ∷ []) d i (omega arith) in
          let b = get_or_push steps s d j place in
          subst (λ (t : Step). t.number < (get_or (steps ++ s ∷ []) j d).number) (sym a)
          (subst (λ (t : Step). (get_or steps i d).number < t.number) (sym b) (omega (arith, small i d (omega arith)))))
    ]

known_more : (clauses : List (List Lit)) (steps : List Step) (s : Step) →
    known_after clauses (steps ++ s ∷ []) ≡ known_after clauses steps ++ numbered s ∷ []
known_more clauses steps s =
    ap (λ ns. numbered_from 1 clauses ++ ns) (map_push numbered steps s)
    ∙ sym (append_assoc (numbered_from 1 clauses) (map numbered steps) (numbered s ∷ []))

pub checked_more : (variables : ℕ) (clauses : List (List Lit)) (steps : List Step) (place largest : ℕ) (s : Step) → place < length steps →
    s ≡ get_or steps place s → AreChecked variables clauses steps place largest →
    step_refusal variables largest (known_after clauses (take place steps)) s ≡ None →
    AreChecked variables clauses steps (place + 1) s.number
checked_more variables clauses steps place largest s within is so_far fine =
    let parts = or_parts (leb s.number largest) (list_any (λ l. leb variables l.index) s.clause || has_pair s.clause)
    (may_stand variables largest (known_after clauses (take place steps)) s fine) in
    let over = none_large variables s.clause (or_parts (list_any (λ l. leb variables l.index) s.clause) (has_pair s.clause) parts.1).0 in
    let above : largest < s.number = leb-false s.number largest parts.0 in
    let front : take (place + 1) steps ≡ take place steps ++ s ∷ [] = take_more steps place s within
    ∙ ap (λ (t : Step). take place steps ++ t ∷ []) (sym is) in
    let back : drop place steps ≡ s ∷ drop (place + 1) steps = drop_more steps place s within
    ∙ ap (λ (t : Step). t ∷ drop (place + 1) steps) (sym is) in
    let known : known_after clauses (take (place + 1) steps) ≡ known_after clauses (take place steps) ++ numbered s ∷ [] =
    ap (known_after clauses) front ∙ known_more clauses (take place steps) s in
    let step : steps_refusal variables largest (known_after clauses (take place steps)) (s ∷ drop (place + 1) steps)
    ≡ steps_refusal variables s.number (known_after clauses (take place steps) ++ numbered s ∷ []) (drop (place + 1) steps) =
    ap (λ o. first_of o (steps_refusal variables s.number (known_after clauses (take place steps) ++ numbered s ∷ [])
    (drop (place + 1) steps))) fine in
    record {
      accepted = record {
        above = subst (All (λ t. length clauses < t.number)) (sym front)
            (All-push (λ (t : Step). length clauses < t.number) (take place steps) s so_far.accepted.above (omega (arith, so_far.count)));
        rise = subst (AllPairs (λ a b. a.number < b.number)) (sym front)
            (rises_more (take place steps) s largest so_far.accepted.rise so_far.largest_so_far above);
        over = subst (All (λ t. IsOver variables t.clause)) (sym front)
            (All-push (λ (t : Step). IsOver variables t.clause) (take place steps) s so_far.accepted.over over);
      };
      count = omega (arith, so_far.count);
      largest_so_far = subst (All (λ t. t.number ≤ s.number)) (sym front)
          (All-push (λ (t : Step). t.number ≤ s.number) (take place steps) s (λ k d w. omega (arith, so_far.largest_so_far k d w))
          (omega arith));
      same = ap (λ ns. steps_refusal variables s.number ns (drop (place + 1) steps)) known
          ∙ (sym step ∙ (sym (ap (steps_refusal variables largest (known_after clauses (take place steps))) back) ∙ so_far.same));
    }

-- where each step is accepted and one has the empty clause, the log is
pub all_accepted : (variables : ℕ) (clauses : List (List Lit)) (steps : List Step) (place largest : ℕ) → length steps ≤ place →
    steps_refusal variables largest (known_after clauses (take place steps)) (drop place steps)
    ≡ steps_refusal variables (length clauses) (numbered_from 1 clauses) steps →
    list_any (λ step. is_empty_clause step.clause) steps ≡ true →
    log_refusal variables clauses steps ≡ None
all_accepted variables clauses steps place largest past same some =
    let none : steps_refusal variables (length clauses) (numbered_from 1 clauses) steps ≡ None = sym same
    ∙ ap (steps_refusal variables largest (known_after clauses (take place steps))) (drop_all place steps past) in
    ap (λ o. first_of o (end_refusal steps)) none ∙ cond-true (list_any (λ step. is_empty_clause step.clause) steps) None
    (Some unfinished) some
