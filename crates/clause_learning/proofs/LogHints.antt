-- The clauses on a trail by their numbers in the log: hints that name them are turned into hints of the log.
use Rattle.std.proofs.Common.{◌≡◌, ℕ, suc, ◌+◌, ◌-◌, ◌<◌, ◌≤◌, List, [], ◌∷◌, ◌++◌, length, Option, Some, None, slice_get}
use Rattle.std.proofs.Common.{sym, ap, ◌∙◌, subst, refl, arith, inl, inr, All, Contains}
use Rattle.std.specs.List.{AllByRecursion}
use Rattle.std.proofs.lemmas.Option.{none-some, same_Some, slice_get_within, get_or_from_slice_get}
use Rattle.std.proofs.lemmas.List.{append_assoc, append-nil, length-append, length_push}
use Rattle.std.proofs.lemmas.List.Elements.{All-from_recursion, recursion_from_All, All-push, All-nil}
use Rattle.base_library.proofs.Places.{slice_get_some, slice_get-front, slice_get-behind, slice_get_push, contains_at}
use Rattle.base_library.specs.Numbers.{numbers_from}
use Rattle.base_library.proofs.Numbers.{length-numbers, numbers_at}
use Rattle.clause_core.specs.Literals.{Lit}
use Rattle.refutation_check.specs.Checking.{HintEffect, numbered_from, clause_named, effect_of_named, led_to, refused_hint}
use Rattle.refutation_check.specs.Checking.HintEffect.{ends, makes, shows_nothing}
use Rattle.clause_learning.specs.declared.clause_database.ClauseDatabase.{ClauseDatabase}
use Rattle.clause_learning.specs.Hints.{AreHints}
use Rattle.clause_learning.specs.ClauseDatabases.{numbers_of, log_number, log_hints, AreLogNumbers, AreFirst, AreKept}
use Rattle.clause_learning.proofs.Hints.{named_one}

-- the first clauses of a log
pub first_named : (clauses later : List (List Lit)) (database : ClauseDatabase) → AreFirst (length clauses) database →
    AreLogNumbers (clauses ++ later) clauses (numbers_of database)
first_named clauses later database first = subst (AreLogNumbers (clauses ++ later) clauses) (sym first) (record {
  one_each = length-numbers 1 (length clauses);
  each = λ place number at. (let within = slice_get_within (numbers_from 1 (length clauses)) place number at in
      let below : place < length clauses = omega (arith, within, length-numbers 1 (length clauses)) in
      let is : 1 + place ≡ number = same_Some (1 + place) number (sym (numbers_at 1 (length clauses) place below) ∙ at) in
      let back : number - 1 ≡ place = omega (arith, is) in (
        omega (arith, is),
        omega (arith, is, below, length-append clauses later),
        ap (slice_get (clauses ++ later)) back ∙ slice_get-front clauses later place below,
      ));
})

-- a clause that stands in the log already
pub named_again : (known clauses kept : List (List Lit)) (numbers more : List ℕ) (place number : ℕ) (clause : List Lit) →
    AreLogNumbers known clauses numbers → AreLogNumbers known kept more → slice_get clauses place ≡ Some clause →
    slice_get numbers place ≡ Some number → AreLogNumbers known (kept ++ clause ∷ []) (more ++ number ∷ [])
named_again known clauses kept numbers more place number clause old are at named = record {
  one_each = length_push more number ∙ (ap (λ (n : ℕ). n + 1) are.one_each ∙ sym (length_push kept clause));
  each = λ k n at_k. elim (slice_get_push more number k n at_k) [
    | inl (below, there) ↦ (let r = are.each k n there in
        (r.0, r.1, r.2 ∙ sym (slice_get-front kept (clause ∷ []) k (omega (arith, below, are.one_each)))))
    | inr (last, is) ↦ (let r = old.each place number named in
        subst (λ (m : ℕ). (1 ≤ m) × (m ≤ length known) × (slice_get known (m - 1) ≡ slice_get (kept ++ clause ∷ []) k)) is
        (r.0, r.1, r.2 ∙ (at ∙ sym (ap (slice_get (kept ++ clause ∷ [])) (last ∙ are.one_each) ∙ slice_get-behind kept clause []))))
  ];
}

-- more clauses in the log
named_grown : (known clauses : List (List Lit)) (numbers : List ℕ) (clause : List Lit) → AreLogNumbers known clauses numbers →
    AreLogNumbers (known ++ clause ∷ []) clauses numbers
named_grown known clauses numbers clause are = record {
  one_each = are.one_each;
  each = λ place number at. (let r = are.each place number at in (
    r.0,
    omega (arith, r.1, length_push known clause),
    slice_get-front known (clause ∷ []) (number - 1) (omega (arith, r.0, r.1)) ∙ r.2,
  ));
}

-- a clause of the next number
pub named_next : (known clauses : List (List Lit)) (numbers : List ℕ) (clause : List Lit) (next : ℕ) → next ≡ length known + 1 →
    AreLogNumbers known clauses numbers → AreLogNumbers (known ++ clause ∷ []) (clauses ++ clause ∷ []) (numbers ++ next ∷ [])
named_next known clauses numbers clause next is are =
    let grown = named_grown known clauses numbers clause are in
    let back : next - 1 ≡ length known = omega (arith, is) in
    record {
      one_each = length_push numbers next ∙ (ap (λ (n : ℕ). n + 1) are.one_each ∙ sym (length_push clauses clause));
      each = λ k n at_k. elim (slice_get_push numbers next k n at_k) [
        | inl (below, there) ↦ (let r = grown.each k n there in
            (r.0, r.1, r.2 ∙ sym (slice_get-front clauses (clause ∷ []) k (omega (arith, below, are.one_each)))))
        | inr (last, same) ↦ subst (λ (m : ℕ). (1 ≤ m) × (m ≤ length (known ++ clause ∷ []))
            × (slice_get (known ++ clause ∷ []) (m - 1) ≡ slice_get (clauses ++ clause ∷ []) k)) same (
              omega (arith, is),
              omega (arith, is, length_push known clause),
              ap (slice_get (known ++ clause ∷ [])) back ∙ (slice_get-behind known clause []
                  ∙ sym (ap (slice_get (clauses ++ clause ∷ [])) (last ∙ are.one_each) ∙ slice_get-behind clauses clause [])),
            )
      ];
    }

-- ---- hints

module _ (known clauses : List (List Lit)) (numbers : List ℕ) (are : AreLogNumbers known clauses numbers) where
  number_at : (hint : ℕ) → (1 ≤ hint) × (hint ≤ length clauses) →
      (number : ℕ) × (slice_get numbers (hint - 1) ≡ Some number) × (number ≡ log_number numbers hint)
  number_at hint within =
      let r = slice_get_some numbers (hint - 1) (omega (arith, within.0, within.1, are.one_each)) in
      (r.0, r.1, sym (get_or_from_slice_get numbers (hint - 1) r.0 0 r.1))

  hint_named : (hint : ℕ) → (1 ≤ hint) × (hint ≤ length clauses) →
      clause_named (numbered_from 1 known) (log_number numbers hint) ≡ clause_named (numbered_from 1 clauses) hint
  hint_named hint within =
      let n = number_at hint within in
      let r = are.each (hint - 1) n.0 n.1 in
      let up : log_number numbers hint ≡ (n.0 - 1) + 1 = omega (arith, n.2, r.0) in
      let down : (hint - 1) + 1 ≡ hint = omega (arith, within.0) in
      ap (clause_named (numbered_from 1 known)) up ∙ (named_one known (n.0 - 1) ∙ (r.2
      ∙ (sym (named_one clauses (hint - 1)) ∙ ap (clause_named (numbered_from 1 clauses)) down)))

  led_more : (position : ℕ) (f g : Lit → Option ℕ) (e : HintEffect) → ((l : Lit) → f l ≡ None → g l ≡ None) →
      led_to position f e ≡ None → led_to position g e ≡ None
  led_more position f g ends more h = refl
  led_more position f g (makes l) more h = more l h
  led_more position f g shows_nothing more h = h

  hints_lead : (hints : List ℕ) → AllByRecursion (λ hint. (1 ≤ hint) × (hint ≤ length clauses)) hints → (trues : List Lit) (position : ℕ) →
      refused_hint (numbered_from 1 clauses) trues position hints ≡ None →
      refused_hint (numbered_from 1 known) trues position (log_hints numbers hints) ≡ None
  hints_lead [] all trues position h = absurd (none-some position (sym h))
  hints_lead (hint ∷ hints) all trues position h =
      ap (λ (o : Option (List Lit)). led_to position later (effect_of_named trues o)) (hint_named hint all.0)
      ∙ led_more position before later (effect_of_named trues (clause_named (numbered_from 1 clauses) hint))
      (λ l. hints_lead hints all.1 (l ∷ trues) (suc position)) h
    where
      before : Lit → Option ℕ
      before l = refused_hint (numbered_from 1 clauses) (l ∷ trues) (suc position) hints

      later : Lit → Option ℕ
      later l = refused_hint (numbered_from 1 known) (l ∷ trues) (suc position) (log_hints numbers hints)

  -- hints that show a clause on the trail show it in the log
  pub shown_in_log : (hints : List ℕ) → AreHints (length clauses) hints → (trues : List Lit) →
      refused_hint (numbered_from 1 clauses) trues 1 hints ≡ None →
      refused_hint (numbered_from 1 known) trues 1 (log_hints numbers hints) ≡ None
  shown_in_log hints all trues = hints_lead hints (recursion_from_All (λ hint. (1 ≤ hint) × (hint ≤ length clauses)) hints all) trues 1

  pub hints_in_log : (hints : List ℕ) → AreHints (length clauses) hints → AreHints (length known) (log_hints numbers hints)
  hints_in_log hints all = All-from_recursion (λ hint. (1 ≤ hint) × (hint ≤ length known)) (log_hints numbers hints)
      (each hints (recursion_from_All (λ hint. (1 ≤ hint) × (hint ≤ length clauses)) hints all))
    where
      each : (hs : List ℕ) → AllByRecursion (λ hint. (1 ≤ hint) × (hint ≤ length clauses)) hs →
          AllByRecursion (λ hint. (1 ≤ hint) × (hint ≤ length known)) (log_hints numbers hs)
      each [] h = tt
      each (hint ∷ hs) h =
          let n = number_at hint h.0 in
          let r = are.each (hint - 1) n.0 n.1 in
          (subst (λ (m : ℕ). (1 ≤ m) × (m ≤ length known)) n.2 (r.0, r.1), each hs h.1)

-- ---- what is kept of a trail

-- a clause is left out
pub kept_less : (formula clauses : List (List Lit)) (numbers : List ℕ) (place : ℕ) (others : List (List Lit)) (database : ClauseDatabase) →
    AreKept formula clauses numbers place others database → AreKept formula clauses numbers (place + 1) others database
kept_less formula clauses numbers place others database are = record {
  stood = are.stood;
  fewer = omega (arith, are.fewer);
  named = are.named;
}

-- a clause is kept with its number
pub kept_more : (formula clauses : List (List Lit)) (numbers : List ℕ) (place : ℕ) (others : List (List Lit)) (database after : ClauseDatabase)
    (clause : List Lit) (number : ℕ) → AreKept formula clauses numbers place others database → slice_get clauses place ≡ Some clause →
    slice_get numbers place ≡ Some number → numbers_of after ≡ numbers_of database ++ number ∷ [] →
    AreKept formula clauses numbers (place + 1) (others ++ clause ∷ []) after
kept_more formula clauses numbers place others database after clause number are at named numbers_are =
    let whole : (formula ++ others) ++ clause ∷ [] ≡ formula ++ (others ++ clause ∷ []) = append_assoc formula others (clause ∷ []) in
    let longer : length (formula ++ (others ++ clause ∷ [])) ≡ length (formula ++ others) + 1 =
    sym (ap length whole) ∙ length_push (formula ++ others) clause in
    record {
      stood = All-push (Contains clauses) others clause are.stood (contains_at clauses place clause at);
      fewer = omega (arith, are.fewer, longer);
      named = λ later old. subst (λ (cs : List (List Lit)). AreLogNumbers (formula ++ later) cs (numbers_of after)) whole
          (subst (AreLogNumbers (formula ++ later) ((formula ++ others) ++ clause ∷ [])) (sym numbers_are)
          (named_again (formula ++ later) clauses (formula ++ others) numbers (numbers_of database) place number clause old (are.named later old)
          at named));
    }

-- the clauses of the formula alone
pub first_kept : (formula clauses : List (List Lit)) (numbers : List ℕ) (others : List (List Lit)) (database : ClauseDatabase) → others ≡ [] →
    AreFirst (length formula) database → AreKept formula clauses numbers (length formula) others database
first_kept formula clauses numbers others database none first =
    let whole : formula ++ others ≡ formula = ap (λ (cs : List (List Lit)). formula ++ cs) none ∙ append-nil formula in
    record {
      stood = subst (All (Contains clauses)) (sym none) (All-nil (Contains clauses));
      fewer = omega (arith, ap length whole);
      named = λ later old. subst (λ (cs : List (List Lit)). AreLogNumbers (formula ++ later) cs (numbers_of database)) (sym whole)
          (first_named formula later database first);
    }
