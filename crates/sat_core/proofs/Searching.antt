-- What holds of a search between its steps.
use Rattle.std.proofs.Common.{◌≡◌, ℕ, zero, suc, ◌+◌, ◌<◌, ◌≤◌, ◌^◌, Bool, true, false, not, cond, ◌||◌, List, [], ◌∷◌, ◌++◌}
use Rattle.std.proofs.Common.{length, map, filter, Option, Some, None, slice_get, sym, ap, ◌∙◌, subst, refl, arith, eqb, leb}
use Rattle.std.proofs.Common.{inl, inr, Contains, All}
use Rattle.std.specs.Prelude.{option_map, IsSome, slice_index_or, min}
use Rattle.std.specs.List.{AllByRecursion, list_any}
use Rattle.std.proofs.lemmas.Bool.{true≢false, false≢true, or_left, or_right, cases_Bool, cases_lt, cond-true, cond-false}
use Rattle.std.proofs.lemmas.Bool.{false_from_ne_true, lt-leb, leb-false, and_from}
use Rattle.std.proofs.lemmas.Option.{none-some, same_Some}
use Rattle.std.proofs.lemmas.List.{append_assoc, append-nil, map-append, length-append, length_push, length-map}
use Rattle.std.proofs.lemmas.List.Elements.{All-push, All-nil, recursion_from_All, Contains-append_cases}
use Rattle.std.proofs.lemmas.List.Elements.{Contains-append_left}
use Rattle.clause_learning.specs.declared.proof_log.ProofLog.{ProofLog}
use Rattle.clause_learning.specs.declared.clause_database.ClauseDatabase.{ClauseDatabase}
use Rattle.clause_learning.specs.ClauseDatabases.{numbers_of, log_number, log_hints, AreLogNumbers, AreFirst, BeginsAnew}
use Rattle.clause_learning.proofs.LogHints.{first_named, named_next, shown_in_log, hints_in_log}
use Rattle.sat_core.specs.internal.Searches.{known, IsCalm, AreCalmBelow, IsSearch}
use Rattle.clause_learning.specs.Hints.{AreHints}
use Rattle.clause_core.specs.Literals.{Lit, negation, same, has}
use Rattle.clause_core.specs.Clauses.{IsIncreasing, IsOver, has_pair, is_true, meets, meets_all, assignment_of}
use Rattle.clause_core.specs.Propagation.{not_false, IsFalse, SomeFalse, IsQuiet, ReachesFalse, IsLearnt, IsNotFound, IsTrace}
use Rattle.clause_core.specs.Propagation.Reaches.{done, turn}
use Rattle.clause_core.proofs.Sets.{same_from, negation-negation, negation_differs}
use Rattle.clause_core.proofs.Sets.{Contains_from_has}
use Rattle.clause_core.proofs.Semantics.{reached_within, none_false_within}
use Rattle.sat_trail.specs.declared.entries.Entry.{Entry}
use Rattle.sat_trail.specs.Entries.{literals_of, entry_with}
use Rattle.sat_trail.specs.States.{TrailState, IsSound, started, decided, with_clause, undone, up_to, Propagates}
use Rattle.sat_trail.proofs.Places.{AreApart, one_entry}
use Rattle.sat_trail.proofs.Soundness.{apart_from, level_within}
use Rattle.sat_trail.proofs.TrailSteps.{up_to_all, up_to-push, unset_from, has_not_false, has_one}
use Rattle.refutation_check.specs.declared.steps.Step.{Step}
use Rattle.refutation_check.specs.declared.steps.Log.{Log}
use Rattle.refutation_check.specs.Checking.{Numbered, numbered_from, clause_named, effect_of_open, effect_of_named, led_to, refused_hint}
use Rattle.refutation_check.specs.Checking.{Refusal, step_refusal, first_of, steps_refusal, is_empty_clause, end_refusal}
use Rattle.refutation_check.specs.Checking.HintEffect.{makes, shows_nothing}
use Rattle.refutation_check.specs.Checking.Refusal.{at_line, at_hint, unfinished}
use Rattle.clause_learning.specs.Levels.{IsSetAt, AreQuietBelow}
use Rattle.refutation_check.specs.LogNumbers.{AreNumbered}
use Rattle.clause_learning.specs.LearntClauses.{IsAsserting, IsLearntClause, learnt_step, clauses_of, HasLearnt, level_after, IsRefutingLog}
use Rattle.clause_learning.specs.Decisions.{AreSet, AreVariableTruths}
use Rattle.sat_core.specs.Answers.{AreSatisfying, AreRefuting, IsWholeTrace}
use Rattle.clause_learning.proofs.Hints.{has-map-negation}
use Rattle.clause_learning.proofs.LearntClauseLemmas.{learnt_clause_over, learnt_clause_no_pair}
use Rattle.sat_core.proofs.LogNumbers.{is_numbered, numbered_more}
use Rattle.clause_learning.proofs.Analysing.{up_to_has, up_to_from}
use Rattle.sat_core.proofs.Counting.{trace_is_short, filter-has}

-- ---- the beginning

pub search_begins : (reduces : Bool) (variables : ℕ) (clauses : List (List Lit)) (t : TrailState) (steps : List Step) (database : ClauseDatabase) →
    t ≡ started variables clauses → IsSound t → steps ≡ [] → AreFirst (length clauses) database →
    IsSearch reduces variables clauses t steps (numbers_of database)
search_begins reduces variables clauses t steps database is sound none first =
    subst (λ (ss : List Step). IsSearch reduces variables clauses t ss (numbers_of database)) (sym none)
    (subst (λ (s : TrailState). IsSearch reduces variables clauses s [] (numbers_of database)) (sym is) (record {
      usable = refl;
      sound = subst IsSound is sound;
      same_variables = refl;
      others = [];
      stands = sym (append-nil clauses);
      fewer = omega arith;
      named = first_named clauses [] database first;
      logged = λ later h. subst (λ (cs : List (List Lit)). steps_refusal variables (length cs) (numbered_from 1 cs) later ≡ None)
          (append-nil clauses) h;
      few_hints = All-nil (λ (step : Step). length step.hints + 1 < 2 ^ 32);
      numbered = tt;
      traced = λ all. (sym (append-nil clauses), λ later h. h);
      increasing = tt;
      calm = λ level below. absurd (omega arith);
    }))

-- ---- propagation

up_to_added : (n level : ℕ) (es added : List Entry) → AllByRecursion (λ (e : Entry). (e.level ≡ n) × IsSome e.reason) added → level < n →
    up_to level (es ++ added) ≡ up_to level es
up_to_added n level [] [] all below = refl
up_to_added n level [] (e ∷ es) all below = cond-false (leb e.level level) (e ∷ up_to level es) (up_to level es)
    (lt-leb e.level level (omega (arith, all.0.0))) ∙ up_to_added n level [] es all.1 below
up_to_added n level (x ∷ es) added all below = ap (λ (xs : List Entry). cond (leb x.level level) (x ∷ xs) xs)
    (up_to_added n level es added all below)

pub search_propagated : (reduces : Bool) (variables : ℕ) (clauses : List (List Lit)) (t u : TrailState) (steps : List Step)
    (numbers : List ℕ) → IsSearch reduces variables clauses t steps numbers → Propagates t u → IsSound u →
    IsSearch reduces variables clauses u steps numbers
search_propagated reduces variables clauses t u steps numbers search grows sound =
    subst (λ (s : TrailState). IsSearch reduces variables clauses s steps numbers) (sym grows.rest_stays) (record {
      usable = search.usable;
      sound = subst IsSound grows.rest_stays sound;
      same_variables = search.same_variables;
      others = search.others;
      stands = search.stands;
      fewer = search.fewer;
      named = search.named;
      logged = search.logged;
      few_hints = search.few_hints;
      numbered = search.numbered;
      traced = search.traced;
      increasing = search.increasing;
      calm = λ level below. subst (λ (es : List Entry). IsCalm reduces t.clauses (literals_of es))
          (sym (up_to_added t.level level t.entries grows.added (recursion_from_All
          (λ (e : Entry). (e.level ≡ t.level) × IsSome e.reason) grows.added grows.forced) below)) (search.calm level below);
    })

-- only entries at the next places are new, and clauses
pub record HasGrown (old new : TrailState) : Type 0 where
  pub added : List Entry
  pub same_variables : new.variables ≡ old.variables
  pub entries_are : new.entries ≡ old.entries ++ added

-- ---- a decision

pub search_decided : (reduces : Bool) (variables : ℕ) (clauses : List (List Lit)) (t u : TrailState) (steps : List Step)
    (numbers : List ℕ) (l : Lit) → IsSearch reduces variables clauses t steps numbers → IsQuiet t.clauses (literals_of t.entries) →
    u ≡ decided t l → IsSound u → IsSearch reduces variables clauses u steps numbers
search_decided reduces variables clauses t u steps numbers l search quiet is sound =
    subst (λ (s : TrailState). IsSearch reduces variables clauses s steps numbers) (sym is) (record {
      usable = search.usable;
      sound = subst IsSound is sound;
      same_variables = search.same_variables;
      others = search.others;
      stands = search.stands;
      fewer = search.fewer;
      named = search.named;
      logged = search.logged;
      few_hints = search.few_hints;
      numbered = search.numbered;
      traced = search.traced;
      increasing = search.increasing;
      calm = λ level below. subst (λ (es : List Entry). IsCalm reduces t.clauses (literals_of es))
          (sym (up_to-push level t.entries (entry_with l (t.level + 1) None) below)) (at_level level below);
    })
  where
    whole : up_to t.level t.entries ≡ t.entries
    whole = up_to_all t.level t.entries (λ k e at. (let h : e.level ≤ t.level = omega
        (arith, level_within t.variables t.clauses t.entries search.sound.stand k e at, search.sound.level_reached) in h))

    at_level : (level : ℕ) → level < t.level + 1 → IsCalm reduces t.clauses (literals_of (up_to level t.entries))
    at_level level below = elim (cases_lt level t.level) [
      | inl less ↦ search.calm level less
      | inr same ↦ (let is : level ≡ t.level = omega arith in
          subst (λ (n : ℕ). IsCalm reduces t.clauses (literals_of (up_to n t.entries))) (sym is)
          (subst (λ (es : List Entry). IsCalm reduces t.clauses (literals_of es)) (sym whole)
          (record { none_false = quiet.none_false; quiet = λ _. quiet })))
    ]

-- ---- a learnt clause

numbered_push : (n : ℕ) (cs : List (List Lit)) (c : List Lit) (number : ℕ) → number ≡ n + length cs →
    numbered_from n (cs ++ c ∷ []) ≡ numbered_from n cs ++ record { number = number; clause = c } ∷ []
numbered_push n [] c number h = ap (λ (k : ℕ). (record { number = k; clause = c }) ∷ []) (let e : n ≡ number = omega arith in e)
numbered_push n (d ∷ cs) c number h = ap (λ (ks : List Numbered). (record { number = n; clause = d }) ∷ ks)
    (numbered_push (suc n) cs c number (omega arith))

named_there : (n : ℕ) (cs : List (List Lit)) (number : ℕ) (clause : List Lit) → clause_named (numbered_from n cs) number ≡ Some clause →
    Contains cs clause
named_there n [] number clause h = absurd (none-some clause h)
named_there n (c ∷ cs) number clause h = by_test (eqb n number) (named_there (suc n) cs number clause) h
  where
    by_test : (b : Bool) → (clause_named (numbered_from (suc n) cs) number ≡ Some clause → Contains cs clause) →
        cond b (Some c) (clause_named (numbered_from (suc n) cs) number) ≡ Some clause → Contains (c ∷ cs) clause
    by_test true later h = (0, omega arith, same_Some c clause h)
    by_test false later h = let r = later h in (suc r.0, (let b = r.1 in omega arith), r.2)

-- what hints show is found by unit propagation
shown_found : (clauses : List (List Lit)) (hints : List ℕ) (trues : List Lit) (position : ℕ) →
    refused_hint (numbered_from 1 clauses) trues position hints ≡ None → ReachesFalse clauses trues
shown_found clauses [] trues position h = absurd (none-some position (sym h))
shown_found clauses (hint ∷ hints) trues position h = by_named (λ l. shown_found clauses hints (l ∷ trues) (suc position))
    (clause_named (numbered_from 1 clauses) hint) refl h
  where
    later : Lit → Option ℕ
    later l = refused_hint (numbered_from 1 clauses) (l ∷ trues) (suc position) hints

    by_named : ((l : Lit) → later l ≡ None → ReachesFalse clauses (l ∷ trues)) → (o : Option (List Lit)) →
        clause_named (numbered_from 1 clauses) hint ≡ o → led_to position later (effect_of_named trues o) ≡ None →
        ReachesFalse clauses trues
    by_named found None is h = absurd (none-some position (sym h))
    by_named found (Some clause) is h = by_open (not_false trues clause) refl h
      where
        there : Contains clauses clause
        there = named_there 1 clauses hint clause is

        by_open : (ls : List Lit) → not_false trues clause ≡ ls → led_to position later (effect_of_open trues ls) ≡ None →
            ReachesFalse clauses trues
        by_open [] left h = (trues, done, (clause, there, left))
        by_open (l ∷ []) left h = by_test (has trues l) refl h
          where
            by_test : (b : Bool) → has trues l ≡ b → led_to position later (cond b shows_nothing (makes l)) ≡ None →
                ReachesFalse clauses trues
            by_test true t h = absurd (none-some position (sym h))
            by_test false t h =
                let r = found l h in
                (r.0, turn {clause = clause} {l = l} there (record { others_false = left; unassigned = t }) r.1, r.2)
        by_open (l ∷ m ∷ ms) left h = absurd (none-some position (sym h))

-- a variable is set at one level
one_level : (es : List Entry) → AreApart es → (a b : Lit) (m n : ℕ) → a.index ≡ b.index → IsSetAt es a m → IsSetAt es b n →
    (a ≡ b) × (m ≡ n)
one_level es apart a b m n index at_a at_b =
    let one = one_entry es apart at_a.place at_b.place at_a.entry at_b.entry at_a.there at_b.there
    (ap (λ (l : Lit). l.index) at_a.same_literal ∙ (index ∙ ap (λ (l : Lit). l.index) (sym at_b.same_literal))) in (
      sym at_a.same_literal ∙ (ap (λ (e : Entry). e.literal) one.1 ∙ at_b.same_literal),
      sym at_a.same_level
          ∙ (ap (λ (e : Entry). e.level) one.1 ∙ at_b.same_level),
    )

-- where a literal of the clause is not false at a level, it is open there
open_below : (t : TrailState) → IsSound t → (l : Lit) (level n : ℕ) → IsSetAt t.entries (negation l) n → level < n →
    has (literals_of (up_to level t.entries)) (negation l) ≡ false
open_below t sound l level n set_at below = false_from_ne_true (has (literals_of (up_to level t.entries)) (negation l))
    (λ h. (let r = up_to_from level t.entries (negation l) h in
    let one = one_level t.entries (apart_from t.variables t.clauses t.entries sound.stand) (negation l)
    (negation l) r.0 n refl r.2 set_at in
    omega (arith, r.1, one.1)))

unset_below : (t : TrailState) → IsSound t → (l : Lit) (level n : ℕ) → IsSetAt t.entries (negation l) n →
    has (literals_of (up_to level t.entries)) l ≡ false
unset_below t sound l level n set_at = false_from_ne_true (has (literals_of (up_to level t.entries)) l)
    (λ h. (let r = up_to_from level t.entries l h in
    let one = one_level t.entries (apart_from t.variables t.clauses t.entries sound.stand) l (negation l) r.0 n refl r.2 set_at in
    negation_differs l (sym one.0)))

none_out : (variables : ℕ) (clause : List Lit) → AllByRecursion (λ (l : Lit). l.index < variables) clause →
    list_any (λ l. leb variables l.index) clause ≡ false
none_out variables [] all = refl
none_out variables (x ∷ xs) all = ap (λ b. b || list_any (λ l. leb variables l.index) xs) (lt-leb variables x.index all.0)
    ∙ none_out variables xs all.1

-- a step of the next number whose hints show it is accepted
pub step_accepted : (variables : ℕ) (clauses : List (List Lit)) (clause : List Lit) (hints : List ℕ) → IsOver variables clause →
    has_pair clause ≡ false → refused_hint (numbered_from 1 clauses) (map negation clause) 1 hints ≡ None →
    step_refusal variables (length clauses) (numbered_from 1 clauses) (learnt_step (length clauses + 1) clause hints) ≡ None
step_accepted variables clauses clause hints over no_pair shown =
    let a : leb (length clauses + 1) (length clauses) ≡ false = lt-leb (length clauses + 1) (length clauses) (omega arith) in
    let b : list_any (λ l. leb variables l.index) clause ≡ false =
    none_out variables clause (recursion_from_All (λ (l : Lit). l.index < variables) clause over) in
    let no_step : (leb (length clauses + 1) (length clauses) || (list_any (λ l. leb variables l.index) clause || has_pair clause)) ≡ false =
    ap (λ z. z || (list_any (λ l. leb variables l.index) clause || has_pair clause)) a ∙ (ap (λ z. z || has_pair clause) b ∙ no_pair) in
    cond-false (leb (length clauses + 1) (length clauses) || (list_any (λ l. leb variables l.index) clause || has_pair clause))
    (Some (at_line (length clauses + 1))) (option_map (at_hint (length clauses + 1))
    (refused_hint (numbered_from 1 clauses) (map negation clause) 1 hints)) no_step
    ∙ ap (option_map (at_hint (length clauses + 1))) shown

module _ (t : TrailState) (sound : IsSound t) (clause : List Lit) (hints : List ℕ) (back : ℕ) (learnt_clause : IsLearntClause t clause hints back) where
  clause_is_learnt : AreQuietBelow t t.level → 0 < t.level → IsLearnt t.variables t.clauses clause
  clause_is_learnt quiet above = record {
    not_empty = λ none. false≢true (sym (ap (λ (ls : List Lit). has ls asserting.asserted) none) ∙ asserting.member);
    over = learnt_clause_over t sound clause hints back learnt_clause;
    no_pair = learnt_clause_no_pair t sound clause hints back learnt_clause;
    found = shown_found t.clauses hints (map negation clause) 1 learnt_clause.shown;
    adds = (asserting.asserted, Contains_from_has clause asserting.asserted asserting.member, not_found);
  }
    where
      asserting : IsAsserting t clause back
      asserting = learnt_clause.asserting above

      others_set : (l : Lit) → has (map negation (filter (λ m. not (same m asserting.asserted)) clause)) l ≡ true →
          has (literals_of (up_to back t.entries)) l ≡ true
      others_set l h =
          let r = filter-has (λ m. not (same m asserting.asserted)) clause (negation l)
          (sym (has-map-negation (filter (λ m. not (same m asserting.asserted)) clause) l) ∙ h) in
          let o = asserting.others (negation l) r.0 (λ e. true≢false (sym r.1 ∙ ap not (same_from (negation l) asserting.asserted e))) in
          let is : o.2.entry.literal ≡ l = o.2.same_literal ∙ negation-negation l in
          ap (has (literals_of (up_to back t.entries))) (sym is) ∙ up_to_has back t.entries o.2.place o.2.entry o.2.there
          (let b = o.1 in let c = o.2.same_level in omega arith)

      not_found : IsNotFound t.clauses clause asserting.asserted
      not_found trues reaches =
          let within = reached_within t.clauses (map negation (filter (λ m. not (same m asserting.asserted)) clause)) trues
          (literals_of (up_to back t.entries)) reaches others_set (quiet back asserting.below) in (
            none_false_within t.clauses trues (literals_of (up_to back t.entries)) within (quiet back asserting.below),
            false_from_ne_true (has trues asserting.asserted) (λ h. true≢false
                (sym (within asserting.asserted h) ∙ unset_below t sound asserting.asserted back t.level asserting.last)),
          )

  only : (c : List Lit) → Contains (clause ∷ []) c → clause ≡ c
  only c (zero, in', is) = is
  only c (suc k, in', is) = absurd (omega (arith, in'))

  -- below the present level the literal that is asserted is not false
  first_open : (above : 0 < t.level) (level : ℕ) → level < t.level →
      has (not_false (literals_of (up_to level t.entries)) clause) (learnt_clause.asserting above).asserted ≡ true
  first_open above level below =
      let asserting = learnt_clause.asserting above in
      has_not_false (literals_of (up_to level t.entries)) clause asserting.asserted asserting.member
      (open_below t sound asserting.asserted level t.level asserting.last below)

  learnt_clause_met : (above : 0 < t.level) (level : ℕ) → level < t.level →
      (SomeFalse t.clauses (literals_of (up_to level t.entries)) → ⊥) →
      SomeFalse (t.clauses ++ clause ∷ []) (literals_of (up_to level t.entries)) → ⊥
  learnt_clause_met above level below none_false (c, in', f) = elim (Contains-append_cases t.clauses (clause ∷ []) c in') [
    | inl old ↦ none_false (c, old, f)
    | inr new ↦ false≢true (sym (ap (λ (ls : List Lit). has ls (learnt_clause.asserting above).asserted)
        (ap (not_false (literals_of (up_to level t.entries))) (only c new) ∙ f)) ∙ first_open above level below)
  ]

  learnt_clause_quiet : AreQuietBelow t t.level → (above : 0 < t.level) (level : ℕ) → level < back →
      IsQuiet (t.clauses ++ clause ∷ []) (literals_of (up_to level t.entries))
  learnt_clause_quiet quiet above level below = record {
    none_false = learnt_clause_met above level low before.none_false;
    none_unit = λ c l in' u. elim (Contains-append_cases t.clauses (clause ∷ []) c in') [
      | inl old ↦ before.none_unit c l old u
      | inr new ↦ (let left : not_false trues clause ≡ l ∷ [] = ap (not_false trues) (only c new) ∙ u.others_false in
          let a = has_one l asserting.asserted (ap (λ (ls : List Lit). has ls asserting.asserted) (sym left) ∙ first_open above level low) in
          let b = has_one l second.0 (ap (λ (ls : List Lit). has ls second.0) (sym left) ∙ second_open) in
          apart (sym b ∙ a))
    ];
  }
    where
      asserting : IsAsserting t clause back
      asserting = learnt_clause.asserting above

      trues : List Lit
      trues = literals_of (up_to level t.entries)

      low : level < t.level
      low = let b = asserting.below in omega arith

      before : IsQuiet t.clauses trues
      before = quiet level low

      second : (l : Lit) × (has clause l ≡ true) × IsSetAt t.entries (negation l) back
      second = asserting.reached (omega arith)

      second_open : has (not_false trues clause) second.0 ≡ true
      second_open = has_not_false trues clause second.0 second.1 (open_below t sound second.0 level back second.2 below)

      apart : second.0 ≡ asserting.asserted → ⊥
      apart e =
          let one = one_level t.entries (apart_from t.variables t.clauses t.entries sound.stand) (negation second.0)
          (negation asserting.asserted) back t.level (ap (λ (l : Lit). l.index) e) second.2 asserting.last in
          omega (arith, one.1, asserting.below)

up_to-up_to : (low high : ℕ) (es : List Entry) → low ≤ high → up_to low (up_to high es) ≡ up_to low es
up_to-up_to low high [] h = refl
up_to-up_to low high (e ∷ es) h = by_tests (leb e.level high) refl (up_to-up_to low high es h)
  where
    by_tests : (b : Bool) → leb e.level high ≡ b → up_to low (up_to high es) ≡ up_to low es →
        up_to low (cond b (e ∷ up_to high es) (up_to high es)) ≡ cond (leb e.level low) (e ∷ up_to low es) (up_to low es)
    by_tests true t ih = ap (λ (xs : List Entry). cond (leb e.level low) (e ∷ xs) xs) ih
    by_tests false t ih = ih ∙ sym (cond-false (leb e.level low) (e ∷ up_to low es) (up_to low es)
        (lt-leb e.level low (let b = leb-false e.level high t in omega arith)))

pub clauses_of_push : (steps : List Step) (s : Step) → clauses_of (steps ++ s ∷ []) ≡ clauses_of steps ++ s.clause ∷ []
clauses_of_push steps s = map-append (λ (step : Step). step.clause) steps (s ∷ [])

known_long : (clauses : List (List Lit)) (steps : List Step) → length (known clauses steps) ≡ length clauses + length steps
known_long clauses steps = length-append clauses (clauses_of steps)
    ∙ ap (λ (n : ℕ). length clauses + n) (length-map steps (λ (s : Step). s.clause))

known_push : (clauses : List (List Lit)) (steps : List Step) (s : Step) →
    known clauses (steps ++ s ∷ []) ≡ known clauses steps ++ s.clause ∷ []
known_push clauses steps s = ap (λ (cs : List (List Lit)). clauses ++ cs) (clauses_of_push steps s)
    ∙ sym (append_assoc clauses (clauses_of steps) (s.clause ∷ []))

-- the steps with one more, whose number is the next
search_numbered : (clauses : List (List Lit)) (steps : List Step) → AreNumbered (length clauses + 1) steps → (step : Step) →
    step.number ≡ length (known clauses steps) + 1 → AreHints (length (known clauses steps)) step.hints →
    AreNumbered (length clauses + 1) (steps ++ step ∷ [])
search_numbered clauses steps numbered step is hints =
    numbered_more (length clauses + 1) steps step (length (known clauses steps) + 1) (omega (arith, known_long clauses steps)) numbered
    (is_numbered step (length (known clauses steps)) is hints)

-- a clause that hints show stands at the end of the trail, and its step behind the others, with the next number
module _ (reduces : Bool) (variables : ℕ) (clauses : List (List Lit)) (t : TrailState) (taken : List Step) (names : List ℕ) (next : ℕ)
    (search : IsSearch reduces variables clauses t taken names) (next_is : next ≡ length clauses + length taken + 1)
    (clause : List Lit) (hints : List ℕ) (over : IsOver t.variables clause) (no_pair : has_pair clause ≡ false)
    (shown : refused_hint (numbered_from 1 t.clauses) (map negation clause) 1 hints ≡ None) (few_hints : length hints + 1 < 2 ^ 32)
    (named : AreHints (length t.clauses) hints) (increasing : IsIncreasing clause) where
  abbrev before : List (List Lit)
  before = known clauses taken

  next_number : next ≡ length before + 1
  next_number = omega (arith, next_is, known_long clauses taken)

  abbrev next_step : Step
  next_step = learnt_step next clause (log_hints names hints)

  all_push : (cs : List (List Lit)) → AllByRecursion IsIncreasing cs → AllByRecursion IsIncreasing (cs ++ clause ∷ [])
  all_push [] all = (increasing, tt)
  all_push (c ∷ cs) all = (all.0, all_push cs all.1)

  accepted : step_refusal variables (length before) (numbered_from 1 before) next_step ≡ None
  accepted = subst (λ (n : ℕ). step_refusal variables (length before) (numbered_from 1 before)
      (learnt_step n clause (log_hints names hints)) ≡ None) (sym next_number) (step_accepted variables before clause (log_hints names hints)
      (subst (λ (v : ℕ). IsOver v clause) search.same_variables over) no_pair
      (shown_in_log before t.clauses names search.named hints named (map negation clause) shown))

  follows : (later : List Step) → steps_refusal variables (length (before ++ clause ∷ [])) (numbered_from 1 (before ++ clause ∷ [])) later
      ≡ None → steps_refusal variables (length before) (numbered_from 1 before) (next_step ∷ later) ≡ None
  follows later h =
      let rest : steps_refusal variables next (numbered_from 1 before
      ++ record { number = next; clause = clause } ∷ []) later ≡ None = ap (λ (ks : List Numbered). steps_refusal variables next ks later)
      (sym (numbered_push 1 before clause next (omega (arith, next_number))))
      ∙ (ap (λ (n : ℕ). steps_refusal variables n (numbered_from 1 (before ++ clause ∷ [])) later)
      (next_number ∙ sym (length_push before clause)) ∙ h) in
      ap (λ (o : Option Refusal). first_of o (steps_refusal variables next
      (numbered_from 1 before ++ record { number = next; clause = clause } ∷ []) later)) accepted ∙ rest

  -- the trail may have gone back before
  pub search_more : (es : List Entry) (level : ℕ) → IsSound (with_clause (record t { entries = es; level = level }) clause) →
      (reduces ≡ false → (t.clauses ++ clause ∷ [] ≡ known clauses (taken ++ next_step ∷ []))
      × ((later : List (List Lit)) → IsTrace variables (t.clauses ++ clause ∷ []) later →
      IsTrace variables clauses (clauses_of (taken ++ next_step ∷ []) ++ later))) →
      AreCalmBelow reduces (with_clause (record t { entries = es; level = level }) clause) level →
      IsSearch reduces variables clauses (with_clause (record t { entries = es; level = level }) clause) (taken ++ next_step ∷ [])
      (names ++ next ∷ [])
  search_more es level sound traced calm = record {
    usable = search.usable;
    sound = sound;
    same_variables = search.same_variables;
    others = search.others ++ clause ∷ [];
    stands = ap (λ (cs : List (List Lit)). cs ++ clause ∷ []) search.stands ∙ append_assoc clauses search.others (clause ∷ []);
    fewer = omega (arith, search.fewer, length_push t.clauses clause, length_push taken next_step);
    named = subst (λ (cs : List (List Lit)). AreLogNumbers cs (t.clauses ++ clause ∷ []) (names ++ next ∷ []))
        (sym (known_push clauses taken next_step)) (named_next before t.clauses names clause next next_number search.named);
    logged = λ later h. ap (λ (ss : List Step). steps_refusal variables (length clauses) (numbered_from 1 clauses) ss)
        (append_assoc taken (next_step ∷ []) later) ∙ search.logged (next_step ∷ later) (follows later
        (subst (λ (cs : List (List Lit)). steps_refusal variables (length cs) (numbered_from 1 cs) later ≡ None)
        (known_push clauses taken next_step) h));
    few_hints = All-push (λ (s : Step). length s.hints + 1 < 2 ^ 32) taken next_step search.few_hints
        (subst (λ (n : ℕ). n + 1 < 2 ^ 32) (sym (length-map hints (log_number names))) few_hints);
    numbered = search_numbered clauses taken search.numbered next_step next_number
        (hints_in_log before t.clauses names search.named hints named);
    traced = traced;
    increasing = subst (AllByRecursion IsIncreasing) (sym (clauses_of_push taken next_step)) (all_push (clauses_of taken) search.increasing);
    calm = calm;
  }

module _ (reduces : Bool) (variables : ℕ) (clauses : List (List Lit)) (anew : Bool) (t u : TrailState) (proof_log after : ProofLog)
    (search : IsSearch reduces variables clauses t proof_log.steps.items (numbers_of proof_log.database))
    (next_is : proof_log.next ≡ length clauses + length proof_log.steps.items + 1) (learnt : HasLearnt anew reduces t proof_log u after)
    (sound : IsSound u) (above : 0 < t.level) where
  abbrev clause : List Lit
  clause = learnt.clause

  abbrev hints : List ℕ
  hints = learnt.hints

  abbrev back : ℕ
  back = learnt.back

  abbrev taken : List Step
  taken = proof_log.steps.items

  abbrev names : List ℕ
  names = numbers_of proof_log.database

  abbrev target : ℕ
  target = level_after anew reduces back t.level

  -- a search that owes a trace goes back to the level that was taught, or to 0
  target_low : (a b : Bool) → b ≡ false → level_after a b back t.level ≤ back
  target_low true b h = omega arith
  target_low false true h = absurd (true≢false h)
  target_low false false h = omega arith

  were_quiet : reduces ≡ false → AreQuietBelow t t.level
  were_quiet all level below = (search.calm level below).quiet all

  abbrev step : Step
  step = learnt_step proof_log.next clause (log_hints names hints)

  still_traced : reduces ≡ false → (t.clauses ++ clause ∷ [] ≡ known clauses (taken ++ step ∷ []))
      × ((later : List (List Lit)) → IsTrace variables (t.clauses ++ clause ∷ []) later →
      IsTrace variables clauses (clauses_of (taken ++ step ∷ []) ++ later))
  still_traced all =
      let r = search.traced all in (
        ap (λ (cs : List (List Lit)). cs ++ clause ∷ []) r.0 ∙ sym (known_push clauses taken step),
        λ later h. subst (λ (cs : List (List Lit)). IsTrace variables clauses cs)
            (sym (ap (λ (cs : List (List Lit)). cs ++ later) (clauses_of_push taken step)
            ∙ append_assoc (clauses_of taken) (clause ∷ []) later))
            (r.1 (clause ∷ later) (
              subst (λ (v : ℕ). IsLearnt v t.clauses clause) search.same_variables
                  (clause_is_learnt t search.sound clause hints back learnt.learnt_clause (were_quiet all) above),
              h,
            )),
      )

  one_more : IsSearch reduces variables clauses (with_clause (undone t target) clause) (taken ++ step ∷ []) (names ++ proof_log.next ∷ [])
  one_more = search_more reduces variables clauses t taken names proof_log.next search next_is clause hints
      (learnt_clause_over t search.sound clause hints back learnt.learnt_clause) (learnt_clause_no_pair t search.sound clause hints back learnt.learnt_clause)
      learnt.learnt_clause.shown learnt.learnt_clause.few_hints learnt.learnt_clause.named learnt.learnt_clause.increasing (up_to target t.entries) (min target t.level)
      (subst IsSound learnt.trail_is sound) still_traced (λ level below. subst
      (λ (es : List Entry). IsCalm reduces (t.clauses ++ clause ∷ []) (literals_of es))
      (sym (up_to-up_to level target t.entries (omega arith))) (record {
        none_false = learnt_clause_met t search.sound clause hints back learnt.learnt_clause above level (omega (arith, below))
            (search.calm level (omega (arith, below))).none_false;
        quiet = λ all. learnt_clause_quiet t search.sound clause hints back learnt.learnt_clause (were_quiet all) above level
            (omega (arith, below, target_low anew reduces all));
      }))

  pub search_learnt : IsSearch reduces variables clauses u after.steps.items (numbers_of after.database)
  search_learnt = subst (λ (s : TrailState). IsSearch reduces variables clauses s after.steps.items (numbers_of after.database))
      (sym learnt.trail_is) (subst (λ (ss : List Step). IsSearch reduces variables clauses (with_clause (undone t target) clause) ss
      (numbers_of after.database)) (sym learnt.steps_are) (subst (λ (ns : List ℕ). IsSearch reduces variables clauses
      (with_clause (undone t target) clause) (taken ++ step ∷ []) ns) (sym learnt.numbers_are) one_more))

-- ---- a trail that begins anew

pub search_reduced : (variables : ℕ) (clauses : List (List Lit)) (reduces : Bool) (t u : TrailState) (steps : List Step)
    (numbers : List ℕ) (database : ClauseDatabase) → IsSearch reduces variables clauses t steps numbers → reduces ≡ true →
    BeginsAnew variables clauses t numbers u database → IsSound u → IsSearch reduces variables clauses u steps (numbers_of database)
search_reduced variables clauses reduces t u steps numbers database search is begins sound =
    subst (λ (s : TrailState). IsSearch reduces variables clauses s steps (numbers_of database)) (sym begins.trail_is) (record {
      usable = refl;
      sound = subst IsSound begins.trail_is sound;
      same_variables = refl;
      others = begins.others;
      stands = refl;
      fewer = omega (arith, begins.kept.fewer, search.fewer);
      named = begins.kept.named (clauses_of steps) search.named;
      logged = search.logged;
      few_hints = search.few_hints;
      numbered = search.numbered;
      traced = λ none. absurd (true≢false (sym is ∙ none));
      increasing = search.increasing;
      calm = λ level below. absurd (omega arith);
    })

-- ---- the answers

pub search_refuted : (reduces : Bool) (variables : ℕ) (clauses : List (List Lit)) (t : TrailState) (proof_log : ProofLog) (log : Log) →
    IsSearch reduces variables clauses t proof_log.steps.items (numbers_of proof_log.database) →
    proof_log.next ≡ length clauses + length proof_log.steps.items + 1 → IsRefutingLog t.clauses proof_log log →
    AreRefuting variables clauses log.steps
search_refuted reduces variables clauses t proof_log log search next_is refuted =
    subst (AreRefuting variables clauses) (sym refuted.steps_are) (record {
      accepted = ap (λ (o : Option Refusal). first_of o (end_refusal (steps ++ last ∷ []))) (search.logged (last ∷ []) accepted)
          ∙ ended steps;
      few_hints = All-push (λ (s : Step). length s.hints + 1 < 2 ^ 32) steps last search.few_hints
          (subst (λ (n : ℕ). n + 1 < 2 ^ 32) (sym (length-map refuted.hints (log_number numbers))) refuted.few_hints);
      numbered = search_numbered clauses steps search.numbered last next_number
          (hints_in_log before t.clauses numbers search.named refuted.hints refuted.named);
    })
  where
    steps : List Step
    steps = proof_log.steps.items

    numbers : List ℕ
    numbers = numbers_of proof_log.database

    before : List (List Lit)
    before = known clauses steps

    next_number : proof_log.next ≡ length before + 1
    next_number = omega (arith, next_is, known_long clauses steps)

    last : Step
    last = learnt_step proof_log.next [] (log_hints numbers refuted.hints)

    step_taken : step_refusal variables (length before) (numbered_from 1 before) last ≡ None
    step_taken = subst (λ (n : ℕ). step_refusal variables (length before) (numbered_from 1 before)
        (learnt_step n [] (log_hints numbers refuted.hints)) ≡ None) (sym next_number) (step_accepted variables before []
        (log_hints numbers refuted.hints) (All-nil (λ (l : Lit). l.index < variables)) refl
        (shown_in_log before t.clauses numbers search.named refuted.hints refuted.named [] refuted.shown))

    accepted : steps_refusal variables (length before) (numbered_from 1 before) (last ∷ []) ≡ None
    accepted = ap (λ (o : Option Refusal). first_of o None) step_taken

    ended : (ss : List Step) → end_refusal (ss ++ last ∷ []) ≡ None
    ended ss = ap (λ (b : Bool). cond b None (Some unfinished)) (found ss)
      where
        found : (xs : List Step) → list_any (λ (s : Step). is_empty_clause s.clause) (xs ++ last ∷ []) ≡ true
        found [] = refl
        found (x ∷ xs) = or_right (is_empty_clause x.clause) (list_any (λ (s : Step). is_empty_clause s.clause) (xs ++ last ∷ []))
            (found xs)

pub search_spent : (reduces : Bool) (variables : ℕ) (clauses : List (List Lit)) (t : TrailState) (steps : List Step) (numbers : List ℕ)
    (budget : ℕ) (trace : List (List Lit)) → IsSearch reduces variables clauses t steps numbers → length steps ≡ budget →
    trace ≡ clauses_of steps → (ReachesFalse t.clauses [] → ⊥) → reduces ≡ false → IsWholeTrace variables clauses budget trace
search_spent reduces variables clauses t steps numbers budget trace search spent is none keeps =
    let all : IsTrace variables clauses (clauses_of steps) = subst (λ (cs : List (List Lit)). IsTrace variables clauses cs)
    (append-nil (clauses_of steps)) ((search.traced keeps).1 [] none) in
    let count : length (clauses_of steps) ≡ budget = length-map steps (λ (s : Step). s.clause) ∙ spent in
    let short = trace_is_short variables clauses (clauses_of steps) all search.increasing in
    record {
      whole_budget = ap length is ∙ count;
      learnt = subst (λ (cs : List (List Lit)). IsTrace variables clauses cs) (sym is) all;
      few = omega arith;
    }

-- behind a quiet trail nothing is refuted
pub quiet_reaches : (clauses : List (List Lit)) (trues : List Lit) → IsQuiet clauses trues → ReachesFalse clauses [] → ⊥
quiet_reaches clauses trues quiet (reached, reaches, some) =
    none_false_within clauses reached trues (reached_within clauses [] reached trues reaches
    (λ l h. absurd (false≢true h)) quiet) quiet some

-- a literal is true under the assignment that was read off if it is set
truths_true : (es : List Entry) (variables : ℕ) (truths : List Bool) → AreApart es → AreSet es variables →
    AreVariableTruths es variables truths → (l : Lit) → l.index < variables → has (literals_of es) (negation l) ≡ false →
    is_true (assignment_of truths) l ≡ true
truths_true es variables truths apart all read l below open' =
    let there : assignment_of truths l.index ≡ has (literals_of es) (record { index = l.index; positive = true }) =
    read_at truths l.index (has (literals_of es) (record { index = l.index; positive = true })) (read.each l.index below) in
    by_sign l.positive refl there
  where
    read_at : (xs : List Bool) (i : ℕ) (b : Bool) → slice_get xs i ≡ Some b → slice_index_or xs i false ≡ b
    read_at [] i b h = absurd (none-some b h)
    read_at (x ∷ xs) zero b h = same_Some x b h
    read_at (x ∷ xs) (suc i) b h = read_at xs i b h

    set_true : has (literals_of es) l ≡ true
    set_true = elim (cases_Bool (has (literals_of es) l)) [
      | inl y ↦ y
      | inr n ↦ absurd (all l.index below (unset_from es l n open'))
    ]

    by_sign : (p : Bool) → l.positive ≡ p → assignment_of truths l.index
        ≡ has (literals_of es) (record { index = l.index; positive = true }) →
        cond l.positive (assignment_of truths l.index) (not (assignment_of truths l.index)) ≡ true
    by_sign true s there = cond-true l.positive (assignment_of truths l.index) (not (assignment_of truths l.index)) s
        ∙ (there ∙ (ap (λ (b : Bool). has (literals_of es) (record { index = l.index; positive = b })) (sym s) ∙ set_true))
    by_sign false s there = cond-false l.positive (assignment_of truths l.index) (not (assignment_of truths l.index)) s
        ∙ ap not (there ∙ (ap (λ (b : Bool). has (literals_of es) (record { index = l.index; positive = not b })) (sym s) ∙ open'))

pub quiet_met : (clauses : List (List Lit)) (es : List Entry) (variables : ℕ) (truths : List Bool) → AreApart es → AreSet es variables →
    AreVariableTruths es variables truths → AllByRecursion (IsOver variables) clauses →
    ((clause : List Lit) → Contains clauses clause → IsFalse (literals_of es) clause → ⊥) → meets_all (assignment_of truths) clauses ≡ true
quiet_met [] es variables truths apart all read over none = refl
quiet_met (c ∷ cs) es variables truths apart all read over none =
    and_from (meets (assignment_of truths) c) (meets_all (assignment_of truths) cs)
    (met c (recursion_from_All (λ (l : Lit). l.index < variables) c over.0) (none c (0, omega arith, refl)))
    (quiet_met cs es variables truths apart all read over.1 (λ d in' f. none d (suc in'.0, (let b = in'.1 in omega arith), in'.2) f))
  where
    met : (ls : List Lit) → AllByRecursion (λ (l : Lit). l.index < variables) ls → (IsFalse (literals_of es) ls → ⊥) →
        meets (assignment_of truths) ls ≡ true
    met [] over n = absurd (n refl)
    met (x ∷ xs) over n = by_test (has (literals_of es) (negation x)) refl (met xs over.1) n
      where
        by_test : (b : Bool) → has (literals_of es) (negation x) ≡ b →
            ((IsFalse (literals_of es) xs → ⊥) → meets (assignment_of truths) xs ≡ true) →
            (cond (not b) (x ∷ not_false (literals_of es) xs) (not_false (literals_of es) xs) ≡ [] → ⊥) →
            meets (assignment_of truths) (x ∷ xs) ≡ true
        by_test false f later n = or_left (is_true (assignment_of truths) x) (meets (assignment_of truths) xs)
            (truths_true es variables truths apart all read x over.0 f)
        by_test true f later n = or_right (is_true (assignment_of truths) x) (meets (assignment_of truths) xs) (later n)

pub search_satisfied : (reduces : Bool) (variables : ℕ) (clauses : List (List Lit)) (t : TrailState) (found : List Step)
    (of_trail : List ℕ) (truths : List Bool) → IsSearch reduces variables clauses t found of_trail → All (IsOver variables) clauses →
    IsQuiet t.clauses (literals_of t.entries) →
    AreSet t.entries variables → AreVariableTruths t.entries variables truths → AreSatisfying variables clauses truths
search_satisfied reduces variables clauses t found of_trail truths search over quiet all read = record {
  one_each = read.all;
  all_met = quiet_met clauses t.entries variables truths (apart_from t.variables t.clauses t.entries search.sound.stand) all read
      (recursion_from_All (IsOver variables) clauses over) (λ c in' f. quiet.none_false
      (c, subst (λ (cs : List (List Lit)). Contains cs c) (sym search.stands) (Contains-append_left clauses search.others c in'), f));
}
