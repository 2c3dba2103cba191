-- Clauses of one literal, in a search that may leave clauses out of its trail.
use Rattle.std.proofs.Common.{◌≡◌, ℕ, ◌+◌, ◌-◌, ◌*◌, ◌<◌, ◌≤◌, Bool, true, false, ◌||◌, List, [], ◌∷◌, ◌++◌}
use Rattle.std.proofs.Common.{length, sym, ap, ◌∙◌, subst, refl, arith, inl, inr}
use Rattle.std.specs.Prelude.{IsSome}
use Rattle.std.proofs.lemmas.Bool.{true≢false, cases_Bool, false_from_ne_true}
use Rattle.std.proofs.lemmas.List.{append_assoc, append-nil, length_push, length-append}
use Rattle.std.proofs.lemmas.List.Elements.{All-push, All-nil}
use Rattle.clause_core.specs.Literals.{Lit, negation, has}
use Rattle.clause_core.specs.Clauses.{has_pair}
use Rattle.clause_core.proofs.Sets.{negation_differs}
use Rattle.sat_trail.specs.declared.entries.Entry.{Entry}
use Rattle.sat_trail.specs.States.{TrailState, IsSound, Propagates, with_clause}
use Rattle.sat_trail.proofs.Soundness.{length_entries}
use Rattle.sat_trail.proofs.TrailSteps.{has_one}
use Rattle.refutation_check.specs.declared.steps.Step.{Step}
use Rattle.clause_learning.specs.declared.proof_log.ProofLog.{ProofLog}
use Rattle.clause_learning.specs.declared.units.Units.{Units}
use Rattle.clause_learning.specs.Decisions.{AreDecisions}
use Rattle.clause_learning.specs.ConflictAnalysis.{AreNoneSeen}
use Rattle.clause_learning.specs.ClauseDatabases.{numbers_of, log_hints}
use Rattle.clause_learning.specs.LearntClauses.{learnt_step}
use Rattle.clause_learning.specs.Learning.{CanLearn}
use Rattle.clause_learning.specs.Units.{AreUnits, HasNoted, HaveNoted, HasPropagated}
use Rattle.clause_learning.specs.Units.HaveNoted.{none, more}
use Rattle.sat_core.specs.declared.search.Search.{Search}
use Rattle.sat_core.specs.internal.Searches.{IsSearch, IsLogged, Task, budget_left, IsSearching, HasSpent}
use Rattle.sat_core.proofs.Searching.{HasGrown, search_propagated, search_more}
use Rattle.clause_learning.proofs.Deciding.{decisions_grown}

one_no_pair : (l : Lit) → has_pair (l ∷ []) ≡ false
one_no_pair l = ap (λ (b : Bool). b || false) (false_from_ne_true (has (l ∷ []) (negation l))
    (λ h. negation_differs l (sym (has_one l (negation l) h))))

module _ (variables : ℕ) (clauses : List (List Lit)) (reduces : Bool) (is : reduces ≡ true) where
  search_noted : (t u : TrailState) (proof_log after : ProofLog) → IsLogged reduces variables clauses t proof_log →
      HasNoted t proof_log u after → IsLogged reduces variables clauses u after × (length after.steps.items ≡ length proof_log.steps.items + 1)
  search_noted t u proof_log after logged noted = (
    record {
      search = search;
      next = omega (arith, logged.next, noted.next_is, count);
    },
    count,
  )
    where
      clause : List Lit
      clause = noted.literal ∷ []

      step : Step
      step = learnt_step proof_log.next clause (log_hints (numbers_of proof_log.database) noted.hints)

      count : length after.steps.items ≡ length proof_log.steps.items + 1
      count = ap (λ (ss : List Step). length ss) noted.steps_are ∙ length_push proof_log.steps.items step

      one_more : IsSearch reduces variables clauses (with_clause t clause) (proof_log.steps.items ++ step ∷ [])
          (numbers_of proof_log.database ++ proof_log.next ∷ [])
      one_more = search_more reduces variables clauses t proof_log.steps.items (numbers_of proof_log.database) proof_log.next logged.search
          logged.next clause noted.hints (All-push (λ (l : Lit). l.index < t.variables) [] noted.literal
          (All-nil (λ (l : Lit). l.index < t.variables)) noted.over) (one_no_pair noted.literal) noted.shown noted.few_hints noted.named
          (tt, tt) t.entries t.level (subst IsSound noted.trail_is noted.sound) (λ none. absurd (true≢false (sym is ∙ none)))
          (λ level below. absurd (omega (arith, noted.start)))

      search : IsSearch reduces variables clauses u after.steps.items (numbers_of after.database)
      search = subst (λ (s : TrailState). IsSearch reduces variables clauses s after.steps.items (numbers_of after.database))
          (sym noted.trail_is) (subst (λ (ss : List Step). IsSearch reduces variables clauses (with_clause t clause) ss
          (numbers_of after.database)) (sym noted.steps_are) (subst (λ (ns : List ℕ). IsSearch reduces variables clauses
          (with_clause t clause) (proof_log.steps.items ++ step ∷ []) ns) (sym noted.numbers_are) one_more))

  pub search_have_noted : (count : ℕ) (t u : TrailState) (proof_log after : ProofLog) → IsLogged reduces variables clauses t proof_log →
      HaveNoted count t proof_log u after → IsLogged reduces variables clauses u after
      × (length after.steps.items ≡ length proof_log.steps.items + count)
  search_have_noted count t u proof_log after logged none = (logged, omega arith)
  search_have_noted count t u proof_log after logged (more {count = n} {middle = m} {between = b} before noted) =
      let r = search_have_noted n t m proof_log b logged before in
      let s = search_noted m u b after r.0 noted in
      (s.0, omega (arith, r.1, s.1))

-- where no clause is added nothing changes
none_noted : (variables : ℕ) (clauses : List (List Lit)) (reduces : Bool) (count : ℕ) (t u : TrailState) (proof_log after : ProofLog) →
    IsLogged reduces variables clauses t proof_log → HaveNoted count t proof_log u after → count ≡ 0 →
    IsLogged reduces variables clauses u after × (length after.steps.items ≡ length proof_log.steps.items + count)
none_noted variables clauses reduces count t u proof_log after logged none h = (logged, omega arith)
none_noted variables clauses reduces count t u proof_log after logged (more {count = n} before noted) h = absurd (omega (arith, h))

-- clauses alone are new
pub noted_rest : (count : ℕ) (t u : TrailState) (proof_log after : ProofLog) → HaveNoted count t proof_log u after →
    u ≡ record t { clauses = u.clauses }
noted_rest count t u proof_log after none = refl
noted_rest count t u proof_log after (more {count = n} {middle = m} {between = b} before noted) = noted.trail_is
    ∙ (ap (λ (s : TrailState). with_clause s (noted.literal ∷ [])) (noted_rest n t m proof_log b before)
    ∙ sym (ap (λ (s : TrailState). record t { clauses = s.clauses }) noted.trail_is))

module _ (count : ℕ) (t u : TrailState) (proof_log after : ProofLog) (has_propagated : HasPropagated count t proof_log u after) where
  abbrev found : TrailState
  found = has_propagated.found

  abbrev noted : TrailState
  noted = has_propagated.noted

  rest : noted ≡ record found { clauses = noted.clauses }
  rest = noted_rest count found noted proof_log after has_propagated.clauses

  pub propagated_grown : HasGrown t u
  propagated_grown = record {
    added = has_propagated.first.added ++ has_propagated.last.added;
    same_variables = ap (λ (s : TrailState). s.variables) has_propagated.last.rest_stays ∙ (ap (λ (s : TrailState). s.variables) rest
        ∙ ap (λ (s : TrailState). s.variables) has_propagated.first.rest_stays);
    entries_are = ap (λ (s : TrailState). s.entries) has_propagated.last.rest_stays
        ∙ (ap (λ (s : TrailState). s.entries ++ has_propagated.last.added) rest
        ∙ (ap (λ (s : TrailState). s.entries ++ has_propagated.last.added) has_propagated.first.rest_stays
        ∙ append_assoc t.entries has_propagated.first.added has_propagated.last.added));
  }

  module _ (reduces : Bool) (variables : ℕ) (clauses : List (List Lit)) (only : reduces ≡ false → count ≡ 0) (sound : IsSound u)
      (logged : IsLogged reduces variables clauses t proof_log) where
    first_logged : IsLogged reduces variables clauses found proof_log
    first_logged = record {
      search = search_propagated reduces variables clauses t found proof_log.steps.items (numbers_of proof_log.database) logged.search
          has_propagated.first has_propagated.first_sound;
      next = logged.next;
    }

    noted_logged : IsLogged reduces variables clauses noted after × (length after.steps.items ≡ length proof_log.steps.items + count)
    noted_logged = elim (cases_Bool reduces) [
      | inl is ↦ search_have_noted variables clauses reduces is count found noted proof_log after first_logged has_propagated.clauses
      | inr not' ↦ none_noted variables clauses reduces count found noted proof_log after first_logged has_propagated.clauses (only not')
    ]

    pub search_propagates : IsLogged reduces variables clauses u after
        × (length after.steps.items ≡ length proof_log.steps.items + count)
    search_propagates = (
      record {
        search = search_propagated reduces variables clauses noted u after.steps.items (numbers_of after.database) noted_logged.0.search
            has_propagated.last sound;
        next = noted_logged.0.next;
      },
      noted_logged.1,
    )

-- ---- the search between its steps

module _ {s : Search} {u : TrailState} where
  -- it holds behind a propagation, no fewer clauses may be learnt, and the entries have grown
  pub searching_propagated : {start noted : TrailState} → {after : ProofLog} → {later : Units} → IsSearching s → Propagates s.trail start →
      IsSound start → ((count : ℕ) × HaveNoted count start s.proof_log noted after × (later.added ≡ s.units.added + count)) →
      IsSound noted → AreUnits noted later → later.added ≤ later.most → later.most ≡ s.units.most → Propagates noted u → IsSound u →
      IsSearching (record s { trail = u; proof_log = after; units = later })
      × HasSpent 0 s (record s { trail = u; proof_log = after; units = later }) × (length s.trail.entries ≤ length u.entries)
  searching_propagated {start = start} {noted = noted} {after = after} {later = later} i first first_sound all noted_sound table few same
      last sound =
      let p : HasPropagated all.0 s.trail s.proof_log u after = record {
        found = start;
        noted = noted;
        first = first;
        first_sound = first_sound;
        clauses = all.1;
        noted_sound = noted_sound;
        last = last;
      } in
      let grown : HasGrown s.trail u = propagated_grown all.0 s.trail u s.proof_log after p in
      let r = search_propagates all.0 s.trail u s.proof_log after p s.reduces s.cnf.now.variables s.cnf.now.clauses
      (λ keeps. omega (arith, i.only keeps, few, same, all.2)) sound i.logged in (
        record {
          no_tautology = i.no_tautology;
          logged = r.0;
          order = subst (λ (n : ℕ). AreDecisions n u.entries s.decisions) (sym grown.same_variables)
              (subst (λ (es : List Entry). AreDecisions s.trail.variables es s.decisions) (sym grown.entries_are)
              (decisions_grown s.trail.variables s.trail.entries grown.added s.decisions i.order));
          none_seen = subst (λ (n : ℕ). AreNoneSeen n s.analysis.seen) (sym grown.same_variables) i.none_seen;
          table = subst (λ (t : TrailState). AreUnits t later) (sym last.rest_stays)
              (record { one_each = table.one_each; within = table.within });
          within = omega (arith, i.within, r.1, all.2);
          counted = omega (arith, i.counted, r.1, all.2);
          few = few;
          room = omega (arith, i.room, same);
          only = λ keeps. omega (arith, i.only keeps, same);
          wanted = i.wanted;
        },
        record {
          same_task = refl;
          fewer = omega (arith, r.1, all.2);
        },
        omega (arith, ap (λ (es : List Entry). length es) grown.entries_are, length-append s.trail.entries grown.added),
      )

  -- and where no clause is added
  pub searching_found : IsSearching s → Propagates s.trail u → IsSound u → IsSearching (record s { trail = u })
  searching_found i grows sound =
      let t = s.trail in
      (searching_propagated {start = t} {noted = t} {after = s.proof_log} {later = s.units} i (record {
        added = [];
        rest_stays = ap (λ (es : List Entry). record t { entries = es }) (sym (append-nil t.entries));
        forced = All-nil (λ (e : Entry). (e.level ≡ t.level) × IsSome e.reason);
      }) i.logged.search.sound (0, none, omega arith) i.logged.search.sound i.table i.few refl grows sound).0

-- ---- learning

-- conflicts of a search can be analysed
pub can_learn : {s : Search} → IsSearching s → CanLearn s.trail s.proof_log s.units s.analysis.seen
can_learn i = record {
  usable = i.logged.search.usable;
  sound = i.logged.search.sound;
  none_seen = i.none_seen;
  table = i.table;
  next = omega (arith, i.logged.next, i.within, i.few, i.room);
  numbers = i.logged.search.named.one_each;
}

-- ---- the measure

-- with each decision there are more entries, and with each clause that is learnt fewer may be learnt
abbrev pub measure : Search → ℕ
measure s = budget_left s * (s.cnf.now.variables + 1) + (s.cnf.now.variables - length s.trail.entries)

less_unset : (a b v len longer : ℕ) → a ≡ b → len < longer → longer ≤ v → a + (v - longer) < b + (v - len)
less_unset a b v len longer same h k = omega arith

less_budget : (m n v x y : ℕ) → m + 1 ≡ n → x ≤ v → m * (v + 1) + x < n * (v + 1) + y
less_budget m n v x y is h = omega (arith, ap (λ k. k * (v + 1)) is)

pub decided_smaller : {s t u : Search} → IsSearching u → HasSpent 0 s t → length s.trail.entries ≤ length t.trail.entries → HasSpent 0 t u →
    length t.trail.entries < length u.trail.entries → measure u < measure s
decided_smaller {s = s} {t = t} {u = u} i a grown b longer =
    let v = u.cnf.now.variables in
    let search = i.logged.search in
    let left : budget_left u ≡ budget_left s = omega (arith, a.fewer, b.fewer) in
    let short : length u.trail.entries ≤ v =
    omega (arith, length_entries u.trail.variables u.trail.clauses u.trail.entries search.sound.stand, search.same_variables) in
    subst (λ (n : ℕ). measure u < budget_left s * (n + 1) + (n - length s.trail.entries))
    (ap (λ (task : Task). task.formula.variables) (b.same_task ∙ a.same_task))
    (less_unset _ _ v (length s.trail.entries) (length u.trail.entries) (ap (λ (n : ℕ). n * (v + 1)) left)
    (omega (arith, grown, longer)) short)

pub learnt_smaller : {s t u w : Search} → HasSpent 0 s t → HasSpent 1 t u → HasSpent 0 u w → measure w < measure s
learnt_smaller {s = s} {t = t} {u = u} {w = w} a b c =
    let v = w.cnf.now.variables in
    let left : budget_left w + 1 ≡ budget_left s = omega (arith, a.fewer, b.fewer, c.fewer) in
    subst (λ (n : ℕ). measure w < budget_left s * (n + 1) + (n - length s.trail.entries))
    (ap (λ (task : Task). task.formula.variables) (c.same_task ∙ (b.same_task ∙ a.same_task)))
    (less_budget _ _ v (v - length w.trail.entries) (v - length s.trail.entries) left (omega arith))
