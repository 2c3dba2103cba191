-- Each variable that is not set is in the queue.
use Rattle.std.proofs.Common.{◌≡◌, ℕ, ◌+◌, ◌<◌, ◌≤◌, true, false, not, ◌&&◌, ◌||◌, List, [], ◌∷◌, ◌++◌, length, Option, Some}
use Rattle.std.proofs.Common.{get_or, None, slice_get, sym, ap, ◌∙◌, subst, refl, arith, eqb, inl, inr}
use Rattle.std.proofs.lemmas.Bool.{true≢false, and_from, not_from_false, or_left, or_right, cases_eq, cases_lt, ne_eqb, eq-eqb}
use Rattle.std.proofs.lemmas.Option.{none-some, same_Some}
use Rattle.sat_trail.specs.declared.entries.Entry.{Entry}
use Rattle.sat_trail.specs.Entries.{place_of}
use Rattle.sat_trail.specs.States.{TrailState, IsSound, Propagates, up_to}
use Rattle.sat_trail.proofs.Places.{place_found, place_from-front, place_from-after, place_here, unset_has}
use Rattle.clause_learning.specs.declared.queue.VariableQueue.{VariableQueue}
use Rattle.clause_learning.specs.declared.choices.Decisions.{Decisions}
use Rattle.clause_learning.specs.Queues.{IsVariableQueue, IsNext, variable_count, is_queued}
use Rattle.clause_learning.specs.Decisions.{AreSet, AreForEach, AreDecisions, IsNextUnset}
use Rattle.clause_learning.specs.Tournaments.{is_before}
use Rattle.clause_learning.proofs.Queueing.{queued_below}
use Rattle.clause_learning.proofs.Analysing.{up_to_has}

still_set : (es added : List Entry) (index : ℕ) → (place_of es index ≡ None → ⊥) → place_of (es ++ added) index ≡ None → ⊥
still_set es added index set_before none = by_place (place_of es index) refl
  where
    by_place : (o : Option ℕ) → place_of es index ≡ o → ⊥
    by_place None is = set_before is
    by_place (Some p) is = none-some p (sym none ∙ place_from-front 0 es added index p is)

-- what is not set in more entries is not set in these
unset_before : (es added : List Entry) (index : ℕ) → place_of (es ++ added) index ≡ None → place_of es index ≡ None
unset_before es added index none = by_place (place_of es index) refl
  where
    by_place : (o : Option ℕ) → place_of es index ≡ o → place_of es index ≡ None
    by_place None is = is
    by_place (Some p) is = absurd (none-some p (sym none ∙ place_from-front 0 es added index p is))

-- a variable of the entry at the end is set
set_at_end : (es : List Entry) (e : Entry) (index : ℕ) → e.literal.index ≡ index → place_of es index ≡ None →
    place_of (es ++ e ∷ []) index ≡ None → ⊥
set_at_end es e index is none later = none-some (0 + length es)
    (sym later ∙ (place_from-after 0 es (e ∷ []) index none ∙ place_here (0 + length es) e [] index is))

-- more entries
pub decisions_grown : (variables : ℕ) (es added : List Entry) (d : Decisions) → AreDecisions variables es d →
    AreDecisions variables (es ++ added) d
decisions_grown variables es added d are = record {
  each = are.each;
  queued = λ index below none. are.queued index below (unset_before es added index none);
}

pub decisions_propagated : (t u : TrailState) (d : Decisions) → Propagates t u → AreDecisions t.variables t.entries d →
    AreDecisions u.variables u.entries d
decisions_propagated t u d grows are = subst (λ (s : TrailState). AreDecisions s.variables s.entries d) (sym grows.rest_stays)
    (decisions_grown t.variables t.entries grows.added d are)

-- where no variable is in the queue, all are set
pub none_unset : (variables : ℕ) (es : List Entry) (d : Decisions) → AreDecisions variables es d →
    ((variable : ℕ) → is_queued d.queue variable ≡ false) → AreSet es variables
none_unset variables es d are none = λ index below unset. true≢false (sym (are.queued index below unset) ∙ none index)

module _ (variables : ℕ) (es : List Entry) (d : Decisions) (queue : VariableQueue) (index : ℕ) (are : AreDecisions variables es d)
    (is_queue : IsVariableQueue queue) (count : variable_count queue ≡ variable_count d.queue)
    (others : (variable : ℕ) → is_queued queue variable ≡ (is_queued d.queue variable && not (eqb variable index))) where
  left : (other : ℕ) → other < variables → place_of es other ≡ None → (other ≡ index → ⊥) → is_queued queue other ≡ true
  left other below unset apart = others other ∙ and_from (is_queued d.queue other) (not (eqb other index)) (are.queued other below unset)
      (not_from_false (eqb other index) (ne_eqb other index apart))

  each_popped : (n : Decisions) → n.queue ≡ queue → length n.phases.items ≡ length d.phases.items →
      AreForEach variables n.queue n.phases.items
  each_popped n is phases = record {
    queue = subst IsVariableQueue (sym is) is_queue;
    one_activity_each = ap variable_count is ∙ (count ∙ are.one_activity_each);
    one_value_each = phases ∙ are.one_value_each;
  }

  -- a variable that is set is taken out
  pub decisions_popped : (place_of es index ≡ None → ⊥) → (n : Decisions) → n.queue ≡ queue → length n.phases.items ≡ length d.phases.items →
      AreDecisions variables es n
  decisions_popped set n is phases = record {
    each = each_popped n is phases;
    queued = λ other below unset. ap (λ (q : VariableQueue). is_queued q other) is
        ∙ left other below unset (λ same. set (ap (place_of es) (sym same) ∙ unset));
  }

  -- a variable is taken out that is set at the next place
  pub decisions_set : (place_of es index ≡ None) → (n : Decisions) → n.queue ≡ queue → length n.phases.items ≡ length d.phases.items →
      (e : Entry) → e.literal.index ≡ index → AreDecisions variables (es ++ e ∷ []) n
  decisions_set none n is phases e here = record {
    each = each_popped n is phases;
    queued = λ other below unset. ap (λ (q : VariableQueue). is_queued q other) is
        ∙ left other below (unset_before es (e ∷ []) other unset)
        (λ same. set_at_end es e other (here ∙ sym same) (unset_before es (e ∷ []) other unset) unset);
  }

-- the first of the queue that is not set is decided next
pub next_unset : (variables : ℕ) (es : List Entry) (d now : Decisions) (index : ℕ) → AreDecisions variables es now →
    now.queue.activities.items ≡ d.queue.activities.items → IsNext now.queue index → place_of es index ≡ None → IsNextUnset es variables d.queue index
next_unset variables es d now index are activities next none = record {
  unset = record { over = (let below = queued_below now.queue are.queue.queue index next.queued in omega (arith, below, are.one_activity_each)); unset = none };
  first = λ o unset apart. subst (λ (xs : List ℕ). is_before (record { activity = get_or xs index 0; variable = index })
      (record { activity = get_or xs o 0; variable = o }) ≡ true) activities (next.first o (are.queued o unset.over unset.unset) apart);
}

-- ---- what is taken back

-- the variables of the entries from a place on are in the queue
abbrev pub AreGiven : List Entry → ℕ → VariableQueue → Type 0
AreGiven es place queue = (k : ℕ) (e : Entry) → place ≤ k → slice_get es k ≡ Some e → is_queued queue e.literal.index ≡ true

pub given_more : (es : List Entry) (last : ℕ) (e : Entry) (before after : VariableQueue) → slice_get es last ≡ Some e →
    ((other : ℕ) → is_queued after other ≡ (is_queued before other || eqb other e.literal.index)) → AreGiven es (last + 1) before →
    AreGiven es last after
given_more es last e before after at added given k d low at_k = elim (cases_eq k last) [
  | inl is ↦ (let same_entry : e ≡ d = same_Some e d (sym at ∙ (ap (slice_get es) (sym is) ∙ at_k)) in
      added d.literal.index ∙ or_right (is_queued before d.literal.index) (eqb d.literal.index e.literal.index)
      (eq-eqb d.literal.index e.literal.index (ap (λ (x : Entry). x.literal.index) (sym same_entry))))
  | inr apart ↦ added d.literal.index ∙ or_left (is_queued before d.literal.index) (eqb d.literal.index e.literal.index)
      (given k d (omega arith) at_k)
]

pub decisions_given : (variables : ℕ) (es : List Entry) (d n : Decisions) (index : ℕ) → AreDecisions variables es d →
    AreForEach (variable_count d.queue) n.queue n.phases.items →
    ((other : ℕ) → is_queued n.queue other ≡ (is_queued d.queue other || eqb other index)) → AreDecisions variables es n
decisions_given variables es d n index are each added = record {
  each = subst (λ (k : ℕ). AreForEach k n.queue n.phases.items) are.one_activity_each each;
  queued = λ other below unset. added other ∙ or_left (is_queued d.queue other) (eqb other index) (are.queued other below unset);
}

-- where the entries above a level are given back, the others alone need be set
pub decisions_left : (t : TrailState) → IsSound t → (d : Decisions) (level place : ℕ) → AreDecisions t.variables t.entries d →
    AreGiven t.entries place d.queue → ((k : ℕ) (e : Entry) → slice_get t.entries k ≡ Some e → k < place → e.level ≤ level) →
    AreDecisions t.variables (up_to level t.entries) d
decisions_left t sound d level place are given low = record {
  each = are.each;
  queued = λ index below unset. by_place index below unset (place_of t.entries index) refl;
}
  where
    by_place : (index : ℕ) → index < t.variables → place_of (up_to level t.entries) index ≡ None → (o : Option ℕ) →
        place_of t.entries index ≡ o → is_queued d.queue index ≡ true
    by_place index below unset None is = are.queued index below is
    by_place index below unset (Some p) is =
        let r = place_found 0 t.entries index p is in
        let e = r.2.entry in
        elim (cases_lt r.0 place) [
          | inl before ↦ absurd (true≢false (sym (up_to_has level t.entries r.0 e r.2.there (low r.0 e r.2.there before))
              ∙ unset_has 0 (up_to level t.entries) e.literal (ap (place_of (up_to level t.entries)) r.2.is ∙ unset)))
          | inr behind ↦ ap (is_queued d.queue) (sym r.2.is) ∙ given r.0 e behind r.2.there
        ]

-- where all entries are given back, none need be set
pub decisions_freed : (t : TrailState) (d : Decisions) → AreDecisions t.variables t.entries d → AreGiven t.entries 0 d.queue →
    AreDecisions t.variables [] d
decisions_freed t d are given = record {
  each = are.each;
  queued = λ index below unset. by_place index below (place_of t.entries index) refl;
}
  where
    by_place : (index : ℕ) → index < t.variables → (o : Option ℕ) → place_of t.entries index ≡ o → is_queued d.queue index ≡ true
    by_place index below None is = are.queued index below is
    by_place index below (Some p) is =
        let r = place_found 0 t.entries index p is in
        ap (is_queued d.queue) (sym r.2.is) ∙ given r.0 r.2.entry (omega arith) r.2.there

-- what is to be decided again does not matter
pub decisions_repeated : (variables : ℕ) (es : List Entry) (d n : Decisions) → n ≡ record d { repeated = n.repeated } →
    AreDecisions variables es d → AreDecisions variables es n
decisions_repeated variables es d n rest are = subst (AreDecisions variables es) (sym rest)
    (record { each = are.each; queued = are.queued })
