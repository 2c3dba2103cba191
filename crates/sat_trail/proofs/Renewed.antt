-- A watch that has another blocker of its clause is still a watch of it.
use Rattle.std.proofs.Common.{◌≡◌, ℕ, List, length, Some, slice_get, sym, ap, ◌∙◌, subst, arith, inl, inr, ◌⊎◌}
use Rattle.std.proofs.lemmas.Option.{same_Some, slice_get_within}
use Rattle.std.proofs.lemmas.Bool.{cases_eq}
use Rattle.clause_core.specs.Literals.{Lit, code_of}
use Rattle.sat_trail.specs.States.{TrailState}
use Rattle.sat_trail.specs.declared.watches.Watch.{Watch}
use Rattle.sat_trail.specs.declared.watches.Watches.{Watches}
use Rattle.sat_trail.specs.internal.Watching.{HasWatch, RenewsWatch, IsBlocked, AreWatched, AreDue, Visits}
use Rattle.sat_trail.proofs.TrailSteps.{propagates_none}
use Rattle.sat_trail.proofs.WatchLists.{has_watch_same}
use Rattle.sat_trail.proofs.Visits.{HasOther, other_in, clause_within, visits_on}

module _ {t : TrailState} {w v : Watches} {f : Lit} {index : ℕ} {watch : Watch} {blocker : Lit}
    (o : HasOther t w f index watch blocker)
    (renews : RenewsWatch w.lists.items (code_of f) index blocker v.lists.items) (is : v ≡ record w { lists = v.lists }) where
  open o.read use {ready.{watched}, visiting.{visit}, visiting.visit.list.{list, listed}, there}

  abbrev renewed : Watch
  renewed = record watch { blocker = blocker }

  -- each watch of a clause is still there
  has_renewed : (code number k : ℕ) → HasWatch w.lists.items code number k → HasWatch v.lists.items code number k
  has_renewed code number k h = elim (cases_eq code (code_of f)) [
    | inr n ↦ has_watch_same (renews.others code n) h
    | inl e ↦ (let r = renews.here list listed in
        let same : h.list ≡ list = same_Some h.list list (sym h.listed ∙ (ap (slice_get w.lists.items) e ∙ listed)) in
        let at : slice_get list k ≡ Some h.watch = ap (λ (xs : List Watch). slice_get xs k) (sym same) ∙ h.there in
        elim (cases_eq k index) [
          | inl i ↦ record {
            list = r.0;
            watch = renewed;
            listed = ap (slice_get v.lists.items) e ∙ r.1;
            there = ap (slice_get r.0) i ∙ r.2.here watch there;
            names = ap (λ (x : Watch). x.clause) (same_Some watch h.watch (sym there ∙ (ap (slice_get list) (sym i) ∙ at))) ∙ h.names;
          }
          | inr n ↦ record {
            list = r.0;
            watch = h.watch;
            listed = ap (slice_get v.lists.items) e ∙ r.1;
            there = r.2.others k n ∙ at;
            names = h.names;
          }
        ])
  ]

  -- each watch was there, or is the renewed one
  renewed_was : (code k : ℕ) (l : List Watch) (x : Watch) → slice_get v.lists.items code ≡ Some l → slice_get l k ≡ Some x →
      ((before : List Watch) × (slice_get w.lists.items code ≡ Some before) × (slice_get before k ≡ Some x)) ⊎ (renewed ≡ x)
  renewed_was code k l x now at = elim (cases_eq code (code_of f)) [
    | inr n ↦ inl (l, sym (renews.others code n) ∙ now, at)
    | inl e ↦ (let r = renews.here list listed in
        let same : r.0 ≡ l = same_Some r.0 l (sym r.1 ∙ (ap (slice_get v.lists.items) (sym e) ∙ now)) in
        let there' : slice_get r.0 k ≡ Some x = ap (λ (xs : List Watch). slice_get xs k) same ∙ at in
        elim (cases_eq k index) [
          | inl i ↦ inr (same_Some renewed x (sym (r.2.here watch there) ∙ (ap (slice_get r.0) (sym i) ∙ there')))
          | inr n ↦ inl (list, ap (slice_get w.lists.items) e ∙ listed, sym (r.2.others k n) ∙ there')
        ])
  ]

  watched_renewed : AreWatched t v
  watched_renewed = subst (AreWatched t) (sym is) (record {
    listing = record {
      lists_all = renews.all ∙ watched.lists_all;
      pairs_few = watched.pairs_few;
      blocked = λ code k l x now at. elim (renewed_was code k l x now at) [
        | inl p ↦ watched.blocked code k p.0 x p.1 p.2
        | inr e ↦ subst (IsBlocked t.clauses (length w.pairs.items)) e (clause_within o.read, other_in o)
      ];
      paired = watched.paired;
      listed = λ number pair l at of. (let r = watched.listed number pair l at of in (r.0, has_renewed (code_of l) number r.0 r.1));
    };
    head_few = watched.head_few;
    asides = watched.asides;
    excused = watched.excused;
    unpaired = watched.unpaired;
  })

  pub visits_renewed : Visits t t v f index
  visits_renewed = visits_on visit (propagates_none t) watched_renewed (let r = renews.here list listed in
      record { list = r.0; listed = r.1; long = omega (arith, slice_get_within list index watch there, r.2.all) })
      (is ∙ ap (λ (x : Watches). record w { lists = v.lists; pairs = x.pairs }) (sym is))

  pub due_renewed : AreDue t w f index → AreDue t v f index
  due_renewed due = subst (λ (x : Watches). AreDue t x f index) (sym is)
      (λ number clause pair named at of. elim (due number clause pair named at of) [
        | inl e ↦ inl e
        | inr r ↦ inr (r.0, r.1, has_renewed (code_of f) number r.0 r.2)
      ])
