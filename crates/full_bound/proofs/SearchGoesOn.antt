-- A search goes on by an arrival.
use Rattle.std.proofs.Common.{◌≡◌, ◌∙◌, ℕ, zero, suc, ◌+◌, ◌*◌, ◌<◌, ◌≤◌, inl, inr, Bool, true, false, cond, List, [], ◌∷◌, ◌++◌, length}
use Rattle.std.proofs.Common.{set, get_or}
use Rattle.std.proofs.Common.{Some, slice_get, Contains, Vec, refl, sym, ap, subst, arith, replicate, length-append}
use Rattle.std.specs.Prelude.{unwrap_or, option_map}
use Rattle.std.specs.List.{AllByRecursion}
use Rattle.std.specs.declared.alloc.Global.{Global}
use Rattle.std.proofs.lemmas.Bool.{false≢true, cases_lt}
use Rattle.std.proofs.lemmas.Bool.Decides.{eqb_tells}
use Rattle.std.proofs.lemmas.Option.{none-some, same_Some, slice_get-map, slice_get-get_or, slice_get_within}
use Rattle.std.proofs.lemmas.List.{length-set, length-replicate}
use Rattle.base_library.proofs.Each.{each_joined, each_weaker, each_contained}
use Rattle.base_library.proofs.Places.{slice_get_set, slice_get_set_same, slice_get_push, slice_get_grown, slice_get-behind, slice_get_some}
use Rattle.full_bound.specs.declared.search.Step.{Step}
use Rattle.full_bound.specs.declared.search.Arrival.{Arrival}
use Rattle.full_bound.specs.internal.Search.{steps_from, flags_with, arrivals_with, unset, search_left, Comes, IsSearch, IsVisited}
use Rattle.full_bound.specs.internal.Search.{GoesOn, IsSearched}

pub steps_at : (table : List (Vec Step Global)) (n : ℕ) (d : Vec Step Global) → n < length table → (get_or table n d).items
    ≡ steps_from table n
steps_at table n d within = sym (ap (λ o. unwrap_or o [])
    (slice_get-map (λ (v : Vec Step Global). v.items) table n ∙ ap (option_map (λ (v : Vec Step Global). v.items))
    (slice_get-get_or table n d within)))

unset_set : (flags : List Bool) (n : ℕ) → slice_get flags n ≡ Some false → unset (set flags n true) + 1 ≡ unset flags
unset_set [] n at = absurd (none-some false at)
unset_set (b ∷ bs) zero at =
    let same : b ≡ false = same_Some b false at in
    let one : cond {A = ℕ} b 0 1 ≡ 1 = ap (λ c. cond c 0 1) same in
    omega (arith, one)
unset_set (b ∷ bs) (suc n) at = let r = unset_set bs n at in omega (arith, r)

module _ (steps : ℕ → List Step) (nodes : ℕ) where
  pub stays : (flags : List Bool) (arrivals : List Arrival) → IsSearch steps nodes flags arrivals →
      GoesOn steps nodes flags arrivals flags arrivals
  stays flags arrivals search = record {
    search = search;
    flags_stay = λ p at. at;
    arrivals_stay = λ i a at. at;
    less = omega arith;
  }

  pub on_and_on : (f0 f1 f2 : List Bool) (a0 a1 a2 : List Arrival) → GoesOn steps nodes f0 a0 f1 a1 → GoesOn steps nodes f1 a1 f2 a2 →
      GoesOn steps nodes f0 a0 f2 a2
  on_and_on f0 f1 f2 a0 a1 a2 first second = record {
    search = second.search;
    flags_stay = λ p at. second.flags_stay p (first.flags_stay p at);
    arrivals_stay = λ i a at. second.arrivals_stay i a (first.arrivals_stay i a at);
    less = let x = first.less in let y = second.less in omega (arith, x, y);
  }

  module _ (flags : List Bool) (arrivals : List Arrival) (search : IsSearch steps nodes flags arrivals) (a b : Arrival) (s : Step)
      (previous : slice_get arrivals a.previous ≡ Some b) (stands : Contains (steps b.node) s) (to : s.to ≡ a.node)
      (letter : s.letter ≡ a.letter) (within : a.node < nodes) where
    pub arrived : GoesOn steps nodes flags arrivals (flags_with flags a.node) (arrivals_with flags arrivals a)
        × (slice_get (flags_with flags a.node) a.node ≡ Some true)
    arrived = by (get_or flags a.node true) refl
      where
        here : slice_get flags a.node ≡ Some (get_or flags a.node true)
        here = slice_get-get_or flags a.node true (let z = search.size in omega (arith, z, within))

        stay : (p : ℕ) → slice_get flags p ≡ Some true → slice_get (set flags a.node true) p ≡ Some true
        stay p at = elim (eqb_tells p a.node) [
          | inl same ↦ ap (slice_get (set flags a.node true)) same.1
              ∙ slice_get_set_same flags a.node true (let z = search.size in omega (arith, z, within))
          | inr other ↦ slice_get_set flags a.node p true other.1 ∙ at
        ]

        came : Comes steps nodes (arrivals ++ a ∷ []) (length arrivals) a
        came = inr (
          b,
          s,
          slice_get_within arrivals a.previous b previous,
          slice_get_grown arrivals (a ∷ []) a.previous b previous,
          stands,
          to,
          letter,
        )

        kept : (i : ℕ) (d : Arrival) → Comes steps nodes arrivals i d → Comes steps nodes (arrivals ++ a ∷ []) i d
        kept i d (inl first) = inl first
        kept i d (inr (c, r, less, at, there, leads, reads)) = inr (
          c,
          r,
          less,
          slice_get_grown arrivals (a ∷ []) d.previous c at,
          there,
          leads,
          reads,
        )

        grown : slice_get flags a.node ≡ Some false → IsSearch steps nodes (set flags a.node true) (arrivals ++ a ∷ [])
        grown fresh = record {
          size = length-set flags a.node true ∙ search.size;
          flagged = λ i d at. elim (slice_get_push arrivals a i d at) [
            | inl old ↦ stay d.node (search.flagged i d old.1)
            | inr new ↦ ap (λ c. slice_get (set flags a.node true) c.node) (sym new.1)
                ∙ slice_get_set_same flags a.node true (let z = search.size in omega (arith, z, within))
          ];
          arrives = λ p at. elim (eqb_tells p a.node) [
            | inl same ↦ (length arrivals, a, slice_get-behind arrivals a [], sym same.1)
            | inr other ↦
                let r = search.arrives p (sym (slice_get_set flags a.node p true other.1) ∙ at) in
                (r.0, r.1, slice_get_grown arrivals (a ∷ []) r.0 r.1 r.2, r.3)
          ];
          comes = λ i d at. elim (slice_get_push arrivals a i d at) [
            | inl old ↦ kept i d (search.comes i d old.1)
            | inr new ↦ subst (λ c. Comes steps nodes (arrivals ++ a ∷ []) i c) new.1
                (subst (λ k. Comes steps nodes (arrivals ++ a ∷ []) k a) (sym new.0) came)
          ];
        }

        by : (v : Bool) → get_or flags a.node true ≡ v
            → GoesOn steps nodes flags arrivals (cond v flags (set flags a.node true)) (cond v arrivals (arrivals ++ a ∷ []))
            × (slice_get (cond v flags (set flags a.node true)) a.node ≡ Some true)
        by true is = (stays flags arrivals search, here ∙ ap Some is)
        by false is =
            let fresh : slice_get flags a.node ≡ Some false = here ∙ ap Some is in
            let fewer = unset_set flags a.node fresh in
            let long = length-append arrivals (a ∷ []) in (
              record {
                search = grown fresh;
                flags_stay = stay;
                arrivals_stay = λ i d at. slice_get_grown arrivals (a ∷ []) i d at;
                less = omega (arith, fewer, long);
              },
              slice_get_set_same flags a.node true (let z = search.size in omega (arith, z, within)),
            )

  -- one step more
  pub one_more : (f0 f1 f2 : List Bool) (a0 a1 a2 : List Arrival) (b a : Arrival) (s : Step) (taken : List Step)
      → GoesOn steps nodes f0 a0 f1 a1 × AllByRecursion (λ r. slice_get f1 r.to ≡ Some true) taken
      → slice_get a0 a.previous ≡ Some b → Contains (steps b.node) s → s.to ≡ a.node → s.letter ≡ a.letter → a.node < nodes
      → f2 ≡ flags_with f1 a.node → a2 ≡ arrivals_with f1 a1 a
      → GoesOn steps nodes f0 a0 f2 a2 × AllByRecursion (λ r. slice_get f2 r.to ≡ Some true) (taken ++ s ∷ [])
  one_more f0 f1 f2 a0 a1 a2 b a s taken so_far previous stands to letter within flags_are arrivals_are =
      let r = arrived f1 a1 so_far.0.search a b s (so_far.0.arrivals_stay a.previous b previous) stands to letter within in
      let go : GoesOn steps nodes f1 a1 f2 a2 =
      subst (λ f. GoesOn steps nodes f1 a1 f a2) (sym flags_are)
      (subst (λ d. GoesOn steps nodes f1 a1 (flags_with f1 a.node) d) (sym arrivals_are) r.0) in
      let there : slice_get f2 s.to ≡ Some true = (λ i. slice_get (flags_are i) (to i)) ∙ r.1 in (
        on_and_on f0 f1 f2 a0 a1 a2 so_far.0 go,
        each_joined (λ r. slice_get f2 r.to ≡ Some true) taken (s ∷ [])
            (each_weaker (λ r. slice_get f1 r.to ≡ Some true) (λ r. slice_get f2 r.to ≡ Some true) (λ r at. go.flags_stay r.to at) taken
            so_far.1)
            (there, tt),
      )

  -- one arrival visited more
  pub visited : (f0 f1 : List Bool) (a0 a1 : List Arrival) (place : ℕ) (b : Arrival) → IsVisited steps nodes f0 a0 place
      → GoesOn steps nodes f0 a0 f1 a1 → slice_get a0 place ≡ Some b → AllByRecursion (λ r. slice_get f1 r.to ≡ Some true) (steps b.node)
      → IsVisited steps nodes f1 a1 (place + 1)
  visited f0 f1 a0 a1 place b before go at each i a less is s stands = elim (cases_lt i place) [
    | inl old ↦
        let r = slice_get_some a0 i (let w = slice_get_within a0 place b at in omega (arith, old, w)) in
        let same : r.0 ≡ a = same_Some r.0 a (sym (go.arrivals_stay i r.0 r.1) ∙ is) in
        go.flags_stay s.to (before i a old (r.1 ∙ ap Some same) s stands)
    | inr last ↦
        let e : i ≡ place = omega (arith, last, less) in
        let same : b ≡ a = same_Some b a (sym (go.arrivals_stay place b at) ∙ ap (slice_get a1) (sym e) ∙ is) in
        each_contained (λ r. slice_get f1 r.to ≡ Some true) (steps b.node) s each (subst (λ d. Contains (steps d.node) s) (sym same) stands)
  ]

  pub finished : (flags : List Bool) (arrivals : List Arrival) (place : ℕ) → IsSearch steps nodes flags arrivals
      → IsVisited steps nodes flags arrivals place → length arrivals ≤ place → IsSearched steps nodes flags arrivals
  finished flags arrivals place search done past = record {
    search = search;
    closed = λ p s at stands.
        let r = search.arrives p at in
        let w = slice_get_within arrivals r.0 r.1 r.2 in
        done r.0 r.1 (omega (arith, w, past)) r.2 s (subst (λ q. Contains (steps q) s) (sym r.3) stands);
  }

  unset_replicate : (n : ℕ) → unset (replicate n false) ≡ n
  unset_replicate zero = refl
  unset_replicate (suc n) = let rest = unset_replicate n in omega (arith, rest)

  all_unset : (n p : ℕ) → slice_get (replicate n false) p ≡ Some true → ⊥
  all_unset zero p at = none-some true at
  all_unset (suc n) zero at = false≢true (same_Some false true at)
  all_unset (suc n) (suc p) at = all_unset n p at

  -- the first arrival
  pub begun : (f0 flags : List Bool) (a0 arrivals : List Arrival) (a : Arrival) → f0 ≡ replicate nodes false → a0 ≡ [] → a.node < nodes
      → flags ≡ flags_with f0 a.node → arrivals ≡ arrivals_with f0 a0 a
      → IsSearch steps nodes flags arrivals × (arrivals ≡ a ∷ []) × (search_left flags arrivals ≤ 2 * nodes)
  begun f0 flags a0 arrivals a unset_all none within flags_are arrivals_are = by (get_or f0 a.node true) refl
    where
      size : length f0 ≡ nodes
      size = ap length unset_all ∙ length-replicate nodes false

      here : slice_get f0 a.node ≡ Some (get_or f0 a.node true)
      here = slice_get-get_or f0 a.node true (omega (arith, size, within))

      by : (v : Bool) → get_or f0 a.node true ≡ v →
          IsSearch steps nodes flags arrivals × (arrivals ≡ a ∷ []) × (search_left flags arrivals ≤ 2 * nodes)
      by true is = absurd (all_unset nodes a.node (ap (λ f. slice_get f a.node) (sym unset_all) ∙ here ∙ ap Some is))
      by false is =
          let flags_set : flags ≡ set f0 a.node true = flags_are ∙ ap (λ v. cond v f0 (set f0 a.node true)) is in
          let one : arrivals ≡ a ∷ [] = arrivals_are ∙ ap (λ v. cond v a0 (a0 ++ a ∷ [])) is ∙ ap (λ d. d ++ a ∷ []) none in
          let there : slice_get flags a.node ≡ Some true = ap (λ f. slice_get f a.node) flags_set
          ∙ slice_get_set_same f0 a.node true (omega (arith, size, within)) in (
            record {
              size = ap length flags_set ∙ length-set f0 a.node true ∙ size;
              flagged = λ i d at. flagged there one i d at;
              arrives = λ p at. arrives flags_set one p at;
              comes = λ i d at. comes one i d at;
            },
            one,
            (
                let fewer = unset_set f0 a.node (here ∙ ap Some is) in
                let all = ap unset unset_all ∙ unset_replicate nodes in
                let left = ap unset flags_set in
                let many = ap length one in
                omega (arith, fewer, all, left, many)
                ),
          )
        where
          flagged : slice_get flags a.node ≡ Some true → arrivals ≡ a ∷ [] → (i : ℕ) (d : Arrival) → slice_get arrivals i ≡ Some d →
              slice_get flags d.node ≡ Some true
          flagged there one zero d at =
              let same : a ≡ d = same_Some a d (ap (λ ds. slice_get ds 0) (sym one) ∙ at) in ap (λ c. slice_get flags c.node) (sym same)
              ∙ there
          flagged there one (suc i) d at = absurd (none-some d (ap (λ ds. slice_get ds (suc i)) (sym one) ∙ at))

          arrives : flags ≡ set f0 a.node true → arrivals ≡ a ∷ [] → (p : ℕ) → slice_get flags p ≡ Some true →
              (i : ℕ) × (d : Arrival) × (slice_get arrivals i ≡ Some d) × (d.node ≡ p)
          arrives flags_set one p at = elim (eqb_tells p a.node) [
            | inl same ↦ (0, a, ap (λ ds. slice_get ds 0) one, sym same.1)
            | inr other ↦ absurd (all_unset nodes p (ap (λ f. slice_get f p) (sym unset_all)
                ∙ sym (slice_get_set f0 a.node p true other.1) ∙ ap (λ f. slice_get f p) (sym flags_set) ∙ at))
          ]

          comes : arrivals ≡ a ∷ [] → (i : ℕ) (d : Arrival) → slice_get arrivals i ≡ Some d → Comes steps nodes arrivals i d
          comes one zero d at = inl refl
          comes one (suc i) d at = absurd (none-some d (ap (λ ds. slice_get ds (suc i)) (sym one) ∙ at))
