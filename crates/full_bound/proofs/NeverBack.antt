-- What a search leaves out is led to by no walk.
use Rattle.std.proofs.Common.{◌≡◌, ◌∙◌, ℕ, ◌<◌, inl, inr, Bool, true, false, ◌||◌, List, [], ◌∷◌, ◌++◌, reverse, Option, Some, slice_get}
use Rattle.std.proofs.Common.{Contains, refl, sym, ap, subst, arith}
use Rattle.std.specs.Prelude.{IfSome, IfNone, None}
use Rattle.std.specs.List.{list_any, AllByRecursion}
use Rattle.std.proofs.lemmas.Bool.{false≢true, or_left}
use Rattle.std.proofs.lemmas.Option.{same_Some}
use Rattle.std.proofs.lemmas.List.{reverse-append}
use Rattle.base_library.proofs.Each.{each_contained}
use Rattle.full_bound.specs.declared.search.Step.{Step}
use Rattle.full_bound.specs.declared.search.Arrival.{Arrival}
use Rattle.full_bound.specs.internal.Search.{IsSearch, IsSearched, Comes}
use Rattle.full_bound.specs.internal.Turning.{step_to, step_rejects, Walk, Turn, NeverBack, IsSpelled, IsTurn}
use Rattle.full_bound.proofs.Walks.{walk_both}

pub if_some : {A : Type 0} (P : A → Type 0) (o : Option A) (x : A) → o ≡ Some x → IfSome o P → P x
if_some P o x is h = subst (λ p. IfSome p P) is h

pub if_none : {A : Type 0} (P : Type 0) (o : Option A) → o ≡ None → IfNone o P → P
if_none P o is h = subst (λ p. IfNone p P) is h

reverse-push : {A : Type 0} (xs : List A) (x : A) → reverse (xs ++ x ∷ []) ≡ x ∷ reverse xs
reverse-push xs x = reverse-append xs (x ∷ [])

module _ (steps : ℕ → List Step) (nodes : ℕ) where
  pub has_walk : (flags : List Bool) (arrivals : List Arrival) → IsSearched steps nodes flags arrivals → (p : ℕ) (ss : List Step) (r : ℕ)
      → slice_get flags p ≡ Some true → Walk steps p ss r → slice_get flags r ≡ Some true
  has_walk flags arrivals searched p [] r at walk = ap (slice_get flags) (sym walk) ∙ at
  has_walk flags arrivals searched p (s ∷ ss) r at walk =
      has_walk flags arrivals searched s.to ss r (searched.closed p s at walk.0) walk.1

  -- a node that is not flagged is led to by no walk from the first one
  pub not_back : (flags : List Bool) (arrivals : List Arrival) (p : ℕ) (s : Step) → IsSearched steps nodes flags arrivals
      → ((a : Arrival) × (slice_get arrivals 0 ≡ Some a) × (a.node ≡ s.to)) → slice_get flags p ≡ Some false → NeverBack steps p s
  not_back flags arrivals p s searched first out rejects ss walk =
      let start : slice_get flags s.to ≡ Some true = ap (slice_get flags) (sym first.2) ∙ searched.search.flagged 0 first.0 first.1 in
      false≢true (same_Some false true (sym out ∙ has_walk flags arrivals searched s.to ss p start walk))

  -- a rejecting step of a walk, and what is walked before and after it
  record Split (p : ℕ) (r : ℕ) : Type 0 where
    node : ℕ
    step : Step
    before : List Step
    after : List Step
    to_node : Walk steps p before node
    stands : Contains (steps node) step
    rejects : step.rejecting ≡ true
    on : Walk steps step.to after r

  split : (p : ℕ) (ss : List Step) (r : ℕ) → Walk steps p ss r → list_any step_rejects ss ≡ true → Split p r
  split p [] r walk some = absurd (false≢true some)
  split p (s ∷ ss) r walk some = by s.rejecting refl some (split s.to ss r walk.1)
    where
      by : (b : Bool) → s.rejecting ≡ b → (b || list_any step_rejects ss) ≡ true → (list_any step_rejects ss ≡ true → Split s.to r) →
          Split p r
      by true is some rest = record {
        node = p;
        step = s;
        before = [];
        after = ss;
        to_node = refl;
        stands = walk.0;
        rejects = is;
        on = walk.1;
      }
      by false is some rest = let t = rest some in record {
        node = t.node;
        step = t.step;
        before = s ∷ t.before;
        after = t.after;
        to_node = (walk.0, t.to_node);
        stands = t.stands;
        rejects = t.rejects;
        on = t.on;
      }

  -- where no step of an arrival leads back, nothing turns
  pub no_turn : (flags : List Bool) (arrivals : List Arrival) → IsSearched steps nodes flags arrivals
      → ((a : Arrival) × (slice_get arrivals 0 ≡ Some a) × (a.node ≡ 0))
      → ((i : ℕ) (a : Arrival) → slice_get arrivals i ≡ Some a → AllByRecursion (NeverBack steps a.node) (steps a.node)) → Turn steps → ⊥
  no_turn flags arrivals searched first never turn =
      let s = split turn.node turn.turn turn.node turn.back turn.passes in
      let start : slice_get flags 0 ≡ Some true = ap (slice_get flags) (sym first.2) ∙ searched.search.flagged 0 first.0 first.1 in
      let at_turn = has_walk flags arrivals searched 0 turn.stem turn.node start turn.to_node in
      let at_step = has_walk flags arrivals searched turn.node s.before s.node at_turn s.to_node in
      let a = searched.search.arrives s.node at_step in
      let each = subst (λ n. AllByRecursion (NeverBack steps n) (steps n)) a.3 (never a.0 a.1 a.2) in
      each_contained (NeverBack steps s.node) (steps s.node) s.step each s.stands s.rejects (s.after ++ s.before)
      (walk_both steps step_to step_rejects s.step.to s.after s.before turn.node s.node s.on s.to_node)

  -- the way to an arrival, a step longer at its front
  pub way_on : (flags : List Bool) (arrivals : List Arrival) (at place : ℕ) (here a b : Arrival) (letters : List ℕ)
      → IsSearch steps nodes flags arrivals → slice_get arrivals at ≡ Some here → 0 < at → slice_get arrivals here.previous ≡ Some a
      → IsSpelled steps here.node b.node (reverse letters) → IsSpelled steps a.node b.node (reverse (letters ++ here.letter ∷ []))
  way_on flags arrivals at place here a b letters search is late previous so_far = by (search.comes at here is)
    where
      by : Comes steps nodes arrivals at here → IsSpelled steps a.node b.node (reverse (letters ++ here.letter ∷ []))
      by (inl first) = absurd (omega (arith, first, late))
      by (inr (c, s, less, there, stands, to, letter)) =
          let same : c ≡ a = same_Some c a (sym there ∙ previous) in (
            s ∷ so_far.0,
            (
              subst (λ d. Contains (steps d.node) s) same stands,
              subst (λ n. Walk steps n so_far.0 b.node) (sym to) so_far.1,
            ),
            (λ i. letter i ∷ so_far.2 i) ∙ sym (reverse-push letters here.letter),
          )

  pub turn_made : (p : ℕ) (s : Step) (stem rest turn : List ℕ) → IsSpelled steps 0 p stem → Contains (steps p) s → s.rejecting ≡ true
      → IsSpelled steps s.to p rest → turn ≡ s.letter ∷ rest → IsTurn steps stem turn
  turn_made p s stem rest turn to stands rejects back is = (
    record {
      node = p;
      stem = to.0;
      turn = s ∷ back.0;
      to_node = to.1;
      back = (stands, back.1);
      passes = or_left s.rejecting (list_any step_rejects back.0) rejects;
    },
    to.2,
    ap (λ ls. s.letter ∷ ls) back.2 ∙ sym is,
  )
