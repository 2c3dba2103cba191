-- Sets of states and of edges in memory against the lists of what they are.
use Rattle.std.proofs.Common.{◌≡◌, ◌∙◌, ℕ, zero, suc, Bool, true, false, ◌&&◌, ◌||◌, ◌==◌, List, [], ◌∷◌, ◌++◌, length, map, Some, slice_get, nat_eq, refl, sym, ap, inl, inr}
use Rattle.std.proofs.Common.{if◌then◌else◌, eq-eqb}
use Rattle.std.specs.List.{list_any}
use Rattle.std.specs.Cmp.{booleans_Decides}
use Rattle.std.specs.Cmp.Lexicographic.{pointwise}
use Rattle.std.proofs.Math.Bool.{beq}
use Rattle.std.proofs.lemmas.Bool.{eqb-true, false≢true, and_parts}
use Rattle.std.proofs.lemmas.List.{map_push, length-map}
use Rattle.std.specs.Prelude.{option_map}
use Rattle.std.proofs.lemmas.Option.{none-some, same_Some, slice_get-map}
use Rattle.std.proofs.lemmas.Slice.Eq.{bytes_eq-Decides}
use Rattle.cobuchi_automata.specs.declared.states.State.{State}
use Rattle.cobuchi_automata.specs.Automata.{EdgeTree}
use Rattle.cobuchi_automata.specs.internal.Exploring.{StateKey, state_key, state_keys, Grows}

module _ {A M : Type 0} (view : A → M) (same : M → M → Bool) (itself : (m : M) → same m m ≡ true) where
  absent : (v : M) (ks : List A) → list_any (λ k. same v (view k)) ks ≡ false → (i : ℕ) → slice_get (map view ks) i ≡ Some v → ⊥
  absent v [] none i at = none-some v at
  absent v (k ∷ ks) none i at = by (same v (view k)) refl none (absent v ks) i at
    where
      by : (b : Bool) → same v (view k) ≡ b → (b || list_any (λ k. same v (view k)) ks) ≡ false
          → (list_any (λ k. same v (view k)) ks ≡ false → (i : ℕ) → slice_get (map view ks) i ≡ Some v → ⊥)
          → (i : ℕ) → slice_get (view k ∷ map view ks) i ≡ Some v → ⊥
      by true is none rest i at = false≢true (sym none)
      by false is none rest zero at = false≢true (sym is ∙ (ap (same v) (same_Some (view k) v at) ∙ itself v))
      by false is none rest (suc i) at = rest none i at

  -- a list after an insertion
  pub inserted : (v : A) (ks new : List A) (n : ℕ) → new ≡ (if list_any (λ k. same (view v) (view k)) ks then ks else ks ++ v ∷ [])
      → slice_get (map view new) n ≡ Some (view v) → Grows (map view ks) (view v) (map view new)
  inserted v ks new n is at = by (list_any (λ k. same (view v) (view k)) ks) refl is
    where
      by : (b : Bool) → list_any (λ k. same (view v) (view k)) ks ≡ b → new ≡ (if b then ks else ks ++ v ∷ [])
          → Grows (map view ks) (view v) (map view new)
      by true among is = record { grown = inl (ap (map view) is); there = (n, at) }
      by false among is = record {
        grown = inr (absent (view v) ks among, ap (map view) is ∙ map_push view ks v);
        there = (n, at);
      }

  -- what an insertion tells stands there
  pub stored : (is : (m n : M) → same m n ≡ true → m ≡ n) (v : A) (new : List A) (n : ℕ)
      → (k : A) × (slice_get new n ≡ Some k) × (same (view v) (view k) ≡ true) → slice_get (map view new) n ≡ Some (view v)
  stored is v new n (k, at, equal) = slice_get-map view new n ∙ ap (option_map view) at ∙ ap Some (sym (is (view v) (view k) equal))

-- states are the same where their numbers are
abbrev pub same_key : StateKey → StateKey → Bool
same_key j k = pointwise nat_eq j.members k.members && (j.counter == k.counter)

pointwise_itself : (ns : List ℕ) → pointwise nat_eq ns ns ≡ true
pointwise_itself [] = refl
pointwise_itself (n ∷ ns) = rw (eq-eqb n n refl, pointwise_itself ns) refl

pub key_itself : (k : StateKey) → same_key k k ≡ true
key_itself k = rw (pointwise_itself k.members, eq-eqb k.counter k.counter refl) refl

pub key_is : (j k : StateKey) → same_key j k ≡ true → j ≡ k
key_is j k same =
    let parts = and_parts (pointwise nat_eq j.members k.members) (j.counter == k.counter) same in
    let members : j.members ≡ k.members = (bytes_eq-Decides j.members k.members).0 parts.0 in
    let counter : j.counter ≡ k.counter = eqb-true j.counter k.counter parts.1 in
    λ i. record { members = members i; counter = counter i }

-- edges are the same where their fields are
abbrev pub same_edge : EdgeTree → EdgeTree → Bool
same_edge d e = (d.from == e.from)
    && (((d.care == e.care) && (d.want == e.want)) && ((d.to == e.to) && beq d.rejecting e.rejecting))

pub edge_itself : (e : EdgeTree) → same_edge e e ≡ true
edge_itself e = rw (
  eq-eqb e.from e.from refl,
  eq-eqb e.care e.care refl,
  eq-eqb e.want e.want refl,
  eq-eqb e.to e.to refl,
  (booleans_Decides e.rejecting e.rejecting).1 refl,
) refl

pub edge_is : (d e : EdgeTree) → same_edge d e ≡ true → d ≡ e
edge_is d e same =
    let first = and_parts (d.from == e.from) _ same in
    let second = and_parts ((d.care == e.care) && (d.want == e.want)) _ first.1 in
    let cubes = and_parts (d.care == e.care) (d.want == e.want) second.0 in
    let third = and_parts (d.to == e.to) (beq d.rejecting e.rejecting) second.1 in
    let from : d.from ≡ e.from = eqb-true d.from e.from first.0 in
    let care : d.care ≡ e.care = eqb-true d.care e.care cubes.0 in
    let want : d.want ≡ e.want = eqb-true d.want e.want cubes.1 in
    let to : d.to ≡ e.to = eqb-true d.to e.to third.0 in
    let rejecting : d.rejecting ≡ e.rejecting = (booleans_Decides d.rejecting e.rejecting).0 third.1 in
    λ i. record { from = from i; care = care i; want = want i; to = to i; rejecting = rejecting i }

-- as many states as keys
pub length-keys : (states : List State) (n : ℕ) → length (state_keys states) ≡ n → length states ≡ n
length-keys states n is = sym (length-map states state_key) ∙ is
