-- The updates of cells along a path: each one is of a cell at an offset and is one of those of the vector there, each such one is
-- among them, and they stand in the order of programs.
use Rattle.std.proofs.Common.{◌≡◌, ◌∙◌, ℕ, zero, suc, ◌+◌, ◌<◌, ◌≤◌, true, ◌==◌, List, [], ◌∷◌, ◌++◌, inl, inr}
use Rattle.std.proofs.Common.{length, Option, Some, None, slice_get, refl, ap, subst, arith, eq-eqb}
use Rattle.std.specs.List.{AllByRecursion}
use Rattle.std.proofs.lemmas.Bool.{eqb-true, false≢true, or_left, or_right, or_cases}
use Rattle.std.proofs.lemmas.Option.{none-some, same_Some}
use Rattle.base_library.specs.Numbers.{is_among}
use Rattle.base_library.proofs.Each.{each_joined, each_weaker}
use Rattle.base_library.proofs.Places.{slice_get_grown, slice_get-append}
use Rattle.tsl_terms.specs.TermTree.{TermTree}
use Rattle.tsl_terms.specs.WindowTree.{ListedTree}
use Rattle.letter_space.specs.SpaceTree.{ControlledTree, SpaceTree}
use Rattle.letter_space.specs.Letters.{term_taken}
use Rattle.letter_space.specs.Vectors.{picks_of}
use Rattle.branch_finder.specs.internal.Thinning.{IsOwn}
use Rattle.branch_finder.specs.internal.Paths.{update_to, updates_picked, updates_along, vector_at}

-- ---- what each update is

module _ (space : SpaceTree) (cells : List ℕ) (vector : ℕ → ℕ) where
  pub each_picked : (offset last v : ℕ) (more : List ℕ) → ((s : ℕ) → is_among more s ≡ true → is_among cells s ≡ true) → offset < last →
      vector offset ≡ v →
      AllByRecursion (IsOwn space cells vector offset last) (updates_picked space.controlled (picks_of space.controlled v) offset more)
  each_picked offset last v [] inside before is = tt
  each_picked offset last v (s ∷ more) inside before is =
      each_joined (IsOwn space cells vector offset last) (update_to offset s (term_taken space.controlled (picks_of space.controlled v) s))
      (updates_picked space.controlled (picks_of space.controlled v) offset more)
      (by (term_taken space.controlled (picks_of space.controlled v) s) refl)
      (each_picked offset last v more (λ r among. inside r (or_right (s == r) (is_among more r) among)) before is)
    where
      by : (taken : Option TermTree) → term_taken space.controlled (picks_of space.controlled v) s ≡ taken →
          AllByRecursion (IsOwn space cells vector offset last) (update_to offset s taken)
      by None none = tt
      by (Some term) some = (
        record {
          among = inside s (or_left (s == s) (is_among more s) (eq-eqb s s refl));
          from = omega arith;
          before = before;
          one = ap (λ n. term_taken space.controlled (picks_of space.controlled n) s) is ∙ some;
        },
        tt,
      )

  pub each_along : (offset last : ℕ) (path : List ℕ) → offset + length path ≤ last →
      ((k v : ℕ) → slice_get path k ≡ Some v → vector (offset + k) ≡ v) →
      AllByRecursion (IsOwn space cells vector offset last) (updates_along space.controlled cells offset path)
  each_along offset last [] within agrees = tt
  each_along offset last (v ∷ path) within agrees =
      each_joined (IsOwn space cells vector offset last) (updates_picked space.controlled (picks_of space.controlled v) offset cells)
      (updates_along space.controlled cells (suc offset) path)
      (each_picked offset last v cells (λ s among. among) (omega (arith, within))
      (subst (λ n. vector n ≡ v) (omega arith) (agrees 0 v refl)))
      (each_weaker (IsOwn space cells vector (suc offset) last) (IsOwn space cells vector offset last)
      (λ u own. record { among = own.among; from = omega (arith, own.from); before = own.before; one = own.one })
      (updates_along space.controlled cells (suc offset) path)
      (each_along (suc offset) last path (omega (arith, within))
      (λ k w at. subst (λ n. vector n ≡ w) (omega arith) (agrees (suc k) w at))))

-- ---- that each such update is there

module _ (controlled : List ControlledTree) where
  picked_there : (picks : List ℕ) (offset s : ℕ) (term : TermTree) (cells : List ℕ) → is_among cells s ≡ true →
      term_taken controlled picks s ≡ Some term →
      (j : ℕ) × (slice_get (updates_picked controlled picks offset cells) j ≡ Some (record { signal = s; term = term; offset = offset }))
  picked_there picks offset s term [] among taken = absurd (false≢true among)
  picked_there picks offset s term (r ∷ cells) among taken = elim (or_cases (r == s) (is_among cells s) among) [
    | inl here ↦
        let same : r ≡ s = eqb-true r s here in
        let first : update_to offset r (term_taken controlled picks r) ≡ record { signal = s; term = term; offset = offset } ∷ []
        = (λ i. update_to offset (same i) (term_taken controlled picks (same i))) ∙ ap (update_to offset s) taken in
        (0, ap (λ (us : List ListedTree). slice_get (us ++ updates_picked controlled picks offset cells) 0) first)
    | inr later ↦
        let rest = picked_there picks offset s term cells later taken in
        let first = update_to offset r (term_taken controlled picks r) in (
          length first + rest.0,
          slice_get-append first (updates_picked controlled picks offset cells) rest.0 (length first + rest.0) refl ∙ rest.1,
        )
  ]

  pub along_there : (cells : List ℕ) (s : ℕ) (term : TermTree) → is_among cells s ≡ true → (offset : ℕ) (path : List ℕ) (k v : ℕ) →
      slice_get path k ≡ Some v → term_taken controlled (picks_of controlled v) s ≡ Some term →
      (j : ℕ) × (slice_get (updates_along controlled cells offset path) j ≡ Some (record { signal = s; term = term; offset = offset + k }))
  along_there cells s term among offset [] k v at taken = absurd (none-some v at)
  along_there cells s term among offset (w ∷ path) zero v at taken =
      let picked = picked_there (picks_of controlled w) offset s term cells among
      (ap (λ n. term_taken controlled (picks_of controlled n) s) (same_Some w v at) ∙ taken) in
      let place : offset ≡ offset + 0 = omega arith in (
        picked.0,
        slice_get_grown (updates_picked controlled (picks_of controlled w) offset cells)
            (updates_along controlled cells (suc offset) path) picked.0 _ picked.1
            ∙ ap (λ n. Some (record { signal = s; term = term; offset = n })) place,
      )
  along_there cells s term among offset (w ∷ path) (suc k) v at taken =
      let rest = along_there cells s term among (suc offset) path k v at taken in
      let first = updates_picked controlled (picks_of controlled w) offset cells in
      let place : suc offset + k ≡ offset + suc k = omega arith in (
        length first + rest.0,
        slice_get-append first (updates_along controlled cells (suc offset) path) rest.0 (length first + rest.0) refl
            ∙ rest.1 ∙ ap (λ n. Some (record { signal = s; term = term; offset = n })) place,
      )

-- ---- the whole path

pub vector_is : (path : List ℕ) (t v : ℕ) → slice_get path t ≡ Some v → vector_at path t ≡ v
vector_is [] t v at = absurd (none-some v at)
vector_is (w ∷ path) zero v at = same_Some w v at
vector_is (w ∷ path) (suc t) v at = vector_is path t v at

pub own_updates : (space : SpaceTree) (cells path : List ℕ) →
    AllByRecursion (IsOwn space cells (vector_at path) 0 (length path)) (updates_along space.controlled cells 0 path)
own_updates space cells path =
    each_along space cells (vector_at path) 0 (length path) path (omega arith)
    (λ k v at. ap (vector_at path) (omega arith) ∙ vector_is path k v at)
