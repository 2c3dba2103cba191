-- The updates of cells along a path stand in the order of programs, and so do those that are left where one is left out.
use Rattle.std.proofs.Common.{◌≡◌, ◌∙◌, ℕ, zero, suc, ◌<◌, ◌≤◌, true, ◌&&◌, ◌==◌, nat_lt, List, [], ◌∷◌, ◌++◌}
use Rattle.std.proofs.Common.{take, drop, Option, Some, None, refl, ap, arith, eq-eqb}
use Rattle.std.specs.List.{AllByRecursion}
use Rattle.std.proofs.lemmas.Bool.{and_from, or_left, or_right, lt-ltb}
use Rattle.base_library.specs.Numbers.{is_among}
use Rattle.base_library.proofs.Each.{each_joined, each_weaker}
use Rattle.tsl_terms.specs.TermTree.{TermTree}
use Rattle.tsl_terms.specs.WindowTree.{ListedTree}
use Rattle.program_tree.specs.Fits.{stands_before, comes_before, rises}
use Rattle.letter_space.specs.SpaceTree.{SpaceTree}
use Rattle.letter_space.specs.Letters.{term_taken}
use Rattle.letter_space.specs.Vectors.{picks_of}
use Rattle.branch_finder.specs.internal.Paths.{update_to, updates_picked, updates_along}
use Rattle.branch_finder.proofs.PathUpdates.{each_picked}
use Rattle.branch_finder.specs.internal.Thinning.{IsOwn, AllRise}

module _ (cells : List ℕ) where
  pub rises_one_by_one : (us : List ListedTree) → AllRise cells us → rises cells us ≡ true
  rises_one_by_one [] all = refl
  rises_one_by_one (u ∷ []) all = refl
  rises_one_by_one (u ∷ v ∷ us) all =
      and_from (comes_before cells u v) (rises cells (v ∷ us)) all.0.0 (rises_one_by_one (v ∷ us) all.1)

  all_rise_joined : (us vs : List ListedTree) → AllRise cells us → AllRise cells vs →
      AllByRecursion (λ u. AllByRecursion (λ v. comes_before cells u v ≡ true) vs) us → AllRise cells (us ++ vs)
  all_rise_joined [] vs first second across = second
  all_rise_joined (u ∷ us) vs first second across =
      (each_joined (λ v. comes_before cells u v ≡ true) us vs first.0 across.0, all_rise_joined us vs first.1 second across.1)

-- what holds of each holds where one is left out
pub each_without : {X : Type 0} (P : X → Type 0) (xs : List X) (k : ℕ) → AllByRecursion P xs →
    AllByRecursion P (take k xs ++ drop (suc k) xs)
each_without P [] zero each = tt
each_without P [] (suc k) each = tt
each_without P (x ∷ xs) zero each = each.1
each_without P (x ∷ xs) (suc k) each = (each.0, each_without P xs k each.1)

pub all_rise_without : (cells : List ℕ) (us : List ListedTree) (k : ℕ) → AllRise cells us → AllRise cells (take k us ++ drop (suc k) us)
all_rise_without cells [] zero all = tt
all_rise_without cells [] (suc k) all = tt
all_rise_without cells (u ∷ us) zero all = all.1
all_rise_without cells (u ∷ us) (suc k) all =
    (each_without (λ v. comes_before cells u v ≡ true) us k all.0, all_rise_without cells us k all.1)

module _ (space : SpaceTree) (cells : List ℕ) where
  -- the updates of one vector, by the cells' places
  picked_rise : (v offset : ℕ) (more : List ℕ) → ((r s : ℕ) → stands_before more r s ≡ true → stands_before cells r s ≡ true) →
      AllRise cells (updates_picked space.controlled (picks_of space.controlled v) offset more)
  picked_rise v offset [] inside = tt
  picked_rise v offset (s ∷ more) inside =
      let picks = picks_of space.controlled v in
      all_rise_joined cells (update_to offset s (term_taken space.controlled picks s)) (updates_picked space.controlled picks offset more)
      (alone (term_taken space.controlled picks s))
      (picked_rise v offset more
      (λ r t stands. inside r t (or_right ((s == r) && is_among more t) (stands_before more r t) stands)))
      (by (term_taken space.controlled picks s))
    where
      alone : (taken : Option TermTree) → AllRise cells (update_to offset s taken)
      alone None = tt
      alone (Some term) = (tt, tt)

      after : (u v : ListedTree) → u.signal ≡ s → u.offset ≡ offset → is_among more v.signal ≡ true → offset ≤ v.offset →
          v.offset < suc offset → comes_before cells u v ≡ true
      after u v signal here among from before =
          let same : u.offset ≡ v.offset = omega arith in
          let stands : stands_before cells s v.signal ≡ true
          = inside s v.signal (or_left ((s == s) && is_among more v.signal) (stands_before more s v.signal)
          (and_from (s == s) (is_among more v.signal) (eq-eqb s s refl) among)) in
          or_right (nat_lt u.offset v.offset) ((u.offset == v.offset) && stands_before cells u.signal v.signal)
          (and_from (u.offset == v.offset) (stands_before cells u.signal v.signal) (eq-eqb u.offset v.offset same)
          (ap (λ r. stands_before cells r v.signal) signal ∙ stands))

      by : (taken : Option TermTree) → AllByRecursion (λ u. AllByRecursion (λ w. comes_before cells u w ≡ true)
          (updates_picked space.controlled (picks_of space.controlled v) offset more)) (update_to offset s taken)
      by None = tt
      by (Some term) = (
        each_weaker (IsOwn space more (λ _. v) offset (suc offset))
            (λ w. comes_before cells (record { signal = s; term = term; offset = offset }) w ≡ true)
            (λ w own. after (record { signal = s; term = term; offset = offset }) w refl refl own.among own.from own.before)
            (updates_picked space.controlled (picks_of space.controlled v) offset more)
            (each_picked space more (λ _. v) offset (suc offset) v more (λ r among. among) (omega arith) refl),
        tt,
      )

  pub along_rise : (offset : ℕ) (path : List ℕ) → AllRise cells (updates_along space.controlled cells offset path)
  along_rise offset [] = tt
  along_rise offset (v ∷ path) =
      all_rise_joined cells (updates_picked space.controlled (picks_of space.controlled v) offset cells)
      (updates_along space.controlled cells (suc offset) path) (picked_rise v offset cells (λ r s stands. stands))
      (along_rise (suc offset) path)
      (each_weaker (IsOwn space cells (λ _. v) offset (suc offset))
      (λ u. AllByRecursion (λ w. comes_before cells u w ≡ true) (updates_along space.controlled cells (suc offset) path))
      (λ u own. each_weaker (λ w. suc offset ≤ w.offset) (λ w. comes_before cells u w ≡ true)
      (λ w from. or_left (nat_lt u.offset w.offset) ((u.offset == w.offset) && stands_before cells u.signal w.signal)
      (lt-ltb u.offset w.offset (omega (arith, own.before, from))))
      (updates_along space.controlled cells (suc offset) path) (later (suc offset) path))
      (updates_picked space.controlled (picks_of space.controlled v) offset cells)
      (each_picked space cells (λ _. v) offset (suc offset) v cells (λ r among. among) (omega arith) refl))
    where
      picked_from : (n first w : ℕ) → n ≤ first →
          AllByRecursion (λ u. n ≤ u.offset) (updates_picked space.controlled (picks_of space.controlled w) first cells)
      picked_from n first w within =
          each_weaker (IsOwn space cells (λ _. w) first (suc first)) (λ u. n ≤ u.offset) (λ u own. omega (arith, own.from, within))
          (updates_picked space.controlled (picks_of space.controlled w) first cells)
          (each_picked space cells (λ _. w) first (suc first) w cells (λ r among. among) (omega arith) refl)

      later_from : (n first : ℕ) (vs : List ℕ) → n ≤ first →
          AllByRecursion (λ u. n ≤ u.offset) (updates_along space.controlled cells first vs)
      later_from n first [] within = tt
      later_from n first (w ∷ vs) within =
          each_joined (λ u. n ≤ u.offset) (updates_picked space.controlled (picks_of space.controlled w) first cells)
          (updates_along space.controlled cells (suc first) vs) (picked_from n first w within)
          (later_from n (suc first) vs (omega (arith, within)))

      later : (first : ℕ) (vs : List ℕ) → AllByRecursion (λ u. first ≤ u.offset) (updates_along space.controlled cells first vs)
      later first vs = later_from first first vs (omega arith)
