-- Windows from which an update or an equality is left out: what is kept, and that what could not be left out before cannot be later.
use Rattle.std.proofs.Common.{◌≡◌, ℕ, zero, suc, ◌+◌, ◌<◌, ◌≤◌, List, [], ◌∷◌, ◌++◌, take, drop, Option, Some, None}
use Rattle.std.proofs.Common.{slice_get, refl, sym, ap, subst, arith, inl, inr, ◌⊎◌, true}
use Rattle.std.proofs.Common.{length as count_of}
use Rattle.std.specs.List.{AllByRecursion, Contains}
use Rattle.base_library.specs.Numbers.{is_among}
use Rattle.base_library.proofs.Each.{each_weaker, each_from_places}
use Rattle.base_library.proofs.Places.{contains_at}
use Rattle.tsl_terms.specs.TermTree.{ProbeTree}
use Rattle.tsl_terms.specs.WindowTree.{ListedTree, EquatedTree, WindowTree}
use Rattle.tsl_terms.specs.Congruence.{IsCongruent, IsEquality, UpdateCells}
use Rattle.tsl_terms.proofs.MoreListed.{more_keep_windows_congruent}
use Rattle.program_tree.specs.Fits.{are_in_order}
use Rattle.letter_space.specs.SpaceTree.{SpaceTree}
use Rattle.machines.specs.MachineTree.{EnvironmentTree}
use Rattle.branch_finder.specs.Spurious.{IsOneOf, IsTruthAt, SidesDiffer}
use Rattle.branch_finder.specs.Finding.{without_update, without_equality}
use Rattle.branch_finder.specs.internal.Thinning.{AllRise, IsCandidate, AreNeededFrom, AreEqualitiesNeededFrom}
use Rattle.branch_finder.proofs.PathCongruence.{StandIn, congruent_with_updates}
use Rattle.branch_finder.proofs.PathEqualities.{in_order_without}
use Rattle.branch_finder.proofs.UpdateOrder.{each_without, all_rise_without}

-- a list without the member at a place
abbrev without : {X : Type 0} → ℕ → List X → List X
without place xs = take place xs ++ drop (suc place) xs

-- which of two members is left out first is all one
exchanged : {X : Type 0} (k p : ℕ) (xs : List X) → p ≤ k → without k (without p xs) ≡ without p (without (suc k) xs)
exchanged zero zero [] below = refl
exchanged zero (suc p) [] below = absurd (omega (arith, below))
exchanged (suc k) zero [] below = refl
exchanged (suc k) (suc p) [] below = refl
exchanged k zero (x ∷ xs) below = refl
exchanged zero (suc p) (x ∷ xs) below = absurd (omega (arith, below))
exchanged (suc k) (suc p) (x ∷ xs) below = ap (λ ys. x ∷ ys) (exchanged k p xs (omega (arith, below)))

stands_without : (p : ℕ) (us : List ListedTree) → StandIn (without p us) us
stands_without p us =
    each_without (λ u. (j : ℕ) × (slice_get us j ≡ Some u)) us p
    (each_from_places (λ u. (j : ℕ) × (slice_get us j ≡ Some u)) us (λ i u at. (i, at)))

shorter_by_one : {X : Type 0} (p : ℕ) (xs : List X) → p < count_of xs → count_of xs ≡ suc (count_of (without p xs))
shorter_by_one p [] within = absurd (omega (arith, within))
shorter_by_one zero (x ∷ xs) within = refl
shorter_by_one (suc p) (x ∷ xs) within = ap suc (shorter_by_one p xs (omega (arith, within)))

contained_without : {X : Type 0} (p : ℕ) (xs : List X) → AllByRecursion (λ x. Contains xs x) (without p xs)
contained_without p xs =
    each_without (λ x. Contains xs x) xs p (each_from_places (λ x. Contains xs x) xs (λ i x at. contains_at xs i x at))

module _ (space : SpaceTree) (e : EnvironmentTree) (cells : List ℕ) (equality : Option ℕ) (length : ℕ) (w : WindowTree)
    (is : IsCandidate space e cells equality length w) where
  -- the sides do not speak of what is listed
  sides_differ : (updates : List ListedTree) (equalities : List EquatedTree) (state : ℕ → ℕ) (left : Option ProbeTree) →
      SidesDiffer space e state w left → SidesDiffer space e state (record w { updates = updates; equalities = equalities }) left
  sides_differ updates equalities state None differ = differ
  sides_differ updates equalities state (Some left) differ = differ

  -- with fewer updates and equalities it is a candidate still, where it is congruent
  fewer : (updates : List ListedTree) (equalities : List EquatedTree) →
      AllByRecursion (λ u. (is_among cells u.signal ≡ true) × (u.offset < w.length)) updates → AllRise cells updates →
      AllByRecursion (λ u. IsOneOf space (is.spurious.vector u.offset) u) updates → AllByRecursion (λ q. q.offset ≤ w.length) equalities →
      are_in_order equalities ≡ true → AllByRecursion (λ q. IsTruthAt space e (is.spurious.state q.offset) q.probe true) equalities →
      IsCongruent cells equality (record w { updates = updates; equalities = equalities }) →
      IsCandidate space e cells equality length (record w { updates = updates; equalities = equalities })
  fewer updates equalities listed rise one_of equal in_order true_there congruent = record {
    long = is.long;
    within = record { short = is.within.short; left_within = is.within.left_within; listed = listed; equal = equal };
    left_shaped = is.left_shaped;
    rise = rise;
    in_order = in_order;
    congruent = congruent;
    spurious = record {
      state = is.spurious.state;
      vector = is.spurious.vector;
      visited = is.spurious.visited;
      steps = is.spurious.steps;
      listed = one_of;
      equal = true_there;
      differ = sides_differ updates equalities is.spurious.state w.left is.spurious.differ;
    };
  }

  pub still_candidate : (p : ℕ) → IsCongruent cells equality (without_update p w) →
      IsCandidate space e cells equality length (without_update p w)
  still_candidate p congruent =
      fewer (without p w.updates) w.equalities
      (each_without (λ u. (is_among cells u.signal ≡ true) × (u.offset < w.length)) w.updates p is.within.listed)
      (all_rise_without cells w.updates p is.rise)
      (each_without (λ u. IsOneOf space (is.spurious.vector u.offset) u) w.updates p is.spurious.listed) is.within.equal is.in_order
      is.spurious.equal congruent

  pub still_candidate_too : (p : ℕ) → IsCongruent cells equality (without_equality p w) →
      IsCandidate space e cells equality length (without_equality p w)
  still_candidate_too p congruent =
      fewer w.updates (without p w.equalities) is.within.listed is.rise is.spurious.listed
      (each_without (λ q. q.offset ≤ w.length) w.equalities p is.within.equal) (in_order_without w.equalities p is.in_order)
      (each_without (λ q. IsTruthAt space e (is.spurious.state q.offset) q.probe true) w.equalities p is.spurious.equal) congruent

  -- what was needed is needed still
  pub still_needed : (p : ℕ) → p < count_of w.updates → AreNeededFrom cells equality (p + 1) w →
      AreNeededFrom cells equality p (without_update p w)
  still_needed p inside needed k from below congruent =
      let counted = shorter_by_one p w.updates inside in
      needed (suc k) (omega (arith, from)) (omega (arith, counted, below))
      (congruent_with_updates space cells is.spurious.vector equality (without_update k (without_update p w)) (without (suc k) w.updates)
      (subst (λ us. StandIn us (without (suc k) w.updates)) (sym (exchanged k p w.updates from))
      (stands_without p (without (suc k) w.updates)))
      (each_without (λ u. IsOneOf space (is.spurious.vector u.offset) u) w.updates (suc k) is.spurious.listed)
      congruent)

  -- an equality more
  with_one : (v : WindowTree) (p : ℕ) → AllByRecursion (λ q. IsEquality equality q.probe) v.equalities →
      IsCongruent cells equality (without_equality p v) → IsCongruent cells equality v
  with_one v p proper congruent =
      more_keep_windows_congruent cells equality (without_equality p v) v.updates v.equalities (λ t s x taken. taken)
      (contained_without p v.equalities) proper congruent

  -- updates that are needed are needed without an equality too, and so are the equalities after it
  pub updates_still : (p : ℕ) → AreNeededFrom cells equality 0 w → AreNeededFrom cells equality 0 (without_equality p w)
  updates_still p needed place from inside congruent =
      needed place from inside (with_one (without_update place w) p is.congruent.equalities congruent)

  pub equalities_still : (p : ℕ) → p < count_of w.equalities → AreEqualitiesNeededFrom cells equality (p + 1) w →
      AreEqualitiesNeededFrom cells equality p (without_equality p w)
  equalities_still p inside needed k from below congruent =
      let counted = shorter_by_one p w.equalities inside in
      needed (suc k) (omega (arith, from)) (omega (arith, counted, below))
      (with_one (without_equality (suc k) w) p
      (each_without (λ q. IsEquality equality q.probe) w.equalities (suc k) is.congruent.equalities)
      (subst (λ qs. IsCongruent cells equality (record w { equalities = qs })) (exchanged k p w.equalities from) congruent))

  pub without_of_cells : (p : ℕ) → UpdateCells cells (without p w.updates)
  without_of_cells p =
      each_weaker (λ u. (is_among cells u.signal ≡ true) × (u.offset < w.length)) (λ u. is_among cells u.signal ≡ true) (λ u both. both.0)
      (without p w.updates)
      (each_without (λ u. (is_among cells u.signal ≡ true) × (u.offset < w.length)) w.updates p is.within.listed)

  pub updates_of_cells : UpdateCells cells w.updates
  updates_of_cells =
      each_weaker (λ u. (is_among cells u.signal ≡ true) × (u.offset < w.length)) (λ u. is_among cells u.signal ≡ true) (λ u both. both.0)
      w.updates is.within.listed

here_or_after : (m n : ℕ) → m ≤ n → (m ≡ n) ⊎ (m + 1 ≤ n)
here_or_after m n from = grind (arith, from)

-- an update that cannot be left out is needed beside those after it, and so is an equality
pub needed_here : (cells : List ℕ) (equality : Option ℕ) (p : ℕ) (w : WindowTree) → (IsCongruent cells equality (without_update p w) → ⊥) →
    AreNeededFrom cells equality (p + 1) w → AreNeededFrom cells equality p w
needed_here cells equality p w here after k from below is = elim (here_or_after p k from) [
  | inl same ↦ here (subst (λ n. IsCongruent cells equality (without_update n w)) (sym same) is)
  | inr later ↦ after k later below is
]

pub equality_needed_here : (cells : List ℕ) (equality : Option ℕ) (p : ℕ) (w : WindowTree) →
    (IsCongruent cells equality (without_equality p w) → ⊥) → AreEqualitiesNeededFrom cells equality (p + 1) w →
    AreEqualitiesNeededFrom cells equality p w
equality_needed_here cells equality p w here after k from below is = elim (here_or_after p k from) [
  | inl same ↦ here (subst (λ n. IsCongruent cells equality (without_equality n w)) (sym same) is)
  | inr later ↦ after k later below is
]

pub place_stays_within : {X : Type 0} (p : ℕ) (xs : List X) → p < count_of xs → p ≤ count_of (without p xs)
place_stays_within p xs inside = omega (arith, inside, shorter_by_one p xs inside)
