-- A window stays congruent where more updates and more equalities are listed. What terms unfold to with more updates is what they unfold
-- to with fewer, with further free terms in place of leaves; and classes are kept where free terms stand in place of leaves.
use Rattle.std.proofs.Common.{◌≡◌, ◌∙◌, ℕ, zero, suc, Bool, true, Option, Some, None, List, [], ◌∷◌, refl, sym, ap, subst, flat_map}
use Rattle.std.specs.List.{AllByRecursion, Contains}
use Rattle.base_library.proofs.Each.{each_left, each_right, each_contained, each_flat_map, each_weaker, each_from_places}
use Rattle.base_library.proofs.Places.{contains_at}
use Rattle.tsl_terms.specs.TermTree.{TermTree, signal, apply, TermTrees, no_terms, more_terms, ProbeTree}
use Rattle.tsl_terms.specs.WindowTree.{ListedTree, EquatedTree, WindowTree}
use Rattle.tsl_terms.specs.FreeTree.{FreeTree, leaf_at, applied, FreeTrees, no_free, more_free}
use Rattle.tsl_terms.specs.Unfolding.{with_leaves, all_with_leaves, leaf_after, signal_unfolded, term_taken_by_cell, all_unfolded}
use Rattle.tsl_terms.specs.OneClass.{PairTree, AreAllIn, IsCongruence, AreInOneClass, AreInOneClasses, pair_of, listed_pairs}
use Rattle.tsl_terms.specs.Congruence.{Extends, IsCongruent, IsEquality, SidesAreOne}

-- a free term with another one in place of each leaf
abbrev mutual
  pub grafted : (ℕ → ℕ → FreeTree) → FreeTree → FreeTree
  grafted at (leaf_at s t) = at s t
  grafted at (applied f xs) = applied f (all_grafted at xs)

  pub all_grafted : (ℕ → ℕ → FreeTree) → FreeTrees → FreeTrees
  all_grafted at no_free = no_free
  all_grafted at (more_free x xs) = more_free (grafted at x) (all_grafted at xs)

mutual
  grafted_leaves : (at : ℕ → ℕ → FreeTree) (before : ℕ → FreeTree) (t : TermTree) →
      grafted at (with_leaves before t) ≡ with_leaves (λ s. grafted at (before s)) t
  grafted_leaves at before (signal s) = refl
  grafted_leaves at before (apply f ts) = ap (applied f) (all_grafted_leaves at before ts)

  all_grafted_leaves : (at : ℕ → ℕ → FreeTree) (before : ℕ → FreeTree) (ts : TermTrees) →
      all_grafted at (all_with_leaves before ts) ≡ all_with_leaves (λ s. grafted at (before s)) ts
  all_grafted_leaves at before no_terms = refl
  all_grafted_leaves at before (more_terms t ts) = λ i. more_free (grafted_leaves at before t i) (all_grafted_leaves at before ts i)

module _ (few more : ℕ → ℕ → Option TermTree) (extends : Extends few more) where
  grafted_signal : (t s : ℕ) → grafted (λ r u. signal_unfolded more u r) (signal_unfolded few t s) ≡ signal_unfolded more t s
  grafted_signal zero s = refl
  grafted_signal (suc t) s = by (λ r. grafted_signal t r) (few t s) refl
    where
      by : ((r : ℕ) → grafted (λ q u. signal_unfolded more u q) (signal_unfolded few t r) ≡ signal_unfolded more t r) →
          (taken : Option TermTree) → few t s ≡ taken →
          grafted (λ r u. signal_unfolded more u r) (leaf_after (signal_unfolded few t) (suc t) s taken) ≡ signal_unfolded more (suc t) s
      by before None none = refl
      by before (Some x) some =
          grafted_leaves (λ r u. signal_unfolded more u r) (signal_unfolded few t) x
          ∙ (λ i. with_leaves (λ r. before r i) x)
          ∙ ap (leaf_after (signal_unfolded more t) (suc t) s) (sym (extends t s x some))

  pub all_grafted_unfolded : (t : ℕ) (ts : TermTrees) →
      all_grafted (λ r u. signal_unfolded more u r) (all_with_leaves (signal_unfolded few t) ts)
      ≡ all_with_leaves (signal_unfolded more t) ts
  all_grafted_unfolded t ts =
      all_grafted_leaves (λ r u. signal_unfolded more u r) (signal_unfolded few t) ts
      ∙ (λ i. all_with_leaves (λ r. grafted_signal t r i) ts)

-- ---- classes where free terms stand in place of leaves

module _ (at : ℕ → ℕ → FreeTree) where
  all_in : (R : FreeTree → FreeTree → Bool) (xs ys : FreeTrees) → AreAllIn (λ x y. R (grafted at x) (grafted at y)) xs ys →
      AreAllIn R (all_grafted at xs) (all_grafted at ys)
  all_in R no_free no_free are = tt
  all_in R no_free (more_free y ys) are = absurd are
  all_in R (more_free x xs) no_free are = absurd are
  all_in R (more_free x xs) (more_free y ys) are = (are.0, all_in R xs ys are.1)

  -- a congruence of grafted free terms
  grafted_congruence : (few more : List PairTree) (R : FreeTree → FreeTree → Bool) → IsCongruence more R →
      AllByRecursion (λ p. R (grafted at p.left) (grafted at p.right) ≡ true) few →
      IsCongruence few (λ x y. R (grafted at x) (grafted at y))
  grafted_congruence few more R congruence listed = record {
    itself = λ x. congruence.itself (grafted at x);
    turned = λ x y e. congruence.turned (grafted at x) (grafted at y) e;
    through = λ x y z e f. congruence.through (grafted at x) (grafted at y) (grafted at z) e f;
    listed = listed;
    applications = λ f xs ys are. congruence.applications f (all_grafted at xs) (all_grafted at ys) (all_in R xs ys are);
  }

  -- each pair of the few, grafted, is in one class by the more
  abbrev pub AreKept : List PairTree → List PairTree → Type 0
  AreKept few more = (R : FreeTree → FreeTree → Bool) → IsCongruence more R → AllByRecursion (λ p. R (grafted at p.left) (grafted at p.right) ≡ true) few

  grafted_class : (few more : List PairTree) → AreKept few more → (x y : FreeTree) → AreInOneClass few x y →
      AreInOneClass more (grafted at x) (grafted at y)
  grafted_class few more kept x y one R congruence =
      one (λ x y. R (grafted at x) (grafted at y)) (grafted_congruence few more R congruence (kept R congruence))

  pub grafted_classes : (few more : List PairTree) → AreKept few more → (xs ys : FreeTrees) → AreInOneClasses few xs ys →
      AreInOneClasses more (all_grafted at xs) (all_grafted at ys)
  grafted_classes few more kept xs ys are R congruence =
      all_in R xs ys (are (λ x y. R (grafted at x) (grafted at y)) (grafted_congruence few more R congruence (kept R congruence)))

  pub grafted_pair : (few more : List PairTree) → AreKept few more → (xs : FreeTrees) →
      AllByRecursion (λ p. AreInOneClass few p.left p.right) (pair_of xs) →
      AllByRecursion (λ p. AreInOneClass more p.left p.right) (pair_of (all_grafted at xs))
  grafted_pair few more kept no_free are = tt
  grafted_pair few more kept (more_free x no_free) are = tt
  grafted_pair few more kept (more_free x (more_free y no_free)) are = (grafted_class few more kept x y are.0, tt)
  grafted_pair few more kept (more_free x (more_free y (more_free z zs))) are = tt

  -- what a relation has of the grafted pair it has of the pair, grafted
  pub pair_back : (R : FreeTree → FreeTree → Bool) (xs : FreeTrees) → AllByRecursion (λ p. R p.left p.right ≡ true) (pair_of (all_grafted at xs)) →
      AllByRecursion (λ p. R (grafted at p.left) (grafted at p.right) ≡ true) (pair_of xs)
  pair_back R no_free are = tt
  pair_back R (more_free x no_free) are = tt
  pair_back R (more_free x (more_free y no_free)) are = are
  pair_back R (more_free x (more_free y (more_free z zs))) are = tt

-- the members of a joined list
each_part : {X Y : Type 0} (P : X → Type 0) (f : Y → List X) (ys : List Y) → AllByRecursion P (flat_map f ys) →
    AllByRecursion (λ y. AllByRecursion P (f y)) ys
each_part P f [] all = tt
each_part P f (y ∷ ys) all = (each_left P (f y) (flat_map f ys) all, each_part P f ys (each_right P (f y) (flat_map f ys) all))

-- what holds with fewer updates and equalities holds with more
module _ (cells : List ℕ) (equality : Option ℕ) (w : WindowTree) (updates : List ListedTree) (equalities : List EquatedTree)
    (extends : Extends (term_taken_by_cell cells w.updates) (term_taken_by_cell cells updates))
    (stand : AllByRecursion (λ e. Contains equalities e) w.equalities) where
  abbrev more_at : ℕ → ℕ → FreeTree
  more_at r u = signal_unfolded (term_taken_by_cell cells updates) u r

  abbrev few_pairs : List PairTree
  few_pairs = listed_pairs cells w.updates w.equalities

  abbrev more_pairs : List PairTree
  more_pairs = listed_pairs cells updates equalities

  unfolds : (t : ℕ) (ts : TermTrees) → all_grafted more_at (all_unfolded cells w.updates t ts) ≡ all_unfolded cells updates t ts
  unfolds t ts = all_grafted_unfolded (term_taken_by_cell cells w.updates) (term_taken_by_cell cells updates) extends t ts

  kept : AreKept more_at few_pairs more_pairs
  kept R congruence = each_flat_map (λ p. R (grafted more_at p.left) (grafted more_at p.right) ≡ true)
      (λ e. pair_of (all_unfolded cells w.updates e.offset e.probe.arguments)) w.equalities
      (each_weaker (λ e. Contains equalities e)
      (λ e. AllByRecursion (λ p. R (grafted more_at p.left) (grafted more_at p.right) ≡ true)
      (pair_of (all_unfolded cells w.updates e.offset e.probe.arguments)))
      (λ e among. pair_back more_at R (all_unfolded cells w.updates e.offset e.probe.arguments)
      (subst (λ xs. AllByRecursion (λ p. R p.left p.right ≡ true) (pair_of xs)) (sym (unfolds e.offset e.probe.arguments))
      (each_contained (λ d. AllByRecursion (λ p. R p.left p.right ≡ true) (pair_of (all_unfolded cells updates d.offset d.probe.arguments)))
      equalities e
      (each_part (λ p. R p.left p.right ≡ true) (λ d. pair_of (all_unfolded cells updates d.offset d.probe.arguments)) equalities
      congruence.listed) among)))
      w.equalities stand)

  sides : (left : Option ProbeTree) → SidesAreOne cells equality w left →
      SidesAreOne cells equality (record w { updates = updates; equalities = equalities }) left
  sides None one = (
    one.0,
    subst (λ xs. AllByRecursion (λ p. AreInOneClass more_pairs p.left p.right) (pair_of xs)) (unfolds w.length w.right.arguments)
        (grafted_pair more_at few_pairs more_pairs kept (all_unfolded cells w.updates w.length w.right.arguments) one.1),
  )
  sides (Some left) one = (
    one.0,
    subst (λ xs. AreInOneClasses more_pairs xs (all_unfolded cells updates w.length w.right.arguments)) (unfolds w.left_at left.arguments)
        (subst (λ ys. AreInOneClasses more_pairs (all_grafted more_at (all_unfolded cells w.updates w.left_at left.arguments)) ys)
        (unfolds w.length w.right.arguments)
        (grafted_classes more_at few_pairs more_pairs kept (all_unfolded cells w.updates w.left_at left.arguments)
        (all_unfolded cells w.updates w.length w.right.arguments) one.1)),
  )

  pub more_keep_windows_congruent : AllByRecursion (λ e. IsEquality equality e.probe) equalities → IsCongruent cells equality w →
      IsCongruent cells equality (record w { updates = updates; equalities = equalities })
  more_keep_windows_congruent proper is = record { equalities = proper; sides = sides w.left is.sides }

-- so it does with more updates alone
pub more_updates_keep_windows_congruent : (cells : List ℕ) (equality : Option ℕ) (w : WindowTree) (updates : List ListedTree) →
    Extends (term_taken_by_cell cells w.updates) (term_taken_by_cell cells updates) → IsCongruent cells equality w →
    IsCongruent cells equality (record w { updates = updates })
more_updates_keep_windows_congruent cells equality w updates extends is =
    more_keep_windows_congruent cells equality w updates w.equalities extends
    (each_from_places (λ e. Contains w.equalities e) w.equalities (λ i e at. contains_at w.equalities i e at)) is.equalities is
