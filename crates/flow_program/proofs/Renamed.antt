-- Trees with other numbers for their names. What they unfold to has the other numbers too, where no two numbers become one.
use Rattle.std.proofs.Common.{◌≡◌, ℕ, zero, suc, Bool, true, ◌==◌, ◌||◌, List, [], ◌∷◌, ◌++◌, map, refl, ap, sym, ◌∙◌, arith}
use Rattle.std.proofs.Common.{Option, Some, None}
use Rattle.std.specs.Prelude.{option_map}
use Rattle.std.specs.List.{AllByRecursion}
use Rattle.std.proofs.lemmas.Bool.Decides.{nat_tests}
use Rattle.std.proofs.lemmas.Grind.{common_steps}
use Rattle.std.proofs.lemmas.List.{map-append}
use Rattle.base_library.specs.Numbers.{is_among}
use Rattle.tsl_terms.specs.TermTree.{TermTree, signal, apply, TermTrees, no_terms, more_terms, ProbeTree}
use Rattle.tsl_terms.specs.WindowTree.{ListedTree, EquatedTree, WindowTree, right_alone, equality_probes}
use Rattle.tsl_terms.specs.FreeTree.{FreeTree, leaf_at, applied, FreeTrees, no_free, more_free}
use Rattle.tsl_terms.specs.OneClass.{PairTree, AreAllIn, IsCongruence, AreInOneClass, AreInOneClasses, pair_of, listed_pairs}
use Rattle.tsl_terms.specs.Congruence.{IsEquality, SidesAreOne, IsCongruent}
use Rattle.base_library.proofs.Each.{each_left, each_right, each_map, each_unmapped, each_weaker}
use Rattle.tsl_terms.specs.Unfolding.{with_leaves, all_with_leaves, leaf_after, signal_unfolded, term_listed, term_taken_by_cell, all_unfolded}

module _ (stands_for : ℕ → ℕ) where
  -- ---- with other numbers

  abbrev mutual
    pub renamed : TermTree → TermTree
    renamed (signal s) = signal (stands_for s)
    renamed (apply f ts) = apply (stands_for f) (all_renamed ts)

    pub all_renamed : TermTrees → TermTrees
    all_renamed no_terms = no_terms
    all_renamed (more_terms t ts) = more_terms (renamed t) (all_renamed ts)

  abbrev mutual
    free_renamed : FreeTree → FreeTree
    free_renamed (leaf_at s step) = leaf_at (stands_for s) step
    free_renamed (applied f xs) = applied (stands_for f) (all_free_renamed xs)

    all_free_renamed : FreeTrees → FreeTrees
    all_free_renamed no_free = no_free
    all_free_renamed (more_free x xs) = more_free (free_renamed x) (all_free_renamed xs)

  abbrev pair_renamed : PairTree → PairTree
  pair_renamed p = record { left = free_renamed p.left; right = free_renamed p.right }

  abbrev pub probe_renamed : ProbeTree → ProbeTree
  probe_renamed p = record { predicate = stands_for p.predicate; arguments = all_renamed p.arguments }

  abbrev pub listed_renamed : ListedTree → ListedTree
  listed_renamed u = record { signal = stands_for u.signal; term = renamed u.term; offset = u.offset }

  abbrev pub equated_renamed : EquatedTree → EquatedTree
  equated_renamed e = record { probe = probe_renamed e.probe; offset = e.offset }

  abbrev pub window_renamed : WindowTree → WindowTree
  window_renamed w = record {
    left = option_map probe_renamed w.left;
    left_at = w.left_at;
    right = probe_renamed w.right;
    length = w.length;
    updates = map listed_renamed w.updates;
    equalities = map equated_renamed w.equalities;
  }

  -- ---- classes with other numbers: a relation of what free terms become is one of the free terms

  abbrev pulled_back : (FreeTree → FreeTree → Bool) → FreeTree → FreeTree → Bool
  pulled_back R x y = R (free_renamed x) (free_renamed y)

  all_renamed_in : (R : FreeTree → FreeTree → Bool) (xs ys : FreeTrees) → AreAllIn (pulled_back R) xs ys →
      AreAllIn R (all_free_renamed xs) (all_free_renamed ys)
  all_renamed_in R no_free no_free are = tt
  all_renamed_in R no_free (more_free y ys) are = are
  all_renamed_in R (more_free x xs) no_free are = are
  all_renamed_in R (more_free x xs) (more_free y ys) are = (are.0, all_renamed_in R xs ys are.1)

  congruence_back : (pairs : List PairTree) (R : FreeTree → FreeTree → Bool) → IsCongruence (map pair_renamed pairs) R →
      IsCongruence pairs (pulled_back R)
  congruence_back pairs R congruence = record {
    itself = λ x. congruence.itself (free_renamed x);
    turned = λ x y. congruence.turned (free_renamed x) (free_renamed y);
    through = λ x y z. congruence.through (free_renamed x) (free_renamed y) (free_renamed z);
    listed = each_unmapped (λ p. R p.left p.right ≡ true) pair_renamed pairs congruence.listed;
    applications = λ f xs ys are.
        congruence.applications (stands_for f) (all_free_renamed xs) (all_free_renamed ys) (all_renamed_in R xs ys are);
  }

  pair_of_renamed : (xs : FreeTrees) → pair_of (all_free_renamed xs) ≡ map pair_renamed (pair_of xs)
  pair_of_renamed no_free = refl
  pair_of_renamed (more_free x no_free) = refl
  pair_of_renamed (more_free x (more_free y no_free)) = refl
  pair_of_renamed (more_free x (more_free y (more_free z zs))) = refl

  -- ---- where no two numbers become one

  module _ (apart : (s t : ℕ) → stands_for s ≡ stands_for t → s ≡ t) where
    same_test : (s t : ℕ) → (stands_for s == stands_for t) ≡ (s == t)
    same_test s t = grind (arith, nat_tests, apart s t)

    among_renamed : (cells : List ℕ) (s : ℕ) → is_among (map stands_for cells) (stands_for s) ≡ is_among cells s
    among_renamed [] s = refl
    among_renamed (c ∷ cells) s = λ i. same_test c s i || among_renamed cells s i

    -- the term that a signal takes at an offset
    listed_is_renamed : (updates : List ListedTree) (offset s : ℕ) →
        term_listed (map listed_renamed updates) offset (stands_for s) ≡ option_map renamed (term_listed updates offset s)
    listed_is_renamed [] offset s = refl
    listed_is_renamed (u ∷ us) offset s = grind (arith, common_steps, same_test u.signal s, listed_is_renamed us offset s)

    -- ---- what a term unfolds to

    module _ (at other : ℕ → FreeTree) (leaves : (s : ℕ) → other (stands_for s) ≡ free_renamed (at s)) where
      mutual
        leaves_renamed : (t : TermTree) → with_leaves other (renamed t) ≡ free_renamed (with_leaves at t)
        leaves_renamed (signal s) = leaves s
        leaves_renamed (apply f ts) = ap (applied (stands_for f)) (all_leaves_renamed ts)

        all_leaves_renamed : (ts : TermTrees) → all_with_leaves other (all_renamed ts) ≡ all_free_renamed (all_with_leaves at ts)
        all_leaves_renamed no_terms = refl
        all_leaves_renamed (more_terms t ts) = λ i. more_free (leaves_renamed t i) (all_leaves_renamed ts i)

    module _ (cells : List ℕ) (updates : List ListedTree) where
      abbrev taken : ℕ → ℕ → Option TermTree
      taken = term_taken_by_cell cells updates

      abbrev taken_too : ℕ → ℕ → Option TermTree
      taken_too = term_taken_by_cell (map stands_for cells) (map listed_renamed updates)

      taken_renamed : (offset s : ℕ) → taken_too offset (stands_for s) ≡ option_map renamed (taken offset s)
      taken_renamed offset s = grind (arith, common_steps, among_renamed cells s, listed_is_renamed updates offset s)

      signal_renamed : (step s : ℕ) → signal_unfolded taken_too step (stands_for s) ≡ free_renamed (signal_unfolded taken step s)
      signal_renamed zero s = refl
      signal_renamed (suc step) s =
          ap (leaf_after (signal_unfolded taken_too step) (suc step) (stands_for s)) (taken_renamed step s)
          ∙ by (signal_renamed step) (taken step s)
        where
          by : ((r : ℕ) → signal_unfolded taken_too step (stands_for r) ≡ free_renamed (signal_unfolded taken step r)) →
              (found : Option TermTree) →
              leaf_after (signal_unfolded taken_too step) (suc step) (stands_for s) (option_map renamed found)
              ≡ free_renamed (leaf_after (signal_unfolded taken step) (suc step) s found)
          by leaves None = refl
          by leaves (Some t) = leaves_renamed (signal_unfolded taken step) (signal_unfolded taken_too step) leaves t

      -- terms with other numbers unfold to what the terms unfold to, with these numbers
      unfolds : (step : ℕ) (ts : TermTrees) →
          all_unfolded (map stands_for cells) (map listed_renamed updates) step (all_renamed ts)
          ≡ all_free_renamed (all_unfolded cells updates step ts)
      unfolds step = all_leaves_renamed (signal_unfolded taken step) (signal_unfolded taken_too step) (signal_renamed step)

      pair_unfolds : (step : ℕ) (ts : TermTrees) →
          pair_of (all_unfolded (map stands_for cells) (map listed_renamed updates) step (all_renamed ts))
          ≡ map pair_renamed (pair_of (all_unfolded cells updates step ts))
      pair_unfolds step ts = ap pair_of (unfolds step ts) ∙ pair_of_renamed (all_unfolded cells updates step ts)

      pairs_renamed : (es : List EquatedTree) →
          listed_pairs (map stands_for cells) (map listed_renamed updates) (map equated_renamed es)
          ≡ map pair_renamed (listed_pairs cells updates es)
      pairs_renamed [] = refl
      pairs_renamed (e ∷ es) =
          (λ i. pair_unfolds e.offset e.probe.arguments i ++ pairs_renamed es i)
          ∙ sym (map-append pair_renamed (pair_of (all_unfolded cells updates e.offset e.probe.arguments)) (listed_pairs cells updates es))

    -- ---- windows

    -- what is in one class is so with the other numbers
    class_renamed : (pairs others : List PairTree) → others ≡ map pair_renamed pairs → (ps qs : List PairTree) → qs ≡ map pair_renamed ps →
        AllByRecursion (λ p. AreInOneClass pairs p.left p.right) ps → AllByRecursion (λ p. AreInOneClass others p.left p.right) qs
    class_renamed pairs others is ps qs are one =
        rw (is, are) (each_map (λ p. AreInOneClass (map pair_renamed pairs) p.left p.right) pair_renamed ps (each_weaker
        (λ p. AreInOneClass pairs p.left p.right)
        (λ p. AreInOneClass (map pair_renamed pairs) (free_renamed p.left) (free_renamed p.right))
        (λ p in_one R congruence. in_one (pulled_back R) (congruence_back pairs R congruence)) ps one))

    classes_renamed : (pairs others : List PairTree) → others ≡ map pair_renamed pairs → (xs ys us vs : FreeTrees) →
        us ≡ all_free_renamed xs → vs ≡ all_free_renamed ys → AreInOneClasses pairs xs ys → AreInOneClasses others us vs
    classes_renamed pairs others is xs ys us vs u v one =
        rw (is, u, v) (λ R congruence. all_renamed_in R xs ys (one (pulled_back R) (congruence_back pairs R congruence)))

    sides_renamed : (cells : List ℕ) (equality other : Option ℕ) (w : WindowTree) (left : Option ProbeTree) →
        AllByRecursion (IsEquality other) (right_alone (option_map probe_renamed left) (probe_renamed w.right)) →
        SidesAreOne cells equality w left →
        SidesAreOne (map stands_for cells) other (window_renamed w) (option_map probe_renamed left)
    sides_renamed cells equality other w None equal one = (
      equal.0,
      class_renamed _ _ (pairs_renamed cells w.updates w.equalities) _ _
          (pair_unfolds cells w.updates w.length w.right.arguments) one.1,
    )
    sides_renamed cells equality other w (Some left) equal one = (
      ap stands_for one.0,
      classes_renamed _ _ (pairs_renamed cells w.updates w.equalities) _ _ _ _
          (unfolds cells w.updates w.left_at left.arguments) (unfolds cells w.updates w.length w.right.arguments) one.1,
    )

    -- a congruent window is congruent with the other numbers, where what has to be an equality is one
    pub congruent_renamed : (cells : List ℕ) (equality other : Option ℕ) (w : WindowTree) →
        AllByRecursion (IsEquality other) (equality_probes (window_renamed w)) → IsCongruent cells equality w →
        IsCongruent (map stands_for cells) other (window_renamed w)
    congruent_renamed cells equality other w equal is =
        let probes = map (λ (e : EquatedTree). e.probe) (map equated_renamed w.equalities) in
        let alone = right_alone (option_map probe_renamed w.left) (probe_renamed w.right) in
        record {
          equalities = each_unmapped (IsEquality other) (λ (e : EquatedTree). e.probe) (map equated_renamed w.equalities)
              (each_left (IsEquality other) probes alone equal);
          sides = sides_renamed cells equality other w w.left (each_right (IsEquality other) probes alone equal) is.sides;
        }
