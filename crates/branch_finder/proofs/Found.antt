-- What is thinned out is found, and where there is none along each path there is none.
use Rattle.std.proofs.Common.{◌≡◌, ◌∙◌, ℕ, suc, ◌^◌, ◌<◌, ◌≤◌, nat_le, nat_lt, Bool, true, false, ◌&&◌, ◌==◌, List, map}
use Rattle.std.proofs.Common.{Option, Some, None, refl, sym, ap, subst, arith, eq-eqb}
use Rattle.std.proofs.Common.{length as count_of}
use Rattle.std.specs.List.{AllByRecursion, list_all}
use Rattle.std.proofs.lemmas.Bool.{and_from, lt-ltb, le-leb}
use Rattle.std.proofs.lemmas.List.{length-map}
use Rattle.std.proofs.lemmas.Option.{slice_get_within, slice_get-get_or}
use Rattle.base_library.specs.Numbers.{is_among}
use Rattle.base_library.proofs.Each.{each_at, each_map, each_weaker, each_joined}
use Rattle.base_library.proofs.Passes.{list_all_from_each}
use Rattle.base_library.proofs.Places.{slice_get_one, slice_get_mapped}
use Rattle.tsl_terms.specs.TermTree.{ProbeTree, count_of_terms}
use Rattle.tsl_terms.specs.WindowTree.{EquatedTree, WindowTree, right_alone, equality_probes}
use Rattle.tsl_terms.specs.Congruence.{IsEquality, SidesAreOne}
use Rattle.program_tree.specs.Fits.{longest, rises, are_in_order, left_is_shaped, equalities_are_shaped, window_is_shaped}
use Rattle.letter_space.specs.SpaceTree.{SpaceTree, IsSpace}
use Rattle.letter_space.specs.Vectors.{vector_count}
use Rattle.machines.specs.MachineTree.{EnvironmentTree}
use Rattle.branch_finder.specs.Spurious.{IsTruthAt, SidesDiffer}
use Rattle.branch_finder.specs.Finding.{IsWindowWithin, HasNoSpuriousWindow, IsFoundWindow}
use Rattle.branch_finder.specs.internal.Sets.{set_of, first_of, numbered_set, HasAll, AreFirsts}
use Rattle.branch_finder.specs.internal.Paths.{path_of}
use Rattle.branch_finder.specs.internal.Thinning.{IsCandidate, AreNeededFrom, AreEqualitiesNeededFrom}
use Rattle.branch_finder.specs.internal.Finding.{IsFoundOf, HasNoneOn, HasNoneOf}
use Rattle.branch_finder.proofs.UpdateOrder.{rises_one_by_one}
use Rattle.branch_finder.proofs.Paths.{path_length, number_of_path}
use Rattle.branch_finder.proofs.SetLemmas.{own_set}
use Rattle.branch_finder.proofs.VisitLemmas.{vector_within}

-- ---- what is thinned out

module _ (space : SpaceTree) (e : EnvironmentTree) (cells : List ℕ) (equality : Option ℕ) (length : ℕ) (w : WindowTree)
    (is : IsCandidate space e cells equality length w) where
  -- the probes that have to be equalities have two arguments
  two_each : AllByRecursion (λ p. (count_of_terms p.arguments == 2) ≡ true) (equality_probes w)
  two_each =
      each_joined (λ p. (count_of_terms p.arguments == 2) ≡ true) (map (λ (q : EquatedTree). q.probe) w.equalities)
      (right_alone w.left w.right)
      (each_map (λ p. (count_of_terms p.arguments == 2) ≡ true) (λ (q : EquatedTree). q.probe) w.equalities
      (each_weaker (λ q. IsEquality equality q.probe) (λ q. (count_of_terms q.probe.arguments == 2) ≡ true)
      (λ q one. eq-eqb (count_of_terms q.probe.arguments) 2 one.two) w.equalities is.congruent.equalities))
      (alone w.left is.congruent.sides)
    where
      alone : (left : Option ProbeTree) → SidesAreOne cells equality w left →
          AllByRecursion (λ p. (count_of_terms p.arguments == 2) ≡ true) (right_alone left w.right)
      alone None sides = (eq-eqb (count_of_terms w.right.arguments) 2 sides.0.two, tt)
      alone (Some left) sides = tt

  updates_shaped : (list_all (λ u. nat_lt u.offset w.length && is_among cells u.signal) w.updates && rises cells w.updates) ≡ true
  updates_shaped =
      and_from (list_all (λ u. nat_lt u.offset w.length && is_among cells u.signal) w.updates) (rises cells w.updates)
      (list_all_from_each (λ u. nat_lt u.offset w.length && is_among cells u.signal) w.updates
      (each_weaker (λ u. (is_among cells u.signal ≡ true) × (u.offset < w.length))
      (λ u. (nat_lt u.offset w.length && is_among cells u.signal) ≡ true)
      (λ u own. and_from (nat_lt u.offset w.length) (is_among cells u.signal) (lt-ltb u.offset w.length own.1) own.0)
      w.updates is.within.listed))
      (rises_one_by_one cells w.updates is.rise)

  equalities_shaped : equalities_are_shaped w ≡ true
  equalities_shaped =
      and_from (list_all (λ q. nat_le q.offset w.length) w.equalities && are_in_order w.equalities)
      (list_all (λ p. count_of_terms p.arguments == 2) (equality_probes w))
      (and_from (list_all (λ q. nat_le q.offset w.length) w.equalities) (are_in_order w.equalities)
      (list_all_from_each (λ q. nat_le q.offset w.length) w.equalities
      (each_weaker (λ q. q.offset ≤ w.length) (λ q. nat_le q.offset w.length ≡ true) (λ q inside. le-leb q.offset w.length inside)
      w.equalities is.within.equal))
      is.in_order)
      (list_all_from_each (λ p. count_of_terms p.arguments == 2) (equality_probes w) two_each)

  shaped : length ≤ 3 → window_is_shaped cells w ≡ true
  shaped short =
      and_from
      ((nat_le w.length longest && nat_le w.left_at w.length)
      && (list_all (λ u. nat_lt u.offset w.length && is_among cells u.signal) w.updates && rises cells w.updates))
      (left_is_shaped w.left w.left_at && equalities_are_shaped w)
      (and_from (nat_le w.length longest && nat_le w.left_at w.length)
      (list_all (λ u. nat_lt u.offset w.length && is_among cells u.signal) w.updates && rises cells w.updates)
      (and_from (nat_le w.length longest) (nat_le w.left_at w.length) (le-leb w.length longest (omega (arith, short, is.long)))
      (le-leb w.left_at w.length is.within.left_within))
      updates_shaped)
      (and_from (left_is_shaped w.left w.left_at) (equalities_are_shaped w) is.left_shaped equalities_shaped)

  pub thinned_found : length ≤ 3 → AreNeededFrom cells equality 0 w → AreEqualitiesNeededFrom cells equality 0 w →
      IsFoundOf space e cells equality length w
  thinned_found short needed needed_too = record {
    long = is.long;
    within = is.within;
    shaped = shaped short;
    congruent = is.congruent;
    spurious = is.spurious;
    needed = λ place below one. needed place (omega arith) below one;
    needed_equalities = λ place below one. needed_too place (omega arith) below one;
  }

-- ---- windows of one length

pub none_of_length : (space : SpaceTree) (e : EnvironmentTree) (cells : List ℕ) (equality : Option ℕ) (firsts : List ℕ) (length : ℕ) →
    IsSpace space →
    e.vectors ≡ vector_count space.controlled → AreFirsts space cells e.vectors firsts →
    ((n : ℕ) → n < count_of firsts ^ length → HasNoneOn space e cells equality
    (map (first_of firsts) (path_of (count_of firsts) length n))) →
    HasNoneOf space e cells equality length
none_of_length space e cells equality firsts length is_space vectors_counted are none w long within congruent spurious =
    let found = number_of_path (count_of firsts) length (λ t k. HasAll space (numbered_set space cells firsts k) (spurious.vector t)) some in
    let path = path_of (count_of firsts) length found.number in
    let sized : count_of (map (first_of firsts) path) ≡ length
    = length-map path (first_of firsts) ∙ path_length (count_of firsts) length found.number in
    none found.number found.below w (long ∙ sym sized) (subst (λ n. IsWindowWithin cells n w) (sym sized) within) congruent spurious
    (λ t v at.
    let there = slice_get_mapped (first_of firsts) path t v at in
    let below : t < length
    = omega (arith, slice_get_within (map (first_of firsts) path) t v at, sized) in
    let chosen = found.each t below in
    let same : chosen.0 ≡ there.0 = slice_get_one path t chosen.0 there.0 chosen.1 there.1 in (
      omega (arith, stepped t below, vectors_counted),
      subst (λ n. HasAll space (set_of space cells n) (spurious.vector t)) (ap (first_of firsts) same ∙ there.2) chosen.2,
    ))
  where
    stepped : (t : ℕ) → t < length → spurious.vector t < e.vectors
    stepped t below =
        vector_within e (spurious.state t) (spurious.vector t) (spurious.state (suc t)) (spurious.steps t (omega (arith, below, long)))

    some : (t : ℕ) → t < length → (k : ℕ) × (k < count_of firsts) × HasAll space (numbered_set space cells firsts k) (spurious.vector t)
    some t below =
        let found = are.all (spurious.vector t) (stepped t below) in (
          found.0,
          found.1,
          subst (λ set. HasAll space set (spurious.vector t)) (sym found.2)
              (own_set space is_space cells (spurious.vector t) (omega (arith, stepped t below, vectors_counted))),
        )

-- ---- windows within a depth

module _ (space : SpaceTree) (e : EnvironmentTree) (cells : List ℕ) (equality : Option ℕ) where
  -- where there is none of any length up to one, there is none within it
  pub none_within : (depth : ℕ) → ((n : ℕ) → n ≤ depth → HasNoneOf space e cells equality n) →
      HasNoSpuriousWindow space e cells equality depth
  none_within depth none w within congruent spurious =
      none w.length within.short w refl
      (record { short = omega arith; left_within = within.left_within; listed = within.listed; equal = within.equal }) congruent spurious

  -- the first one that is found is the least
  pub found_least : (depth length : ℕ) (w : WindowTree) → length ≤ depth → ((n : ℕ) → n < length → HasNoneOf space e cells equality n) →
      IsFoundOf space e cells equality length w → IsFoundWindow space e cells equality depth w
  found_least depth length w inside none found = record {
    within = record {
      short = omega (arith, inside, found.long);
      left_within = found.within.left_within;
      listed = found.within.listed;
      equal = found.within.equal;
    };
    shaped = found.shaped;
    congruent = found.congruent;
    spurious = found.spurious;
    least = λ shorter below. none_within shorter (λ n few. none n (omega (arith, few, below, found.long)));
    needed = found.needed;
    needed_equalities = found.needed_equalities;
  }

  -- without predicate terms there is none
  pub none_without_probes : (depth : ℕ) → count_of space.predicates ≡ 0 → HasNoSpuriousWindow space e cells equality depth
  none_without_probes depth empty w within congruent spurious = by w.left spurious.differ
    where
      no_truth : (state : ℕ) (probe : ProbeTree) (truth : Bool) → IsTruthAt space e state probe truth → ⊥
      no_truth state probe truth is = omega (arith, slice_get_within space.predicates is.bit probe is.is_bit, empty)

      by : (left : Option ProbeTree) → SidesDiffer space e spurious.state w left → ⊥
      by None differ = no_truth (spurious.state w.length) w.right false differ
      by (Some left) differ = no_truth (spurious.state w.left_at) left differ.0 differ.1

-- ---- first vectors

-- with a vector there is a set
pub some_first : (space : SpaceTree) (cells firsts : List ℕ) (vectors : ℕ) → AreFirsts space cells vectors firsts → 1 ≤ vectors →
    1 ≤ count_of firsts
some_first space cells firsts vectors are some = let first = are.all 0 (omega (arith, some)) in omega (arith, first.1)

-- a path of first vectors is one of vectors
pub firsts_within : (firsts numbers : List ℕ) (vectors : ℕ) → AllByRecursion (λ v. v < vectors) firsts →
    AllByRecursion (λ n. n < count_of firsts) numbers → AllByRecursion (λ v. v < vectors) (map (first_of firsts) numbers)
firsts_within firsts numbers vectors within below =
    each_map (λ v. v < vectors) (first_of firsts) numbers
    (each_weaker (λ n. n < count_of firsts) (λ n. first_of firsts n < vectors)
    (λ n inside. each_at (λ v. v < vectors) firsts n (first_of firsts n) within (slice_get-get_or firsts n 0 inside)) numbers below)
