-- Where nothing is seen on a path, no congruent window is spurious along it by states with its prints.
use Rattle.std.proofs.Common.{◌≡◌, ◌∙◌, ℕ, suc, ◌+◌, ◌<◌, ◌≤◌, true, List, map, take, drop, Option, Some, None, slice_get}
use Rattle.std.proofs.Common.{refl, sym, ap, subst, arith}
use Rattle.std.proofs.Common.{length as count_of}
use Rattle.std.specs.List.{AllByRecursion, Contains}
use Rattle.std.proofs.lemmas.List.{length-map}
use Rattle.base_library.specs.Numbers.{is_among}
use Rattle.base_library.proofs.Each.{each_at, each_weaker, each_both}
use Rattle.base_library.proofs.Places.{slice_get_some, slice_get_mapped, contains_at}
use Rattle.tsl_terms.specs.TermTree.{ProbeTree}
use Rattle.tsl_terms.specs.WindowTree.{ListedTree, EquatedTree, WindowTree}
use Rattle.tsl_terms.specs.Congruence.{IsCongruent, IsEquality}
use Rattle.letter_space.specs.SpaceTree.{SpaceTree, IsSpace}
use Rattle.letter_space.specs.Vectors.{vector_count}
use Rattle.machines.specs.MachineTree.{EnvironmentTree}
use Rattle.branch_finder.specs.Spurious.{IsOneOf, IsTruthAt, SidesDiffer, IsSpurious}
use Rattle.branch_finder.specs.Finding.{IsWindowWithin}
use Rattle.branch_finder.specs.internal.Prints.{AreEqualityBits, ArePrintsWithin}
use Rattle.branch_finder.specs.internal.Sets.{set_of, HasAll, LeadsTo}
use Rattle.branch_finder.specs.internal.Paths.{vector_at, updates_along, equalities_along, path_window, IsSeen, IsSeenAlone}
use Rattle.branch_finder.specs.internal.Thinning.{IsOwn}
use Rattle.branch_finder.specs.internal.Finding.{AreAlong, HavePrints, HasNoneBy}
use Rattle.branch_finder.proofs.PathUpdates.{own_updates, along_there}
use Rattle.branch_finder.proofs.PathEqualities.{equality_there}
use Rattle.branch_finder.proofs.PathCongruence.{StandIn, congruent_on_path}
use Rattle.branch_finder.proofs.SetLemmas.{taken_before}
use Rattle.branch_finder.proofs.Seen.{print_has, each_is_equality}
use Rattle.branch_finder.proofs.ToldApart.{leads_along, leads_by}

module _ (space : SpaceTree) (e : EnvironmentTree) (cells : List ℕ) (equality : Option ℕ) (mask : ℕ) (path prints : List ℕ)
    (is_space : IsSpace space) (vectors_counted : e.vectors ≡ vector_count space.controlled)
    (path_within : AllByRecursion (λ v. v < e.vectors) path) (one_more : count_of prints ≡ suc (count_of path))
    (bits : AreEqualityBits space equality mask) (within_mask : ArePrintsWithin mask prints) where
  sets_counted : count_of (map (set_of space cells) path) ≡ count_of path
  sets_counted = length-map path (set_of space cells)

  module _ (w : WindowTree) (long : w.length ≡ count_of path) (within : IsWindowWithin cells (count_of path) w)
      (congruent : IsCongruent cells equality w) (spurious : IsSpurious space e w) (agrees : AreAlong space cells path spurious.vector)
      (printed : HavePrints e mask prints spurious.state) where
    abbrev all : List ListedTree
    all = updates_along space.controlled cells 0 path

    abbrev every : List EquatedTree
    every = equalities_along space.predicates 0 prints

    one_before : (u : ListedTree) → is_among cells u.signal ≡ true → u.offset < w.length → IsOneOf space (spurious.vector u.offset) u →
        (j : ℕ) × (slice_get all j ≡ Some u)
    one_before u among below one =
        let v = slice_get_some path u.offset (omega (arith, below, long)) in
        let agreed = agrees u.offset v.0 v.1 in
        let inside = each_at (λ n. n < e.vectors) path u.offset v.0 path_within v.1 in
        let there = along_there space.controlled cells u.signal u.term among 0 path u.offset v.0 v.1
        (taken_before space is_space cells v.0 (spurious.vector u.offset) u.signal (omega (arith, inside, vectors_counted)) agreed.0
        among agreed.1 u.term one) in
        let place : 0 + u.offset ≡ u.offset = omega arith in
        (there.0, there.1 ∙ ap (λ n. Some (record { signal = u.signal; term = u.term; offset = n })) place)

    stand : StandIn w.updates all
    stand =
        each_both (λ u. (is_among cells u.signal ≡ true) × (u.offset < w.length)) (λ u. IsOneOf space (spurious.vector u.offset) u)
        (λ u. (j : ℕ) × (slice_get all j ≡ Some u)) (λ u own one. one_before u own.0 own.1 one) w.updates within.listed spurious.listed

    equality_before : (q : EquatedTree) → IsEquality equality q.probe → q.offset ≤ w.length →
        IsTruthAt space e (spurious.state q.offset) q.probe true → Contains every q
    equality_before q is inside truth =
        let print = slice_get_some prints q.offset (omega (arith, inside, long, one_more)) in
        let has = print_has e mask print.0 (spurious.state q.offset) truth.bit truth.truths (printed q.offset print.0 print.1)
        truth.are_truths
        truth.stands (bits.all truth.bit q.probe truth.is_bit is) in
        let there = equality_there space.predicates 0 prints q.offset print.0 truth.bit q.probe print.1 truth.is_bit has in
        let place : 0 + q.offset ≡ q.offset = omega arith in
        contains_at every there.0 q (there.1 ∙ ap (λ n. Some (record { probe = q.probe; offset = n })) place)

    stand_too : AllByRecursion (λ q. Contains every q) w.equalities
    stand_too =
        each_both (λ q. IsEquality equality q.probe) (λ q. (q.offset ≤ w.length) × IsTruthAt space e (spurious.state q.offset) q.probe true)
        (λ q. Contains every q) (λ q is both. equality_before q is both.0 both.1) w.equalities congruent.equalities
        (each_both (λ q. q.offset ≤ w.length) (λ q. IsTruthAt space e (spurious.state q.offset) q.probe true)
        (λ q. (q.offset ≤ w.length) × IsTruthAt space e (spurious.state q.offset) q.probe true) (λ q inside truth. (inside, truth))
        w.equalities within.equal spurious.equal)

    full : IsCongruent cells equality (record w { updates = all; equalities = every })
    full =
        congruent_on_path space cells (vector_at path) equality w all every stand
        (each_weaker (IsOwn space cells (vector_at path) 0 (count_of path)) (λ u. IsOneOf space (vector_at path u.offset) u)
        (λ u own. own.one) all (own_updates space cells path))
        stand_too (each_is_equality space equality mask prints bits within_mask) congruent

    along : (left : Option ProbeTree) → w.left ≡ left →
        IsCongruent cells equality (path_window space cells path prints left w.left_at w.right)
    along left is = subst (IsCongruent cells equality) (λ i. record {
      left = is i;
      left_at = w.left_at;
      right = w.right;
      length = long i;
      updates = all;
      equalities = every;
    }) full

    -- without a left probe it does not matter where it would stand
    along_alone : w.left ≡ None → IsCongruent cells equality (path_window space cells path prints None 0 w.right)
    along_alone is = let there = along None is in record { equalities = there.equalities; sides = there.sides }

    had : (t set : ℕ) → slice_get (map (set_of space cells) path) t ≡ Some set → HasAll space set (spurious.vector t)
    had t set at =
        let there = slice_get_mapped (set_of space cells) path t set at in
        subst (λ n. HasAll space n (spurious.vector t)) there.2 (agrees t there.0 there.1).1

    led_by : LeadsTo space e mask (take w.left_at (map (set_of space cells) path)) (take (suc w.left_at) prints) (spurious.state 0)
        (spurious.state w.left_at)
        × LeadsTo space e mask (drop w.left_at (map (set_of space cells) path)) (drop w.left_at prints) (spurious.state w.left_at)
        (spurious.state (count_of (map (set_of space cells) path)))
    led_by =
        leads_by space e mask w.left_at (map (set_of space cells) path) prints spurious.state spurious.vector
        (omega (arith, within.left_within, long, sets_counted)) (omega (arith, one_more, sets_counted))
        (λ t below. spurious.steps t (omega (arith, below, long, sets_counted))) had printed

    led : LeadsTo space e mask (map (set_of space cells) path) prints (spurious.state 0)
        (spurious.state (count_of (map (set_of space cells) path)))
    led =
        leads_along space e mask (map (set_of space cells) path) prints spurious.state spurious.vector
        (omega (arith, one_more, sets_counted))
        (λ t below. spurious.steps t (omega (arith, below, long, sets_counted))) had printed

    at_end : (truths : ℕ) → slice_get e.truths (spurious.state w.length) ≡ Some truths →
        slice_get e.truths (spurious.state (count_of (map (set_of space cells) path))) ≡ Some truths
    at_end truths at = ap (λ n. slice_get e.truths (spurious.state n)) (sets_counted ∙ sym long) ∙ at

    pub seen_by : (left : ProbeTree) → w.left ≡ Some left → SidesDiffer space e spurious.state w (Some left) →
        (l : ℕ) × (r : ℕ) × IsSeen space e cells equality mask path prints (record { left_at = w.left_at; left = l; right = r })
    seen_by left is differ =
        let there = differ.1 in
        let last = differ.2 in (
          there.bit,
          last.bit,
          record {
            within = omega (arith, long, within.left_within);
            left = left;
            is_left = there.is_bit;
            right = w.right;
            is_right = last.is_bit;
            congruent = along (Some left) is;
            told = record {
              start = spurious.state 0;
              visited = spurious.visited;
              middle = spurious.state w.left_at;
              before = led_by.0;
              wanted = differ.0;
              left = record { truths = there.truths; at = there.are_truths; is = there.stands };
              last = spurious.state (count_of (map (set_of space cells) path));
              after = led_by.1;
              right = record { truths = last.truths; at = at_end last.truths last.are_truths; is = last.stands };
            };
          },
        )

    pub seen_alone_by : w.left ≡ None → SidesDiffer space e spurious.state w None →
        (r : ℕ) × IsSeenAlone space e cells equality mask path prints r
    seen_alone_by is last = (
      last.bit,
      record {
        probe = w.right;
        is_probe = last.is_bit;
        congruent = along_alone is;
        told = record {
          start = spurious.state 0;
          visited = spurious.visited;
          last = spurious.state (count_of (map (set_of space cells) path));
          leads = led;
          false_there = record { truths = last.truths; at = at_end last.truths last.are_truths; is = last.stands };
        };
      },
    )

  pub none_seen : ((left_at left right : ℕ) →
      IsSeen space e cells equality mask path prints (record { left_at = left_at; left = left; right = right }) → ⊥) →
      ((right : ℕ) → IsSeenAlone space e cells equality mask path prints right → ⊥) → HasNoneBy space e cells equality mask path prints
  none_seen unseen unseen_alone w long within congruent spurious agrees printed = by w.left refl spurious.differ
    where
      by : (left : Option ProbeTree) → w.left ≡ left → SidesDiffer space e spurious.state w left → ⊥
      by None is differ =
          let seen = seen_alone_by w long within congruent spurious agrees printed is differ in
          unseen_alone seen.0 seen.1
      by (Some left) is differ =
          let seen = seen_by w long within congruent spurious agrees printed left is differ in
          unseen w.left_at seen.0 seen.1 seen.2
