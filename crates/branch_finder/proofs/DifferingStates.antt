-- Where the states that an environment visits differ in nothing that a congruent window speaks of, no window is spurious.
use Rattle.std.proofs.Common.{ℕ, zero, suc, ◌<◌, ◌≤◌, Bool, false, not, List, Option, Some, None, arith}
use Rattle.std.proofs.Common.{length as count_of}
use Rattle.std.proofs.lemmas.Option.{slice_get_within}
use Rattle.tsl_terms.specs.TermTree.{ProbeTree}
use Rattle.tsl_terms.specs.WindowTree.{WindowTree}
use Rattle.tsl_terms.specs.Congruence.{SidesAreOne, IsCongruent}
use Rattle.letter_space.specs.SpaceTree.{SpaceTree}
use Rattle.machines.specs.MachineTree.{EnvironmentTree}
use Rattle.machines.specs.Visits.{IsVisited, by_vector}
use Rattle.branch_finder.specs.Spurious.{IsTruthAt, SidesDiffer, IsSpurious}
use Rattle.branch_finder.specs.internal.Prints.{AreEqualityBits}
use Rattle.branch_finder.specs.internal.Differing.{IsEver, DifferSomewhere, IsFalseSomewhere}

module _ (space : SpaceTree) (e : EnvironmentTree) (cells : List ℕ) (equality : Option ℕ) (mask : ℕ)
    (bits : AreEqualityBits space equality mask) (w : WindowTree) (within : w.left_at ≤ w.length)
    (congruent : IsCongruent cells equality w) (spurious : IsSpurious space e w) where
  -- the states of a spurious window's path are visited
  all_visited : (t : ℕ) → t ≤ w.length → IsVisited e (spurious.state t)
  all_visited zero _ = spurious.visited
  all_visited (suc t) inside =
      by_vector (spurious.state t) (spurious.vector t) (spurious.state (suc t)) (all_visited t (omega (arith, inside)))
      (spurious.steps t (omega (arith, inside)))

  ever : (t : ℕ) (p : ProbeTree) (wanted : Bool) → t ≤ w.length → (truth : IsTruthAt space e (spurious.state t) p wanted) →
      IsEver e truth.bit wanted
  ever t p wanted inside truth = record {
    state = spurious.state t;
    visited = all_visited t inside;
    truth = record { truths = truth.truths; at = truth.are_truths; is = truth.stands };
  }

  -- if it has a left probe, then two bits differ somewhere, and else an equality is false somewhere
  pub none_spurious : ((left right : ℕ) → left < count_of space.predicates → right < count_of space.predicates →
      DifferSomewhere space e left right → ⊥) →
      ((right : ℕ) → right < count_of space.predicates → IsFalseSomewhere e mask right → ⊥) → ⊥
  none_spurious alike none_false = by w.left spurious.differ congruent.sides
    where
      by : (left : Option ProbeTree) → SidesDiffer space e spurious.state w left → SidesAreOne cells equality w left → ⊥
      by None last one =
          none_false last.bit (slice_get_within space.predicates last.bit w.right last.is_bit) (record {
            is_equality = bits.all last.bit w.right last.is_bit one.0;
            ever = ever w.length w.right false (omega arith) last;
          })
      by (Some left) differ one =
          let there = differ.1 in
          let last = differ.2 in
          let left_within = slice_get_within space.predicates there.bit left there.is_bit in
          let right_within = slice_get_within space.predicates last.bit w.right last.is_bit in
          alike there.bit last.bit left_within right_within (record {
            predicate = record {
              left_probe = left;
              is_left = there.is_bit;
              right_probe = w.right;
              is_right = last.is_bit;
              same = one.0;
            };
            wanted = differ.0;
            left_is = ever w.left_at left differ.0 within there;
            right_is = ever w.length w.right (not differ.0) (omega arith) last;
          })
