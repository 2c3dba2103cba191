-- Examples of the definitions: an input 0, a cell 1 that may keep itself or copy the input, a predicate 3 of each, and an equality 5
-- of both.
use Rattle.std.proofs.Common.{◌≡◌, ◌∙◌, ℕ, zero, suc, ◌<◌, Bool, true, false, not, List, [], ◌∷◌, Option, Some, None, slice_get}
use Rattle.std.proofs.Common.{refl, sym, ap, subst, arith}
use Rattle.std.proofs.lemmas.Bool.{false≢true}
use Rattle.std.proofs.lemmas.Option.{none-some, same_Some}
use Rattle.base_library.specs.Once.{StandOnce}
use Rattle.tsl_terms.specs.TermTree.{TermTree, signal, apply, TermTrees, no_terms, more_terms, ProbeTree}
use Rattle.tsl_terms.specs.WindowTree.{ListedTree, WindowTree}
use Rattle.tsl_terms.specs.FreeTree.{FreeTree, leaf_at, applied, FreeTrees, no_free, more_free}
use Rattle.tsl_terms.specs.Unfolding.{with_leaves, all_with_leaves, all_unfolded}
use Rattle.tsl_terms.specs.Congruence.{IsCongruent}
use Rattle.tsl_terms.proofs.PlainWindows.{congruent_is_plain, plain_is_congruent}
use Rattle.tsl_terms.proofs.SingleClasses.{one_classes_are_one}
use Rattle.ltl_formula.specs.Cubes.{has_bit}
use Rattle.letter_space.specs.SpaceTree.{SpaceTree}
use Rattle.machines.specs.MachineTree.{EnvironmentTree, successor_at}
use Rattle.machines.specs.Visits.{at_start}
use Rattle.branch_finder.specs.Spurious.{IsOneOf, SidesDiffer, IsSpurious}
use Rattle.branch_finder.specs.Finding.{IsWindowWithin, HasNoSpuriousWindow, without_update, without_equality, IsFoundWindow, branch_count}
use Rattle.branch_finder.specs.internal.Prints.{HasPrint}
use Rattle.branch_finder.specs.internal.Arguments.{start_of}
use Rattle.branch_finder.specs.internal.Paths.{equalities_along}

abbrev probe_of : ℕ → ProbeTree
probe_of s = record { predicate = 3; arguments = more_terms (signal s) no_terms }

abbrev space_of_two : SpaceTree
space_of_two = record {
  predicates = probe_of 0 ∷ probe_of 1 ∷ [];
  controlled = record { signal = 1; choices = signal 1 ∷ signal 0 ∷ []; first = 2 } ∷ [];
}

-- the predicate holds of the input at all times, and never of the cell
abbrev unmoved : EnvironmentTree
unmoved = record { states = 1; vectors = 2; truths = 1 ∷ []; next = 0 ∷ 0 ∷ [] }

-- the predicate holds of the cell in the second state alone, which follows the first
abbrev moved : EnvironmentTree
moved = record { states = 2; vectors = 2; truths = 1 ∷ 3 ∷ []; next = 1 ∷ 1 ∷ 1 ∷ 1 ∷ [] }

abbrev copies : ListedTree
copies = record { signal = 1; term = signal 0; offset = 0 }

abbrev keeps : ListedTree
keeps = record { signal = 1; term = signal 1; offset = 0 }

-- the first vector keeps the cell, and the second copies the input
keeps_by_the_first : IsOneOf space_of_two 0 keeps
keeps_by_the_first = refl

copies_by_the_second : IsOneOf space_of_two 1 copies
copies_by_the_second = refl

no_copy_by_the_first : IsOneOf space_of_two 0 copies → ⊥
no_copy_by_the_first is = cc

no_update_of_the_input : IsOneOf space_of_two 0 (record { signal = 0; term = signal 0; offset = 0 }) → ⊥
no_update_of_the_input is = cc

-- the cell after the input is copied, and after the cell is kept
abbrev copied : WindowTree
copied = record { left = Some (probe_of 0); left_at = 0; right = probe_of 1; length = 1; updates = copies ∷ []; equalities = [] }

abbrev kept : WindowTree
kept = record { left = Some (probe_of 1); left_at = 0; right = probe_of 1; length = 1; updates = keeps ∷ []; equalities = [] }

copied_is_spurious : IsSpurious space_of_two unmoved copied
copied_is_spurious = record {
  state = λ t. 0;
  vector = λ t. 1;
  visited = at_start;
  steps = λ t below. refl;
  listed = (refl, tt);
  equal = tt;
  differ = (
    true,
    record { bit = 0; is_bit = refl; truths = 1; are_truths = refl; stands = refl },
    record { bit = 1; is_bit = refl; truths = 1; are_truths = refl; stands = refl },
  );
}

first_step : (t : ℕ) → t < 1 → successor_at moved t 0 ≡ Some (suc t)
first_step zero below = refl
first_step (suc t) below = absurd (omega arith)

kept_is_spurious : IsSpurious space_of_two moved kept
kept_is_spurious = record {
  state = λ t. t;
  vector = λ t. 0;
  visited = at_start;
  steps = first_step;
  listed = (refl, tt);
  equal = tt;
  differ = (
    false,
    record { bit = 1; is_bit = refl; truths = 1; are_truths = refl; stands = refl },
    record { bit = 1; is_bit = refl; truths = 3; are_truths = refl; stands = refl },
  );
}

-- a probe that has no bit
abbrev first_read : TermTrees → ℕ
first_read (more_terms (signal s) ts) = s
first_read (more_terms (apply f us) ts) = 0
first_read no_terms = 0

abbrev signal_read : Option ProbeTree → ℕ
signal_read None = 0
signal_read (Some p) = first_read p.arguments

without_a_bit : (b : ℕ) → slice_get (space_of_two.predicates) b ≡ Some (probe_of 2) → ⊥
without_a_bit zero is = omega (arith, ap signal_read is)
without_a_bit (suc zero) is = omega (arith, ap signal_read is)
without_a_bit (suc (suc b)) is = none-some (probe_of 2) is

no_bit : IsSpurious space_of_two unmoved (record copied { left = Some (probe_of 2) }) → ⊥
no_bit is = without_a_bit is.differ.1.bit is.differ.1.is_bit

-- without a left probe it is enough that the right one is false
alone_is_spurious : IsSpurious space_of_two unmoved (record copied { left = None })
alone_is_spurious = record {
  state = λ t. 0;
  vector = λ t. 1;
  visited = at_start;
  steps = λ t below. refl;
  listed = (refl, tt);
  equal = tt;
  differ = record { bit = 1; is_bit = refl; truths = 1; are_truths = refl; stands = refl };
}

-- but it is congruent only where the right one is an equality
alone_is_not_congruent : IsCongruent (1 ∷ []) None (record copied { left = None }) → ⊥
alone_is_not_congruent is = none-some 3 is.sides.0.predicate

-- the bit of the cell, and what is true in the one state
bit_of_the_cell : (b : ℕ) → slice_get (space_of_two.predicates) b ≡ Some (probe_of 1) → b ≡ 1
bit_of_the_cell zero is = absurd (omega (arith, ap signal_read is))
bit_of_the_cell (suc zero) is = refl
bit_of_the_cell (suc (suc b)) is = absurd (none-some (probe_of 1) is)

one_valuation : (s truths : ℕ) → slice_get (unmoved.truths) s ≡ Some truths → truths ≡ 1
one_valuation zero truths at = sym (same_Some 1 truths at)
one_valuation (suc s) truths at = absurd (none-some truths at)

never_its_own_opposite : (b : Bool) → b ≡ not b → ⊥
never_its_own_opposite true same = false≢true (sym same)
never_its_own_opposite false same = false≢true same

-- with one state, what is true of the cell stays as it is
kept_is_not_spurious : IsSpurious space_of_two unmoved kept → ⊥
kept_is_not_spurious is =
    let left = is.differ.1 in
    let right = is.differ.2 in
    let bit = bit_of_the_cell left.bit left.is_bit ∙ sym (bit_of_the_cell right.bit right.is_bit) in
    let truths = one_valuation (is.state 0) left.truths left.are_truths ∙ sym (one_valuation (is.state 1) right.truths right.are_truths) in
    never_its_own_opposite is.differ.0 (sym left.stands ∙ (λ i. has_bit (bit i) (truths i)) ∙ right.stands)

copied_is_within : IsWindowWithin (1 ∷ []) 1 copied
copied_is_within = record { short = omega arith; left_within = omega arith; listed = ((refl, omega arith), tt); equal = tt }

kept_is_within : IsWindowWithin (1 ∷ []) 3 kept
kept_is_within = record { short = omega arith; left_within = omega arith; listed = ((refl, omega arith), tt); equal = tt }

copied_is_too_long : IsWindowWithin (1 ∷ []) 0 copied → ⊥
copied_is_too_long is = omega (arith, is.short)

copied_is_of_no_cell : IsWindowWithin (0 ∷ []) 1 copied → ⊥
copied_is_of_no_cell is = false≢true is.listed.0.0

-- ---- what is found

no_leaf : (s t f : ℕ) (xs : FreeTrees) → leaf_at s t ≡ applied f xs → ⊥
no_leaf s t f xs e = cc

none_is_some : (x : FreeTree) (xs : FreeTrees) → no_free ≡ more_free x xs → ⊥
none_is_some x xs e = cc

one_step : (r t s u : ℕ) → more_free (leaf_at r t) no_free ≡ more_free (leaf_at s u) no_free → t ≡ u
one_step r t s u e = cc

-- at the first step nothing has unfolded
mutual
  one_term : (t u : TermTree) → with_leaves (λ s. leaf_at s 0) t ≡ with_leaves (λ s. leaf_at s 0) u → t ≡ u
  one_term (signal r) (signal s) e = let same : r ≡ s = cc in ap signal same
  one_term (signal r) (apply g us) e = absurd (no_leaf r 0 g (all_with_leaves (λ s. leaf_at s 0) us) e)
  one_term (apply f ts) (signal s) e = absurd (no_leaf s 0 f (all_with_leaves (λ s. leaf_at s 0) ts) (sym e))
  one_term (apply f ts) (apply g us) e =
      let function : f ≡ g = cc in
      let arguments : all_with_leaves (λ s. leaf_at s 0) ts ≡ all_with_leaves (λ s. leaf_at s 0) us = cc in
      let same = some_terms ts us arguments in
      λ i. apply (function i) (same i)

  some_terms : (ts us : TermTrees) → all_with_leaves (λ s. leaf_at s 0) ts ≡ all_with_leaves (λ s. leaf_at s 0) us → ts ≡ us
  some_terms no_terms no_terms e = refl
  some_terms no_terms (more_terms u us) e = absurd (none_is_some (with_leaves (λ s. leaf_at s 0) u) (all_with_leaves (λ s. leaf_at s 0) us) e)
  some_terms (more_terms t ts) no_terms e =
      absurd (none_is_some (with_leaves (λ s. leaf_at s 0) t) (all_with_leaves (λ s. leaf_at s 0) ts) (sym e))
  some_terms (more_terms t ts) (more_terms u us) e =
      let first : with_leaves (λ s. leaf_at s 0) t ≡ with_leaves (λ s. leaf_at s 0) u = cc in
      let rest : all_with_leaves (λ s. leaf_at s 0) ts ≡ all_with_leaves (λ s. leaf_at s 0) us = cc in
      let same = one_term t u first in
      let others = some_terms ts us rest in
      λ i. more_terms (same i) (others i)

-- so a window of no step that is congruent compares a probe with itself
no_window_of_no_step : (space : SpaceTree) (e : EnvironmentTree) (cells : List ℕ) → StandOnce space.predicates →
    HasNoSpuriousWindow space e cells None 0
no_window_of_no_step space e cells once w within congruent spurious =
    let last : w.length ≡ 0 = omega (arith, within.short) in
    let first : w.left_at ≡ 0 = omega (arith, within.short, within.left_within) in
    let plain = congruent_is_plain cells w congruent in
    let left = plain.left in
    let unfolded : all_with_leaves (λ s. leaf_at s 0) left.arguments ≡ all_with_leaves (λ s. leaf_at s 0) w.right.arguments
    = sym (ap (λ n. all_unfolded cells w.updates n left.arguments) first) ∙ plain.arguments
    ∙ ap (λ n. all_unfolded cells w.updates n w.right.arguments) last in
    let arguments = some_terms left.arguments w.right.arguments unfolded in
    let probe : left ≡ w.right = λ i. record { predicate = plain.predicate i; arguments = arguments i } in
    let differ = subst (SidesDiffer space e spurious.state w) plain.is_left spurious.differ in
    let at = differ.1 in
    let at_too = differ.2 in
    let bit = once at.bit at_too.bit left at.is_bit (at_too.is_bit ∙ ap Some (sym probe)) in
    let truths = same_Some at.truths at_too.truths
    (sym at.are_truths ∙ ap (λ n. slice_get e.truths (spurious.state n)) (first ∙ sym last) ∙ at_too.are_truths) in
    never_its_own_opposite differ.0 (sym at.stands ∙ (λ i. has_bit (bit i) (truths i)) ∙ at_too.stands)

two_probes_once : StandOnce space_of_two.predicates
two_probes_once zero zero p at too = refl
two_probes_once zero (suc zero) p at too = absurd (omega (arith, ap signal_read (at ∙ sym too)))
two_probes_once zero (suc (suc j)) p at too = absurd (none-some p too)
two_probes_once (suc zero) zero p at too = absurd (omega (arith, ap signal_read (at ∙ sym too)))
two_probes_once (suc zero) (suc zero) p at too = refl
two_probes_once (suc zero) (suc (suc j)) p at too = absurd (none-some p too)
two_probes_once (suc (suc i)) j p at too = absurd (none-some p at)

-- no shorter window than one of one step
least_of_one_step : (e : EnvironmentTree) (shorter : ℕ) → shorter < 1 → HasNoSpuriousWindow space_of_two e (1 ∷ []) None shorter
least_of_one_step e zero below = no_window_of_no_step space_of_two e (1 ∷ []) two_probes_once
least_of_one_step e (suc n) below = absurd (omega (arith, below))

-- the sides unfold to the same
copied_is_congruent : IsCongruent (1 ∷ []) None copied
copied_is_congruent =
    plain_is_congruent (1 ∷ []) None copied
    (record { left = probe_of 0; is_left = refl; none_listed = refl; predicate = refl; arguments = refl })

kept_is_congruent : IsCongruent (1 ∷ []) None kept
kept_is_congruent =
    plain_is_congruent (1 ∷ []) None kept
    (record { left = probe_of 1; is_left = refl; none_listed = refl; predicate = refl; arguments = refl })

copied_is_found : IsFoundWindow space_of_two unmoved (1 ∷ []) None 1 copied
copied_is_found = record {
  within = copied_is_within;
  shaped = refl;
  congruent = copied_is_congruent;
  spurious = copied_is_spurious;
  least = least_of_one_step unmoved;
  needed = needs_it;
  needed_equalities = λ place below. absurd (omega (arith, below));
}
  where
    needs_it : (place : ℕ) → place < 1 → IsCongruent (1 ∷ []) None (without_update place copied) → ⊥
    needs_it zero below is = omega (arith, one_step 0 0 1 1 ((one_classes_are_one _ _).0 is.sides.1))
    needs_it (suc n) below is = omega (arith, below)

kept_is_found : IsFoundWindow space_of_two moved (1 ∷ []) None 3 kept
kept_is_found = record {
  within = kept_is_within;
  shaped = refl;
  congruent = kept_is_congruent;
  spurious = kept_is_spurious;
  least = least_of_one_step moved;
  needed = needs_it;
  needed_equalities = λ place below. absurd (omega (arith, below));
}
  where
    needs_it : (place : ℕ) → place < 1 → IsCongruent (1 ∷ []) None (without_update place kept) → ⊥
    needs_it zero below is = omega (arith, one_step 1 0 1 1 ((one_classes_are_one _ _).0 is.sides.1))
    needs_it (suc n) below is = omega (arith, below)

-- there is one within the depth
some_within_one_step : HasNoSpuriousWindow space_of_two unmoved (1 ∷ []) None 1 → ⊥
some_within_one_step none = none copied copied_is_within copied_is_congruent copied_is_spurious

-- a window that is not spurious
kept_is_not_found : IsFoundWindow space_of_two unmoved (1 ∷ []) None 1 kept → ⊥
kept_is_not_found is = kept_is_not_spurious is.spurious

-- an update too many: the probes are the same without it
abbrev known : WindowTree
known = record { left = Some (probe_of 0); left_at = 1; right = probe_of 0; length = 1; updates = copies ∷ []; equalities = [] }

known_is_congruent : (updates : List ListedTree) → IsCongruent (1 ∷ []) None (record known { updates = updates })
known_is_congruent updates =
    plain_is_congruent (1 ∷ []) None (record known { updates = updates })
    (record { left = probe_of 0; is_left = refl; none_listed = refl; predicate = refl; arguments = refl })

one_update_too_many : IsFoundWindow space_of_two unmoved (1 ∷ []) None 1 known → ⊥
one_update_too_many is = is.needed 0 (omega arith) (known_is_congruent [])

-- ---- equalities

abbrev equal_to : ℕ → ℕ → ProbeTree
equal_to s t = record { predicate = 5; arguments = more_terms (signal s) (more_terms (signal t) no_terms) }

-- the input and the cell, and the input and itself, may be equal
abbrev space_with_equalities : SpaceTree
space_with_equalities = record {
  predicates = probe_of 0 ∷ probe_of 1 ∷ equal_to 0 1 ∷ equal_to 0 0 ∷ [];
  controlled = record { signal = 1; choices = signal 1 ∷ signal 0 ∷ []; first = 4 } ∷ [];
}

-- the input and the cell are equal, but the predicate holds of the input alone; and the input is not equal to itself
abbrev unequal : EnvironmentTree
unequal = record { states = 1; vectors = 2; truths = 5 ∷ []; next = 0 ∷ 0 ∷ [] }

-- where both are equal, the predicate holds of both or of none
abbrev alike : WindowTree
alike = record {
  left = Some (probe_of 0);
  left_at = 0;
  right = probe_of 1;
  length = 0;
  updates = [];
  equalities = record { probe = equal_to 0 1; offset = 0 } ∷ [];
}

alike_is_spurious : IsSpurious space_with_equalities unequal alike
alike_is_spurious = record {
  state = λ t. 0;
  vector = λ t. 0;
  visited = at_start;
  steps = λ t below. refl;
  listed = tt;
  equal = (record { bit = 2; is_bit = refl; truths = 5; are_truths = refl; stands = refl }, tt);
  differ = (
    true,
    record { bit = 0; is_bit = refl; truths = 5; are_truths = refl; stands = refl },
    record { bit = 1; is_bit = refl; truths = 5; are_truths = refl; stands = refl },
  );
}

alike_is_congruent : IsCongruent (1 ∷ []) (Some 5) alike
alike_is_congruent = record {
  equalities = (record { predicate = refl; two = refl }, tt);
  sides = (refl, λ R congruence. (congruence.listed.0, tt));
}

-- not where no predicate is equality
alike_is_not_congruent : IsCongruent (1 ∷ []) None alike → ⊥
alike_is_not_congruent is = none-some 5 is.equalities.0.predicate

no_shorter : (e : EnvironmentTree) (equality : Option ℕ) (shorter : ℕ) → shorter < 0 →
    HasNoSpuriousWindow space_with_equalities e (1 ∷ []) equality shorter
no_shorter e equality shorter below = absurd (omega (arith, below))

one_signal : (r s t : ℕ) → more_free (leaf_at r t) no_free ≡ more_free (leaf_at s t) no_free → r ≡ s
one_signal r s t e = cc

alike_is_found : IsFoundWindow space_with_equalities unequal (1 ∷ []) (Some 5) 2 alike
alike_is_found = record {
  within = record { short = omega arith; left_within = omega arith; listed = tt; equal = (omega arith, tt) };
  shaped = refl;
  congruent = alike_is_congruent;
  spurious = alike_is_spurious;
  least = no_shorter unequal (Some 5);
  needed = λ place below. absurd (omega (arith, below));
  needed_equalities = needs_it;
}
  where
    needs_it : (place : ℕ) → place < 1 → IsCongruent (1 ∷ []) (Some 5) (without_equality place alike) → ⊥
    needs_it zero below is = absurd (omega (arith, one_signal 0 1 0 ((one_classes_are_one _ _).0 is.sides.1)))
    needs_it (suc n) below is = omega (arith, below)

-- the input is equal to itself, whatever is listed
abbrev itself : WindowTree
itself = record { left = None; left_at = 0; right = equal_to 0 0; length = 0; updates = []; equalities = [] }

itself_is_found : IsFoundWindow space_with_equalities unequal (1 ∷ []) (Some 5) 2 itself
itself_is_found = record {
  within = record { short = omega arith; left_within = omega arith; listed = tt; equal = tt };
  shaped = refl;
  congruent = record {
    equalities = tt;
    sides = (record { predicate = refl; two = refl }, (λ R congruence. congruence.itself (leaf_at 0 0), tt));
  };
  spurious = record {
    state = λ t. 0;
    vector = λ t. 0;
    visited = at_start;
    steps = λ t below. refl;
    listed = tt;
    equal = tt;
    differ = record { bit = 3; is_bit = refl; truths = 5; are_truths = refl; stands = refl };
  };
  least = no_shorter unequal (Some 5);
  needed = λ place below. absurd (omega (arith, below));
  needed_equalities = λ place below. absurd (omega (arith, below));
}

-- an equality too many
one_equality_too_many : IsFoundWindow space_with_equalities unequal (1 ∷ []) (Some 5) 2
    (record itself { equalities = record { probe = equal_to 0 1; offset = 0 } ∷ [] }) → ⊥
one_equality_too_many is = is.needed_equalities 0 (omega arith) itself_is_found.congruent

-- ---- prints

-- the print of the one state has the bit of the equality that is true, and not those of other predicate terms
print_of_the_state : HasPrint unequal 12 4 0
print_of_the_state = record { truths = 5; at = refl; is = refl }

equalities_of_the_print : equalities_along space_with_equalities.predicates 0 (4 ∷ [])
    ≡ record { probe = equal_to 0 1; offset = 0 } ∷ []
equalities_of_the_print = refl

arguments_begin : start_of space_with_equalities.predicates 3 ≡ 4
arguments_begin = refl

-- ---- counts

-- two predicate terms and two vectors
branches_of_two_steps : branch_count space_of_two 2 ≡ 16
branches_of_two_steps = refl

branches_of_no_step : branch_count space_of_two 0 ≡ 4
branches_of_no_step = refl
