-- Windows of some cells and of those that predicate terms depend on: a window is congruent and spurious with the updates of the latter
-- alone, and what is found for these is found for all.
use Rattle.std.proofs.Common.{◌≡◌, ◌∙◌, ℕ, ◌<◌, nat_le, nat_lt, Bool, true, false, not, ◌&&◌, ◌==◌, cond, List, [], ◌∷◌, ◌++◌}
use Rattle.std.proofs.Common.{Option, Some, None, slice_get, inl, inr, refl, sym, ap, subst, map, flat_map}
use Rattle.std.specs.Prelude.{find, option_map, IfNone}
use Rattle.std.specs.List.{filter}
use Rattle.std.proofs.Math.Bool.{and-true}
use Rattle.std.specs.List.{AllByRecursion, list_all, list_any}
use Rattle.std.proofs.lemmas.Bool.{and_parts, and_from, or_left, or_right, or_parts, or_cases, eqb-true, true≢false, not_from_false}
use Rattle.std.proofs.lemmas.Option.{none-some}
use Rattle.base_library.specs.Numbers.{is_among}
use Rattle.base_library.proofs.Each.{each_at, each_filtered, each_map, each_weaker}
use Rattle.base_library.proofs.Finds.{found_has, found_passes}
use Rattle.base_library.proofs.Numbers.{among_place, among_filter}
use Rattle.base_library.proofs.Options.{some_mapped}
use Rattle.base_library.proofs.Passes.{list_all_weaker}
use Rattle.tsl_terms.specs.declared.term.Probe.{Probe}
use Rattle.tsl_terms.specs.TermTree.{TermTree, TermTrees, ProbeTree, term_tree, probe_tree}
use Rattle.tsl_terms.specs.WindowTree.{ListedTree, EquatedTree, WindowTree}
use Rattle.tsl_terms.specs.FreeTree.{FreeTrees}
use Rattle.tsl_terms.specs.Signals.{term_reads, some_term_reads}
use Rattle.tsl_terms.specs.Unfolding.{all_with_leaves, signal_unfolded, term_listed, term_taken_by_cell, all_unfolded}
use Rattle.tsl_terms.specs.OneClass.{PairTree, AreInOneClass, AreInOneClasses, pair_of, listed_pairs}
use Rattle.tsl_terms.specs.Congruence.{IsCongruent, IsEquality, SidesAreOne, UpdateCells}
use Rattle.program_tree.specs.Fits.{longest, stands_before, comes_before, rises, left_is_shaped, equalities_are_shaped, window_is_shaped}
use Rattle.letter_space.specs.declared.controlled.Controlled.{Controlled}
use Rattle.letter_space.specs.ControlledView.{controlled_tree, space_with}
use Rattle.letter_space.specs.SpaceTree.{ControlledTree, SpaceTree}
use Rattle.letter_space.specs.Letters.{term_taken}
use Rattle.letter_space.specs.Vectors.{picks_of}
use Rattle.machines.specs.MachineTree.{EnvironmentTree}
use Rattle.branch_finder.specs.Spurious.{IsOneOf, IsTruthAt, SidesDiffer, IsSpurious}
use Rattle.branch_finder.specs.Finding.{HasNoSpuriousWindow, IsFoundWindow, without_update, without_equality}
use Rattle.branch_finder.specs.internal.Relevant.{IsUnread, AreUnread, others_of, AreRelevant}
use Rattle.branch_finder.proofs.UnreadSignals.{ReadsNone, ReadNone, all_agree}
use Rattle.branch_finder.proofs.UpdateOrder.{each_without}

-- ---- what is found among some members that pass is found among all

module _ {X : Type 0} (test passes : X → Bool) where
  -- where all that is looked for passes
  pub find_filtered : ((x : X) → test x ≡ true → passes x ≡ true) → (xs : List X) → find test (filter passes xs) ≡ find test xs
  find_filtered all [] = refl
  find_filtered all (x ∷ xs) = by (passes x) refl (test x) refl (find_filtered all xs)
    where
      by : (p : Bool) → passes x ≡ p → (t : Bool) → test x ≡ t → find test (filter passes xs) ≡ find test xs →
          find test (cond p (x ∷ filter passes xs) (filter passes xs)) ≡ find test (x ∷ xs)
      by true is true found rest = rw (found) refl
      by true is false none rest = rw (none) rest
      by false is true found rest = absurd (true≢false (sym (all x found) ∙ is))
      by false is false none rest = rw (none) rest

-- each member that passes has what each has, and passes
pub each_passing : {X : Type 0} (P : X → Type 0) (passes : X → Bool) (xs : List X) → AllByRecursion P xs →
    AllByRecursion (λ x. P x × (passes x ≡ true)) (filter passes xs)
each_passing P passes [] each = tt
each_passing P passes (x ∷ xs) each = by (passes x) refl (each_passing P passes xs each.1)
  where
    by : (b : Bool) → passes x ≡ b → AllByRecursion (λ y. P y × (passes y ≡ true)) (filter passes xs) →
        AllByRecursion (λ y. P y × (passes y ≡ true)) (cond b (x ∷ filter passes xs) (filter passes xs))
    by true is rest = ((each.0, is), rest)
    by false is rest = rest

-- ---- what is read

none_passes : {X : Type 0} (p : X → Bool) (xs : List X) → list_any p xs ≡ false → AllByRecursion (λ x. p x ≡ false) xs
none_passes p [] none = tt
none_passes p (x ∷ xs) none = let parts = or_parts (p x) (list_any p xs) none in (parts.0, none_passes p xs parts.1)

-- a signal that no predicate term and no choice of another cell reads is unread
pub unread_is : (predicates : List Probe) (controlled : List Controlled) (cells rest : List ℕ) (s : ℕ) →
    list_any (λ p. some_term_reads s (probe_tree p).arguments) predicates ≡ false →
    list_any (λ c. (is_among cells c.signal && not (is_among rest c.signal)) && list_any (λ t. term_reads s (term_tree t)) c.choices)
    controlled ≡ false → IsUnread (space_with predicates controlled) cells rest s
unread_is predicates controlled cells rest s probes others = record {
  by_predicates = each_map (λ p. some_term_reads s p.arguments ≡ false) probe_tree predicates
      (none_passes (λ p. some_term_reads s (probe_tree p).arguments) predicates probes);
  by_updates = each_map (λ c. is_among cells c.signal ≡ true → is_among rest c.signal ≡ false →
      AllByRecursion (λ t. term_reads s t ≡ false) c.choices) controlled_tree controlled
      (each_weaker (λ c. ((is_among cells c.signal && not (is_among rest c.signal)) && list_any (λ t. term_reads s (term_tree t)) c.choices)
      ≡ false)
      (λ c. is_among cells c.signal ≡ true → is_among rest c.signal ≡ false →
      AllByRecursion (λ t. term_reads s t ≡ false) (map term_tree c.choices)) one controlled
      (none_passes (λ c. (is_among cells c.signal && not (is_among rest c.signal)) && list_any (λ t. term_reads s (term_tree t)) c.choices)
      controlled others));
}
  where
    one : (c : Controlled) →
        ((is_among cells c.signal && not (is_among rest c.signal)) && list_any (λ t. term_reads s (term_tree t)) c.choices) ≡ false →
        is_among cells c.signal ≡ true → is_among rest c.signal ≡ false → AllByRecursion (λ t. term_reads s t ≡ false) (map term_tree c.choices)
    one c none among out =
        each_map (λ t. term_reads s t ≡ false) term_tree c.choices
        (none_passes (λ t. term_reads s (term_tree t)) c.choices (rw (among, out) at none))

-- ---- sides by what each signal takes at each step

abbrev pub pairs_by : (ℕ → ℕ → Option TermTree) → List EquatedTree → List PairTree
pairs_by taken equalities = flat_map (λ e. pair_of (all_with_leaves (signal_unfolded taken e.offset) e.probe.arguments)) equalities

abbrev pub SidesBy : (ℕ → ℕ → Option TermTree) → Option ℕ → WindowTree → Option ProbeTree → Type 0
SidesBy taken equality w (Some left) = (left.predicate ≡ w.right.predicate)
    × AreInOneClasses (pairs_by taken w.equalities) (all_with_leaves (signal_unfolded taken w.left_at) left.arguments)
    (all_with_leaves (signal_unfolded taken w.length) w.right.arguments)
SidesBy taken equality w None = IsEquality equality w.right
    × AllByRecursion (λ p. AreInOneClass (pairs_by taken w.equalities) p.left p.right)
    (pair_of (all_with_leaves (signal_unfolded taken w.length) w.right.arguments))

sides_by : (cells : List ℕ) (equality : Option ℕ) (w : WindowTree) (left : Option ProbeTree) →
    SidesAreOne cells equality w left → SidesBy (term_taken_by_cell cells w.updates) equality w left
sides_by cells equality w None one = one
sides_by cells equality w (Some left) one = one

sides_are : (cells : List ℕ) (equality : Option ℕ) (w : WindowTree) (left : Option ProbeTree) →
    SidesBy (term_taken_by_cell cells w.updates) equality w left → SidesAreOne cells equality w left
sides_are cells equality w None one = one
sides_are cells equality w (Some left) one = one

-- ---- fewer cells

module _ (cells rest : List ℕ) where
  abbrev relevant : List ℕ
  relevant = others_of cells rest

  -- a cell that is not of the rest
  relevant_is : (s : ℕ) → is_among relevant s ≡ (is_among cells s && not (is_among rest s))
  relevant_is s = among_filter (λ s. not (is_among rest s)) s cells

  relevant_among : (s : ℕ) → is_among relevant s ≡ true → is_among cells s ≡ true
  relevant_among s is = (and_parts (is_among cells s) (not (is_among rest s)) (sym (relevant_is s) ∙ is)).0

  -- ---- with updates of these cells alone the others change nothing

  module _ (updates : List ListedTree) (own : UpdateCells relevant updates) where
    not_listed : (t s : ℕ) → is_among relevant s ≡ false → term_listed updates t s ≡ None
    not_listed t s out = by (term_listed updates t s) refl
      where
        by : (taken : Option TermTree) → term_listed updates t s ≡ taken → taken ≡ None
        by None is = refl
        by (Some x) is =
            let test = λ (u : ListedTree). (u.signal == s) && (u.offset == t) in
            let found = some_mapped (λ (u : ListedTree). u.term) (find test updates) x is in
            let among = found_has test (λ u. is_among relevant u.signal ≡ true) updates found.0 own found.1 in
            let signal = eqb-true found.0.signal s (and_parts (found.0.signal == s) (found.0.offset == t)
            (found_passes test updates found.0 found.1)).0 in
            absurd (true≢false (sym among ∙ (ap (is_among relevant) signal ∙ out)))

    same_taken_at : (t s : ℕ) → term_taken_by_cell relevant updates t s ≡ term_taken_by_cell cells updates t s
    same_taken_at t s = by (is_among relevant s) refl (is_among cells s) refl
      where
        by : (few : Bool) → is_among relevant s ≡ few → (all : Bool) → is_among cells s ≡ all →
            term_taken_by_cell relevant updates t s ≡ term_taken_by_cell cells updates t s
        by true few true all = rw (few, all) refl
        by true few false all = absurd (true≢false (sym (relevant_among s few) ∙ all))
        by false few true all = rw (few, all) (sym (not_listed t s few))
        by false few false all = rw (few, all) refl

    same_for : (w : WindowTree) → w.updates ≡ updates → term_taken_by_cell relevant w.updates ≡ term_taken_by_cell cells w.updates
    same_for w is =
        ap (term_taken_by_cell relevant) is ∙ (λ i t s. same_taken_at t s i) ∙ ap (term_taken_by_cell cells) (sym is)

    -- so a window is congruent for these cells where it is for all, and the other way round
    pub congruent_for_all : (equality : Option ℕ) (w : WindowTree) → w.updates ≡ updates → IsCongruent relevant equality w →
        IsCongruent cells equality w
    congruent_for_all equality w is congruent = record {
      equalities = congruent.equalities;
      sides = sides_are cells equality w w.left
          (subst (λ taken. SidesBy taken equality w w.left) (same_for w is) (sides_by relevant equality w w.left congruent.sides));
    }

    pub congruent_for_these : (equality : Option ℕ) (w : WindowTree) → w.updates ≡ updates → IsCongruent cells equality w →
        IsCongruent relevant equality w
    congruent_for_these equality w is congruent = record {
      equalities = congruent.equalities;
      sides = sides_are relevant equality w w.left
          (subst (λ taken. SidesBy taken equality w w.left) (sym (same_for w is)) (sides_by cells equality w w.left congruent.sides));
    }

  -- ---- the order of updates

  module _ (r s : ℕ) where
    among_all : (cs : List ℕ) → is_among (others_of cs rest) s ≡ true → is_among cs s ≡ true
    among_all cs is = (and_parts (is_among cs s) (not (is_among rest s)) (sym (among_filter (λ n. not (is_among rest n)) s cs) ∙ is)).0

    stands_in : (cs : List ℕ) → stands_before (others_of cs rest) r s ≡ true → stands_before cs r s ≡ true
    stands_in [] stands = stands
    stands_in (c ∷ cs) stands = by (not (is_among rest c)) (λ is. stands_in cs is) stands
      where
        by : (b : Bool) → (stands_before (others_of cs rest) r s ≡ true → stands_before cs r s ≡ true) →
            stands_before (cond b (c ∷ others_of cs rest) (others_of cs rest)) r s ≡ true → stands_before (c ∷ cs) r s ≡ true
        by false before is = or_right ((c == r) && is_among cs s) (stands_before cs r s) (before is)
        by true before is =
            elim (or_cases ((c == r) && is_among (others_of cs rest) s) (stands_before (others_of cs rest) r s) is) [
              | inl here ↦ (
                  let parts = and_parts (c == r) (is_among (others_of cs rest) s) here in
                  or_left ((c == r) && is_among cs s) (stands_before cs r s) (and_from (c == r) (is_among cs s) parts.0 (among_all cs parts.1))
                  )
              | inr later ↦ or_right ((c == r) && is_among cs s) (stands_before cs r s) (before later)
            ]

  rises_for_all : (us : List ListedTree) → rises relevant us ≡ true → rises cells us ≡ true
  rises_for_all [] is = refl
  rises_for_all (u ∷ []) is = refl
  rises_for_all (u ∷ v ∷ us) is =
      let parts = and_parts (comes_before relevant u v) (rises relevant (v ∷ us)) is in
      and_from (comes_before cells u v) (rises cells (v ∷ us)) (by parts.0) (rises_for_all (v ∷ us) parts.1)
    where
      by : comes_before relevant u v ≡ true → comes_before cells u v ≡ true
      by is =
          elim (or_cases (nat_lt u.offset v.offset) ((u.offset == v.offset) && stands_before relevant u.signal v.signal) is) [
            | inl before ↦ or_left (nat_lt u.offset v.offset) ((u.offset == v.offset) && stands_before cells u.signal v.signal) before
            | inr beside ↦
                let parts = and_parts (u.offset == v.offset) (stands_before relevant u.signal v.signal) beside in
                or_right (nat_lt u.offset v.offset) ((u.offset == v.offset) && stands_before cells u.signal v.signal)
                (and_from (u.offset == v.offset) (stands_before cells u.signal v.signal) parts.0
                (stands_in u.signal v.signal cells parts.1))
          ]

  shaped_for_all : (w : WindowTree) → window_is_shaped relevant w ≡ true → window_is_shaped cells w ≡ true
  shaped_for_all w is =
      let sides = left_is_shaped w.left w.left_at && equalities_are_shaped w in
      let long = nat_le w.length longest && nat_le w.left_at w.length in
      let listed = λ (cs : List ℕ). list_all (λ u. nat_lt u.offset w.length && is_among cs u.signal) w.updates in
      let parts = and_parts (long && (listed relevant && rises relevant w.updates)) sides is in
      let front = and_parts long (listed relevant && rises relevant w.updates) parts.0 in
      let updates = and_parts (listed relevant) (rises relevant w.updates) front.1 in
      and_from (long && (listed cells && rises cells w.updates)) sides
      (and_from long (listed cells && rises cells w.updates) front.0
      (and_from (listed cells) (rises cells w.updates)
      (list_all_weaker (λ u. nat_lt u.offset w.length && is_among relevant u.signal) (λ u. nat_lt u.offset w.length && is_among cells u.signal)
      (λ u one. let both = and_parts (nat_lt u.offset w.length) (is_among relevant u.signal) one in
      and_from (nat_lt u.offset w.length) (is_among cells u.signal) both.0 (relevant_among u.signal both.1)) w.updates updates.0)
      (rises_for_all w.updates updates.1)))
      parts.1

  -- ---- a window of all cells, with the updates of these alone

  abbrev kept : ListedTree → Bool
  kept u = not (is_among rest u.signal)

  abbrev pub with_these : WindowTree → WindowTree
  with_these w = record w { updates = filter kept w.updates }

  listed_kept : (updates : List ListedTree) (t s : ℕ) → is_among rest s ≡ false →
      term_listed (filter kept updates) t s ≡ term_listed updates t s
  listed_kept updates t s out =
      ap (option_map (λ (u : ListedTree). u.term))
      (find_filtered (λ u. (u.signal == s) && (u.offset == t)) kept
      (λ u is. ap (λ n. not (is_among rest n)) (eqb-true u.signal s (and_parts (u.signal == s) (u.offset == t) is).0)
      ∙ not_from_false (is_among rest s) out) updates)

  taken_kept : (updates : List ListedTree) (t s : ℕ) → is_among rest s ≡ false →
      term_taken_by_cell relevant (filter kept updates) t s ≡ term_taken_by_cell cells updates t s
  taken_kept updates t s out =
      (λ i. cond (among i) (listed_kept updates t s out i) None)
    where
      among : is_among relevant s ≡ is_among cells s
      among = relevant_is s ∙ ap (λ b. is_among cells s && not b) out ∙ and-true (is_among cells s)

  module _ (space : SpaceTree) (unread : AreUnread space cells rest) where
    unread_one : (r : ℕ) → is_among rest r ≡ true → IsUnread space cells rest r
    unread_one r among = let place = among_place rest r among in each_at (IsUnread space cells rest) rest place.0 r unread place.1

    -- the arguments of predicate terms read none of the rest
    probe_unread : (bit : ℕ) (p : ProbeTree) → slice_get space.predicates bit ≡ Some p → ReadNone rest p.arguments
    probe_unread bit p is r among =
        each_at (λ q. some_term_reads r q.arguments ≡ false) space.predicates bit p (unread_one r among).by_predicates is

    -- nor does a term that a cell takes which is not of the rest
    taken_unread : (controlled : List ControlledTree) (picks : List ℕ) (s : ℕ) (x : TermTree) (r : ℕ) →
        AllByRecursion (λ c. is_among cells c.signal ≡ true → is_among rest c.signal ≡ false →
        AllByRecursion (λ t. term_reads r t ≡ false) c.choices) controlled →
        is_among cells s ≡ true → is_among rest s ≡ false → term_taken controlled picks s ≡ Some x → term_reads r x ≡ false
    taken_unread [] picks s x r each among out taken = absurd (none-some x taken)
    taken_unread (c ∷ cs) [] s x r each among out taken = absurd (none-some x taken)
    taken_unread (c ∷ cs) (pick ∷ picks) s x r each among out taken =
        by (c.signal == s) refl (λ k. taken_unread cs picks s x r each.1 among out k) taken
      where
        by : (b : Bool) → (c.signal == s) ≡ b → (term_taken cs picks s ≡ Some x → term_reads r x ≡ false) →
            cond b (slice_get c.choices pick) (term_taken cs picks s) ≡ Some x → term_reads r x ≡ false
        by false is later taken = later taken
        by true is later taken =
            let same = eqb-true c.signal s is in
            each_at (λ t. term_reads r t ≡ false) c.choices pick x
            (each.0 (ap (is_among cells) same ∙ among) (ap (is_among rest) same ∙ out)) taken

    module _ (vector : ℕ → ℕ) (updates : List ListedTree) (listed : AllByRecursion (λ u. IsOneOf space (vector u.offset) u) updates) where
      update_unread : (t s : ℕ) (x : TermTree) → is_among rest s ≡ false → term_taken_by_cell cells updates t s ≡ Some x → ReadsNone rest x
      update_unread t s x out taken r among = by (is_among cells s) refl taken
        where
          by : (b : Bool) → is_among cells s ≡ b → cond b (term_listed updates t s) None ≡ Some x → term_reads r x ≡ false
          by false is taken = absurd (none-some x taken)
          by true is taken =
              let test = λ (u : ListedTree). (u.signal == s) && (u.offset == t) in
              let found = some_mapped (λ (u : ListedTree). u.term) (find test updates) x taken in
              let one = found_has test (λ u. IsOneOf space (vector u.offset) u) updates found.0 listed found.1 in
              let signal = eqb-true found.0.signal s (and_parts (found.0.signal == s) (found.0.offset == t)
              (found_passes test updates found.0 found.1)).0 in
              taken_unread space.controlled (picks_of space.controlled (vector found.0.offset)) found.0.signal x r
              (unread_one r among).by_updates (ap (is_among cells) signal ∙ is) (ap (is_among rest) signal ∙ out)
              (one ∙ ap Some found.2)

      -- the arguments of a predicate term unfold to the same
      unfolds_same : (t : ℕ) (ts : TermTrees) → ReadNone rest ts →
          all_unfolded cells updates t ts ≡ all_unfolded relevant (filter kept updates) t ts
      unfolds_same t ts none =
          sym (all_agree rest (term_taken_by_cell relevant (filter kept updates)) (term_taken_by_cell cells updates)
          (λ t s out. taken_kept updates t s out) update_unread t ts none)

      pairs_same : (equalities : List EquatedTree) → AllByRecursion (λ q. ReadNone rest q.probe.arguments) equalities →
          listed_pairs cells updates equalities ≡ listed_pairs relevant (filter kept updates) equalities
      pairs_same [] each = refl
      pairs_same (q ∷ qs) each =
          λ i. pair_of (unfolds_same q.offset q.probe.arguments each.0 i) ++ pairs_same qs each.1 i

    module _ (e : EnvironmentTree) (equality : Option ℕ) (w : WindowTree) (spurious : IsSpurious space e w) where
      truth_unread : (state : ℕ) (p : ProbeTree) (truth : Bool) → IsTruthAt space e state p truth → ReadNone rest p.arguments
      truth_unread state p truth is = probe_unread is.bit p is.is_bit

      equalities_unread : AllByRecursion (λ q. ReadNone rest q.probe.arguments) w.equalities
      equalities_unread =
          each_weaker (λ q. IsTruthAt space e (spurious.state q.offset) q.probe true) (λ q. ReadNone rest q.probe.arguments)
          (λ q is. truth_unread (spurious.state q.offset) q.probe true is) w.equalities spurious.equal

      pub spurious_with_these : IsSpurious space e (with_these w)
      spurious_with_these = record {
        state = spurious.state;
        vector = spurious.vector;
        visited = spurious.visited;
        steps = spurious.steps;
        listed = each_filtered (λ u. IsOneOf space (spurious.vector u.offset) u) kept w.updates spurious.listed;
        equal = spurious.equal;
        differ = spurious.differ;
      }

      pub congruent_with_these : IsCongruent cells equality w → IsCongruent relevant equality (with_these w)
      congruent_with_these congruent = record {
        equalities = congruent.equalities;
        sides = by w.left spurious.differ congruent.sides;
      }
        where
          pairs : listed_pairs cells w.updates w.equalities ≡ listed_pairs relevant (filter kept w.updates) w.equalities
          pairs = pairs_same spurious.vector w.updates spurious.listed w.equalities equalities_unread

          unfolds : (t state : ℕ) (p : ProbeTree) (truth : Bool) → IsTruthAt space e state p truth →
              all_unfolded cells w.updates t p.arguments ≡ all_unfolded relevant (filter kept w.updates) t p.arguments
          unfolds t state p truth is = unfolds_same spurious.vector w.updates spurious.listed t p.arguments (truth_unread state p truth is)

          by : (left : Option ProbeTree) → SidesDiffer space e spurious.state w left → SidesAreOne cells equality w left →
              SidesAreOne relevant equality (with_these w) left
          by None differ one =
              let right = unfolds w.length (spurious.state w.length) w.right false differ in (
                one.0,
                subst (λ (p : List PairTree × List PairTree). AllByRecursion (λ q. AreInOneClass p.0 q.left q.right) p.1)
                    (λ i. (pairs i, pair_of (right i))) one.1,
              )
          by (Some left) differ one =
              let first = unfolds w.left_at (spurious.state w.left_at) left differ.0 differ.1 in
              let right = unfolds w.length (spurious.state w.length) w.right (not differ.0) differ.2 in (
                one.0,
                subst (λ (p : List PairTree × (FreeTrees × FreeTrees)). AreInOneClasses p.0 p.1.0 p.1.1)
                    (λ i. (pairs i, (first i, right i))) one.1,
              )

    -- ---- what is found

    pub none_for_all : (e : EnvironmentTree) (equality : Option ℕ) (depth : ℕ) → HasNoSpuriousWindow space e relevant equality depth →
        HasNoSpuriousWindow space e cells equality depth
    none_for_all e equality depth none w within congruent spurious =
        none (with_these w)
        (record {
          short = within.short;
          left_within = within.left_within;
          listed = each_weaker (λ u. ((is_among cells u.signal ≡ true) × (u.offset < w.length)) × (kept u ≡ true))
              (λ u. (is_among relevant u.signal ≡ true) × (u.offset < w.length))
              (λ u is. (relevant_is u.signal ∙ and_from (is_among cells u.signal) (kept u) is.0.0 is.1, is.0.1)) (filter kept w.updates)
              (each_passing (λ u. (is_among cells u.signal ≡ true) × (u.offset < w.length)) kept w.updates within.listed);
          equal = within.equal;
        })
        (congruent_with_these e equality w spurious congruent)
        (spurious_with_these e equality w spurious)

    pub found_for_all : (e : EnvironmentTree) (equality : Option ℕ) (depth : ℕ) (w : WindowTree) →
        IsFoundWindow space e relevant equality depth w → IsFoundWindow space e cells equality depth w
    found_for_all e equality depth w found = record {
      within = record {
        short = found.within.short;
        left_within = found.within.left_within;
        listed = each_weaker (λ u. (is_among relevant u.signal ≡ true) × (u.offset < w.length))
            (λ u. (is_among cells u.signal ≡ true) × (u.offset < w.length)) (λ u is. (relevant_among u.signal is.0, is.1))
            w.updates found.within.listed;
        equal = found.within.equal;
      };
      shaped = shaped_for_all w found.shaped;
      congruent = congruent_for_all w.updates own equality w refl found.congruent;
      spurious = found.spurious;
      least = λ shorter below. none_for_all e equality shorter (found.least shorter below);
      needed = λ place below one. found.needed place below
          (congruent_for_these (without_update place w).updates (each_without (λ u. is_among relevant u.signal ≡ true) w.updates place own)
          equality (without_update place w) refl one);
      needed_equalities = λ place below one. found.needed_equalities place below
          (congruent_for_these w.updates own equality (without_equality place w) refl one);
    }
      where
        own : UpdateCells relevant w.updates
        own = each_weaker (λ u. (is_among relevant u.signal ≡ true) × (u.offset < w.length)) (λ u. is_among relevant u.signal ≡ true)
            (λ u is. is.0) w.updates found.within.listed

-- what is found, or that there is none, for the relevant cells is so for all
pub found_of_relevant : (space : SpaceTree) (e : EnvironmentTree) (cells few : List ℕ) (equality : Option ℕ) (depth : ℕ)
    (w : WindowTree) → AreRelevant space cells few → IsFoundWindow space e few equality depth w →
    IsFoundWindow space e cells equality depth w
found_of_relevant space e cells few equality depth w are found =
    found_for_all cells are.rest space are.unread e equality depth w
    (subst (λ cs. IsFoundWindow space e cs equality depth w) are.others found)

pub none_of_relevant : {X : Type 0} (space : SpaceTree) (e : EnvironmentTree) (cells few : List ℕ) (equality : Option ℕ) (depth : ℕ)
    (found : Option X) → AreRelevant space cells few → IfNone found (HasNoSpuriousWindow space e few equality depth) →
    IfNone found (HasNoSpuriousWindow space e cells equality depth)
none_of_relevant space e cells few equality depth (Some x) are none = tt
none_of_relevant space e cells few equality depth None are none =
    none_for_all cells are.rest space are.unread e equality depth (subst (λ cs. HasNoSpuriousWindow space e cs equality depth) are.others none)
