-- Values of terms along a path: what unfolds to free terms of one class has one value where no equality is listed. So a pair that is seen
-- looks so.
use Rattle.std.proofs.Common.{◌≡◌, ◌∙◌, ℕ, zero, suc, ◌+◌, ◌*◌, ◌<◌, ◌==◌, ◌&&◌, ◌||◌, Bool, true, false, cond, List, [], ◌∷◌}
use Rattle.std.proofs.Common.{◌++◌, map, drop, get_or, Option, Some, None, slice_get, refl, sym, ap, subst, arith, inl, inr, eq-eqb}
use Rattle.std.proofs.Common.{length as count_of}
use Rattle.std.specs.List.{AllByRecursion, find}
use Rattle.std.specs.Prelude.{option_map}
use Rattle.std.proofs.lemmas.Bool.{false_from_ne_true, and_from, and_parts, eqb-true, false≢true}
use Rattle.std.proofs.lemmas.List.{drop_more, length-map, length-append}
use Rattle.std.proofs.lemmas.Nat.{div-mul-add, mod-mul-add}
use Rattle.std.proofs.lemmas.Option.{slice_get_within}
use Rattle.std.proofs.lemmas.Nat.Bits.{bit_at-zero}
use Rattle.base_library.specs.Numbers.{is_among}
use Rattle.base_library.proofs.Each.{each_at, each_weaker}
use Rattle.base_library.proofs.Finds.{found_has, found_passes, find_none_at}
use Rattle.base_library.proofs.Numbers.{among_first, among_next}
use Rattle.base_library.proofs.Places.{slice_get_some, slice_get_grown, slice_get-append}
use Rattle.tsl_terms.specs.TermTree.{TermTree, signal, apply, TermTrees, no_terms, more_terms}
use Rattle.tsl_terms.specs.WindowTree.{ListedTree, EquatedTree}
use Rattle.tsl_terms.specs.FreeTree.{FreeTree, leaf_at, applied, FreeTrees, no_free, more_free}
use Rattle.tsl_terms.specs.Unfolding.{with_leaves, all_with_leaves, leaf_after, signal_unfolded, term_listed, term_taken_by_cell, all_unfolded}
use Rattle.tsl_terms.specs.OneClass.{AreAllIn, IsCongruence, AreInOneClasses, listed_pairs}
use Rattle.ltl_formula.specs.Cubes.{has_bit}
use Rattle.letter_space.specs.SpaceTree.{SpaceTree}
use Rattle.letter_space.specs.Letters.{term_taken}
use Rattle.letter_space.specs.Vectors.{picks_of}
use Rattle.letter_space.proofs.Places.{slice_get_image}
use Rattle.machines.specs.MachineTree.{EnvironmentTree}
use Rattle.branch_finder.specs.internal.Prints.{AreEqualityBits, ArePrintsWithin}
use Rattle.branch_finder.specs.internal.Paths.{vector_at, updates_along, equalities_along, IsSeen, IsSeenAlone}
use Rattle.branch_finder.specs.internal.Thinning.{IsOwn, IsOwnEquality}
use Rattle.branch_finder.specs.internal.Values.{mixed, leaf_value, value_by, values_by, probe_value, value_after, signal_value, value_in}
use Rattle.branch_finder.specs.internal.Values.{value_along, values_along, AreValues, pair_at, LooksSeen}
use Rattle.branch_finder.proofs.PathUpdates.{own_updates, vector_is, along_there}
use Rattle.branch_finder.proofs.PathEqualities.{own_equalities}
use Rattle.branch_finder.proofs.LoopFacts.{before_or_here}

-- ---- free terms

-- the value of a free term, and what a number becomes where those of free terms are mixed in
abbrev mutual
  free_value : FreeTree → ℕ
  free_value (leaf_at s t) = leaf_value t s
  free_value (applied f xs) = free_values (mixed 1 f) xs

  free_values : ℕ → FreeTrees → ℕ
  free_values seed no_free = seed
  free_values seed (more_free x xs) = free_values (mixed seed (free_value x)) xs

mutual
  with_leaves_value : (at : ℕ → FreeTree) (t : TermTree) → free_value (with_leaves at t) ≡ value_by (λ s. free_value (at s)) t
  with_leaves_value at (signal s) = refl
  with_leaves_value at (apply f arguments) = all_with_leaves_value at (mixed 1 f) arguments

  all_with_leaves_value : (at : ℕ → FreeTree) (seed : ℕ) (ts : TermTrees) →
      free_values seed (all_with_leaves at ts) ≡ values_by (λ s. free_value (at s)) seed ts
  all_with_leaves_value at seed no_terms = refl
  all_with_leaves_value at seed (more_terms t ts) =
      ap (λ n. free_values (mixed seed n) (all_with_leaves at ts)) (with_leaves_value at t)
      ∙ all_with_leaves_value at (mixed seed (value_by (λ s. free_value (at s)) t)) ts

unfolded_value : (taken : ℕ → ℕ → Option TermTree) (step s : ℕ) → free_value (signal_unfolded taken step s) ≡ signal_value taken step s
unfolded_value taken zero s = refl
unfolded_value taken (suc t) s = by (taken t s) (unfolded_value taken t)
  where
    by : (o : Option TermTree) → ((r : ℕ) → free_value (signal_unfolded taken t r) ≡ signal_value taken t r) →
        free_value (leaf_after (signal_unfolded taken t) (suc t) s o) ≡ value_after (signal_value taken t) (suc t) s o
    by None before = refl
    by (Some term) before = with_leaves_value (signal_unfolded taken t) term ∙ (λ i. value_by (λ r. before r i) term)

all_unfolded_value : (taken : ℕ → ℕ → Option TermTree) (step seed : ℕ) (ts : TermTrees) →
    free_values seed (all_with_leaves (signal_unfolded taken step) ts) ≡ values_by (signal_value taken step) seed ts
all_unfolded_value taken step seed ts =
    all_with_leaves_value (signal_unfolded taken step) seed ts ∙ (λ i. values_by (λ s. unfolded_value taken step s i) seed ts)

-- free terms with one value are related
abbrev one_value : FreeTree → FreeTree → Bool
one_value x y = free_value x == free_value y

all_one_value : (seed : ℕ) (xs ys : FreeTrees) → AreAllIn one_value xs ys → free_values seed xs ≡ free_values seed ys
all_one_value seed no_free no_free are = refl
all_one_value seed no_free (more_free y ys) are = absurd are
all_one_value seed (more_free x xs) no_free are = absurd are
all_one_value seed (more_free x xs) (more_free y ys) are =
    ap (λ n. free_values (mixed seed n) xs) (eqb-true (free_value x) (free_value y) are.0)
    ∙ all_one_value (mixed seed (free_value y)) xs ys are.1

values_congruence : IsCongruence [] one_value
values_congruence = record {
  itself = λ x. eq-eqb (free_value x) (free_value x) refl;
  turned = λ x y e. eq-eqb (free_value y) (free_value x) (sym (eqb-true (free_value x) (free_value y) e));
  through = λ x y z e f.
      eq-eqb (free_value x) (free_value z) (eqb-true (free_value x) (free_value y) e ∙ eqb-true (free_value y) (free_value z) f);
  listed = tt;
  applications = λ f xs ys are.
      eq-eqb (free_value (applied f xs)) (free_value (applied f ys)) (all_one_value (mixed 1 f) xs ys are);
}

one_class_value : (seed : ℕ) (xs ys : FreeTrees) → AreInOneClasses [] xs ys → free_values seed xs ≡ free_values seed ys
one_class_value seed xs ys one = all_one_value seed xs ys (one one_value values_congruence)

-- ---- values of cells

map_on : (f g : ℕ → ℕ) (xs : List ℕ) → ((x : ℕ) → is_among xs x ≡ true → f x ≡ g x) → map f xs ≡ map g xs
map_on f g [] same = refl
map_on f g (x ∷ xs) same =
    let first = same x (among_first x xs) in
    let rest = map_on f g xs (λ y among. same y (among_next x y xs among)) in
    λ i. first i ∷ rest i

value_in_mapped : (f : ℕ → ℕ) (step s : ℕ) (cells : List ℕ) →
    value_in cells (map f cells) step s ≡ cond (is_among cells s) (f s) (leaf_value step s)
value_in_mapped f step s [] = refl
value_in_mapped f step s (c ∷ cells) = by (c == s) refl (value_in_mapped f step s cells)
  where
    by : (b : Bool) → (c == s) ≡ b → value_in cells (map f cells) step s ≡ cond (is_among cells s) (f s) (leaf_value step s) →
        cond b (f c) (value_in cells (map f cells) step s) ≡ cond (b || is_among cells s) (f s) (leaf_value step s)
    by true same rest = ap f (eqb-true c s same)
    by false other rest = rest

-- a loop that looks for a cell goes on
pub value_past : (cells values : List ℕ) (step s i : ℕ) → count_of values ≡ count_of cells → i < count_of cells →
    (get_or cells i 0 ≡ s → ⊥) →
    value_in (drop i cells) (drop i values) step s ≡ value_in (drop (i + 1) cells) (drop (i + 1) values) step s
value_past cells values step s i sized within other =
    (λ k. value_in (drop_more cells i 0 within k) (drop_more values i 0 (omega (arith, sized, within)) k) step s)
    ∙ ap (λ b. cond b (get_or values i 0) (value_in (drop (i + 1) cells) (drop (i + 1) values) step s))
    (false_from_ne_true (get_or cells i 0 == s) (λ same. other (eqb-true (get_or cells i 0) s same)))

module _ (space : SpaceTree) (cells path : List ℕ) where
  abbrev updates : List ListedTree
  updates = updates_along space.controlled cells 0 path

  abbrev taken : ℕ → ℕ → Option TermTree
  taken = term_taken_by_cell cells updates

  outside : (step s : ℕ) → is_among cells s ≡ false → signal_value taken step s ≡ leaf_value step s
  outside zero s other = refl
  outside (suc t) s other = ap (λ b. value_after (signal_value taken t) (suc t) s (cond b (term_listed updates t s) None)) other

  -- the values of cells tell those of all signals
  pub by_cells : (values : List ℕ) (step : ℕ) → values ≡ map (value_along space cells path step) cells → (s : ℕ) →
      value_in cells values step s ≡ value_along space cells path step s
  by_cells values step is s =
      ap (λ vs. value_in cells vs step s) is ∙ value_in_mapped (signal_value taken step) step s cells ∙ by (is_among cells s) refl
    where
      by : (b : Bool) → is_among cells s ≡ b → cond b (signal_value taken step s) (leaf_value step s) ≡ signal_value taken step s
      by true among = refl
      by false other = sym (outside step s other)

  -- a cell takes on the path what it takes by the vector
  taken_on_path : (t v s : ℕ) → slice_get path t ≡ Some v → is_among cells s ≡ true →
      taken t s ≡ term_taken space.controlled (picks_of space.controlled v) s
  taken_on_path t v s at among =
      ap (λ b. cond b (term_listed updates t s) None) among
      ∙ by (find (λ (u : ListedTree). (u.signal == s) && (u.offset == t)) updates) refl
      (term_taken space.controlled (picks_of space.controlled v) s) refl
    where
      by : (found : Option ListedTree) → find (λ (u : ListedTree). (u.signal == s) && (u.offset == t)) updates ≡ found →
          (o : Option TermTree) → term_taken space.controlled (picks_of space.controlled v) s ≡ o →
          option_map (λ (u : ListedTree). u.term) found ≡ o
      by (Some u) is o takes =
          let own = found_has (λ (w : ListedTree). (w.signal == s) && (w.offset == t)) (IsOwn space cells (vector_at path) 0 (count_of path))
          updates u (own_updates space cells path) is in
          let passes = and_parts (u.signal == s) (u.offset == t)
          (found_passes (λ (w : ListedTree). (w.signal == s) && (w.offset == t)) updates u is) in
          let same : u.signal ≡ s = eqb-true u.signal s passes.0 in
          let vector : vector_at path u.offset ≡ v = ap (vector_at path) (eqb-true u.offset t passes.1) ∙ vector_is path t v at in
          sym own.one ∙ (λ i. term_taken space.controlled (picks_of space.controlled (vector i)) (same i)) ∙ takes
      by None is None takes = refl
      by None is (Some term) takes =
          let there = along_there space.controlled cells s term among 0 path t v at takes in
          let fails = find_none_at (λ (w : ListedTree). (w.signal == s) && (w.offset == t)) updates there.0
          (record { signal = s; term = term; offset = 0 + t }) is there.1 in
          let place : 0 + t ≡ t = omega arith in
          absurd (false≢true (sym fails ∙ and_from (s == s) ((0 + t) == t) (eq-eqb s s refl) (eq-eqb (0 + t) t place)))

  -- the values of cells a step later
  pub next_values : (values : List ℕ) (t v : ℕ) → values ≡ map (value_along space cells path t) cells → slice_get path t ≡ Some v →
      map (λ s. value_after (value_in cells values t) (suc t) s (term_taken space.controlled (picks_of space.controlled v) s)) cells
      ≡ map (value_along space cells path (suc t)) cells
  next_values values t v is at =
      map_on (λ s. value_after (value_in cells values t) (suc t) s (term_taken space.controlled (picks_of space.controlled v) s))
      (value_along space cells path (suc t)) cells
      (λ s among i. value_after (λ r. by_cells values t is r i) (suc t) s (sym (taken_on_path t v s at among) i))

  -- the values of predicate terms
  pub row_by_cells : (values : List ℕ) (step : ℕ) → values ≡ map (value_along space cells path step) cells →
      map (probe_value (value_in cells values step)) space.predicates ≡ values_along space cells path step
  row_by_cells values step is = λ i. map (probe_value (λ r. by_cells values step is r i)) space.predicates

-- ---- values of predicate terms

-- those of a step more
pub values_more : (space : SpaceTree) (cells path : List ℕ) (step : ℕ) (values new row : List ℕ) →
    AreValues space cells path step values → new ≡ values ++ row → row ≡ values_along space cells path step →
    AreValues space cells path (step + 1) new
values_more space cells path step values new row before is row_is = record {
  size =
      let row_size : count_of row ≡ count_of space.predicates
      = ap count_of row_is ∙ length-map space.predicates (probe_value (value_along space cells path step)) in
      let more : (step + 1) * count_of space.predicates ≡ step * count_of space.predicates + count_of space.predicates = grind arith in
      ap count_of is ∙ length-append values row ∙ omega (arith, row_size, before.size, more);
  each = λ k i value below at. elim (before_or_here k step below) [
    | inl earlier ↦
        ap (λ (vs : List ℕ). slice_get vs (k * count_of space.predicates + i)) is
        ∙ slice_get_grown values row (k * count_of space.predicates + i) value (before.each k i value earlier at)
    | inr same ↦
        ap (λ (vs : List ℕ). slice_get vs (k * count_of space.predicates + i)) is
        ∙ slice_get-append values row i (k * count_of space.predicates + i)
        (ap (λ m. m + i) (ap (λ m. m * count_of space.predicates) same ∙ sym before.size))
        ∙ ap (λ (vs : List ℕ). slice_get vs i) row_is ∙ ap (λ m. slice_get (values_along space cells path m) i) (sym same) ∙ at
  ];
}

module _ (space : SpaceTree) (e : EnvironmentTree) (cells : List ℕ) (mask : ℕ) (path prints values : List ℕ)
    (are : AreValues space cells path (suc (count_of path)) values) where
  -- a pair's left value stands at some place
  pub none_looks : (right : ℕ) →
      ((place : ℕ) → place < count_of values → LooksSeen space e cells mask path prints (pair_at space place right) → ⊥) →
      (left_at left : ℕ) → LooksSeen space e cells mask path prints (record { left_at = left_at; left = left; right = right }) → ⊥
  none_looks right none left_at left looks =
      let width = count_of space.predicates in
      let below : left < width
      = omega (
        arith,
        slice_get_within (values_along space cells path left_at) left looks.value looks.left,
        length-map space.predicates (probe_value (value_along space cells path left_at)),
      ) in
      let there = are.each left_at left looks.value (omega (arith, looks.within)) looks.left in
      none (left_at * width + left) (slice_get_within values (left_at * width + left) looks.value there)
      (subst (LooksSeen space e cells mask path prints)
      (sym (λ i. record {
        left_at = div-mul-add left_at width left below i;
        left = mod-mul-add left_at width left below i;
        right = right;
      })) looks)

-- ---- what is seen

none_of_each : (qs : List EquatedTree) → AllByRecursion (λ q. ⊥) qs → qs ≡ []
none_of_each [] each = refl
none_of_each (q ∷ qs) each = absurd each.0

module _ (space : SpaceTree) (e : EnvironmentTree) (cells : List ℕ) (equality : Option ℕ) (mask : ℕ) (path prints : List ℕ)
    (no_bit : (bit : ℕ) → has_bit bit mask ≡ true → ⊥) where
  no_equalities : ArePrintsWithin mask prints → equalities_along space.predicates 0 prints ≡ []
  no_equalities within =
      none_of_each (equalities_along space.predicates 0 prints)
      (each_weaker (IsOwnEquality space.predicates (vector_at prints) 0 (count_of prints)) (λ q. ⊥) one
      (equalities_along space.predicates 0 prints) (own_equalities space.predicates prints))
    where
      one : (q : EquatedTree) → IsOwnEquality space.predicates (vector_at prints) 0 (count_of prints) q → ⊥
      one q own =
          let print = slice_get_some prints q.offset own.before in
          let same = vector_is prints q.offset print.0 print.1 in
          no_bit own.bit (each_at (λ n. (bit : ℕ) → has_bit bit n ≡ true → has_bit bit mask ≡ true) prints q.offset print.0 within print.1
          own.bit (ap (has_bit own.bit) (sym same) ∙ own.has))

  -- what is seen looks so
  pub seen_looks : ArePrintsWithin mask prints → (left_at left right : ℕ) →
      IsSeen space e cells equality mask path prints (record { left_at = left_at; left = left; right = right }) →
      LooksSeen space e cells mask path prints (record { left_at = left_at; left = left; right = right })
  seen_looks within left_at left right seen =
      let taken = term_taken_by_cell cells (updates_along space.controlled cells 0 path) in
      let one = subst (λ (qs : List EquatedTree). AreInOneClasses (listed_pairs cells (updates_along space.controlled cells 0 path) qs)
      (all_unfolded cells (updates_along space.controlled cells 0 path) left_at seen.left.arguments)
      (all_unfolded cells (updates_along space.controlled cells 0 path) (count_of path) seen.right.arguments))
      (no_equalities within) seen.congruent.sides.1 in
      let same : probe_value (value_along space cells path left_at) seen.left ≡ probe_value (value_along space cells path (count_of path))
      seen.right
      = sym (all_unfolded_value taken left_at (mixed 2 seen.left.predicate) seen.left.arguments)
      ∙ one_class_value (mixed 2 seen.left.predicate) _ _ one
      ∙ all_unfolded_value taken (count_of path) (mixed 2 seen.left.predicate) seen.right.arguments
      ∙ ap (λ p. values_by (value_along space cells path (count_of path)) (mixed 2 p) seen.right.arguments) seen.congruent.sides.0 in
      record {
        within = seen.within;
        value = probe_value (value_along space cells path (count_of path)) seen.right;
        left = slice_get_image (probe_value (value_along space cells path left_at)) space.predicates left seen.left seen.is_left
            ∙ ap Some same;
        right = slice_get_image (probe_value (value_along space cells path (count_of path))) space.predicates right seen.right
            seen.is_right;
        told = seen.told;
      }

  pub none_alone : AreEqualityBits space equality mask → (right : ℕ) → IsSeenAlone space e cells equality mask path prints right → ⊥
  none_alone bits right seen = no_bit right (bits.all right seen.probe seen.is_probe seen.congruent.sides.0)

-- no bit of 0 is set
pub no_bit_of_none : (mask : ℕ) → mask ≡ 0 → (bit : ℕ) → has_bit bit mask ≡ true → ⊥
no_bit_of_none mask none bit has = false≢true (sym (ap (has_bit bit) none ∙ ap (λ n. n == 1) (bit_at-zero bit)) ∙ has)
