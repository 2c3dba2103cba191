-- What sets and prints tell apart or make false: from planes of states to runs, and from runs to planes.
use Rattle.std.proofs.Common.{◌≡◌, ◌∙◌, ℕ, zero, suc, ◌<◌, ◌≤◌, Bool, true, false, not, List, [], ◌∷◌, length, take, drop, bit_and}
use Rattle.std.proofs.Common.{Some, slice_get, refl, sym, ap, subst, arith}
use Rattle.std.specs.Prelude.{◌↔◌}
use Rattle.std.proofs.lemmas.Bool.{false≢true}
use Rattle.std.proofs.lemmas.List.{drop_all}
use Rattle.std.proofs.lemmas.Option.{none-some, same_Some, slice_get_within}
use Rattle.base_library.proofs.Places.{slice_get_one}
use Rattle.lane_planes.specs.Planes.{has_bit}
use Rattle.ltl_formula.specs.Cubes.{has_bit as has}
use Rattle.letter_space.specs.SpaceTree.{SpaceTree}
use Rattle.machines.specs.MachineTree.{EnvironmentTree, successor_at}
use Rattle.machines.specs.Visits.{IsVisited, by_vector}
use Rattle.branch_finder.specs.internal.Prints.{HasPrint}
use Rattle.branch_finder.specs.internal.Sets.{HasAll, GoesBy, LeadsTo}
use Rattle.branch_finder.specs.internal.Planes.{IsPlaneOf, ComesFrom, IsTruthOf, IsKept}
use Rattle.branch_finder.specs.internal.Paths.{PairTree, TellsApart, IsToldApart, IsToldFalse}
use Rattle.branch_finder.specs.internal.Differing.{IsEver}

-- a print says as much as one bit
abbrev pub HasPrintAs : ℕ → ℕ → ℕ → Bool → Type 0
HasPrintAs mask print bit wanted = (truths : ℕ) → (bit_and truths mask ≡ print) ↔ (has bit truths ≡ wanted)

pub print_is_bit : (e : EnvironmentTree) (mask print bit : ℕ) (wanted : Bool) → HasPrintAs mask print bit wanted → (s : ℕ) →
    HasPrint e mask print s ↔ IsTruthOf e bit wanted s
print_is_bit e mask print bit wanted tells s = (
  λ has. record { truths = has.truths; at = has.at; is = (tells has.truths).0 has.is },
  λ is. record { truths = is.truths; at = is.at; is = (tells is.truths).1 is.is },
)

module _ (space : SpaceTree) (e : EnvironmentTree) (truths_counted : length e.truths ≡ e.states) where
  truth_below : (bit s : ℕ) (wanted : Bool) → IsTruthOf e bit wanted s → s < e.states
  truth_below bit s wanted truth = omega (arith, slice_get_within e.truths s truth.truths truth.at, truths_counted)

  module _ (mask : ℕ) (sets prints : List ℕ) where
    -- a bit is false at the end where a plane of states that are led to has such a one
    pub false_by_planes : (own_mask own right : ℕ) (visited last : List ℕ) → HasPrintAs own_mask own right false →
        IsPlaneOf e.states (IsVisited e) visited → IsPlaneOf e.states (ComesFrom space e mask sets prints visited) last →
        ((s : ℕ) → IsVisited e s → s < e.states) →
        ((s : ℕ) × IsKept e last own_mask own e.states s) ↔ IsToldFalse space e mask sets prints right
    false_by_planes own_mask own right visited last tells all comes start_below = (
      λ some.
          let came = (comes.tells some.0 some.1.below).0 some.1.set in
          record {
            start = came.state;
            visited = (all.tells came.state came.below).0 came.set;
            last = some.0;
            leads = came.leads;
            false_there = (print_is_bit e own_mask own right false tells some.0).0 some.1.truth;
          },
      λ told.
          let below = truth_below right told.last false told.false_there in (
            told.last,
            record {
              below = below;
              set = (comes.tells told.last below).1 (record {
                state = told.start;
                below = start_below told.start told.visited;
                set = (all.tells told.start (start_below told.start told.visited)).1 told.visited;
                leads = told.leads;
              });
              truth = (print_is_bit e own_mask own right false tells told.last).1 told.false_there;
            },
          ),
    )

    module _ (pair : PairTree) where
      pub apart_by_planes : (wanted : Bool) (left_mask left right_mask right : ℕ) (plane from last : List ℕ) →
          HasPrintAs left_mask left pair.left wanted → HasPrintAs right_mask right pair.right (not wanted) →
          IsPlaneOf e.states (IsKept e plane left_mask left e.states) from →
          IsPlaneOf e.states (ComesFrom space e mask (drop pair.left_at sets) (drop pair.left_at prints) from) last →
          ((s : ℕ) × IsKept e last right_mask right e.states s) ↔ TellsApart space e mask sets prints pair wanted plane
      apart_by_planes wanted left_mask left right_mask right plane from last left_tells right_tells kept comes = (
        λ some.
            let came = (comes.tells some.0 some.1.below).0 some.1.set in
            let there = (kept.tells came.state came.below).0 came.set in
            record {
              middle = came.state;
              set = there.set;
              left = (print_is_bit e left_mask left pair.left wanted left_tells came.state).0 there.truth;
              last = some.0;
              after = came.leads;
              right = (print_is_bit e right_mask right pair.right (not wanted) right_tells some.0).0 some.1.truth;
            },
        λ told.
            let middle_below = truth_below pair.left told.middle wanted told.left in
            let last_below = truth_below pair.right told.last (not wanted) told.right in (
              told.last,
              record {
                below = last_below;
                set = (comes.tells told.last last_below).1 (record {
                  state = told.middle;
                  below = middle_below;
                  set = (kept.tells told.middle middle_below).1 (record {
                    below = middle_below;
                    set = told.set;
                    truth = (print_is_bit e left_mask left pair.left wanted left_tells told.middle).1 told.left;
                  });
                  leads = told.after;
                });
                truth = (print_is_bit e right_mask right pair.right (not wanted) right_tells told.last).1 told.right;
              },
            ),
      )

      -- no state tells a pair apart where in none the left bit is as wanted
      pub none_apart : (wanted : Bool) (left_mask left : ℕ) (plane from : List ℕ) → HasPrintAs left_mask left pair.left wanted →
          IsPlaneOf e.states (IsKept e plane left_mask left e.states) from → ((s : ℕ) → has_bit from s ≡ false) →
          TellsApart space e mask sets prints pair wanted plane → ⊥
      none_apart wanted left_mask left plane from left_tells kept none told =
          let below = truth_below pair.left told.middle wanted told.left in
          false≢true (sym (none told.middle) ∙ (kept.tells told.middle below).1 (record {
            below = below;
            set = told.set;
            truth = (print_is_bit e left_mask left pair.left wanted left_tells told.middle).1 told.left;
          }))

      -- from the plane of states that are led to
      module _ (visited plane : List ℕ) (all : IsPlaneOf e.states (IsVisited e) visited)
          (comes : IsPlaneOf e.states (ComesFrom space e mask (take pair.left_at sets) (take (suc pair.left_at) prints) visited)
          plane) where
        pub told_by_one : (wanted : Bool) → TellsApart space e mask sets prints pair wanted plane →
            IsToldApart space e mask sets prints pair
        told_by_one wanted told =
            let came = (comes.tells told.middle (truth_below pair.left told.middle wanted told.left)).0 told.set in
            record {
              start = came.state;
              visited = (all.tells came.state came.below).0 came.set;
              middle = told.middle;
              before = came.leads;
              wanted = wanted;
              left = told.left;
              last = told.last;
              after = told.after;
              right = told.right;
            }

        pub one_tells : (start_below : (s : ℕ) → IsVisited e s → s < e.states) → (told : IsToldApart space e mask sets prints pair) →
            TellsApart space e mask sets prints pair told.wanted plane
        one_tells start_below told = record {
          middle = told.middle;
          set = (comes.tells told.middle (truth_below pair.left told.middle told.wanted told.left)).1 (record {
            state = told.start;
            below = start_below told.start told.visited;
            set = (all.tells told.start (start_below told.start told.visited)).1 told.visited;
            leads = told.before;
          });
          left = told.left;
          last = told.last;
          after = told.after;
          right = told.right;
        }

        pub told_by_both : (start_below : (s : ℕ) → IsVisited e s → s < e.states) → (told : IsToldApart space e mask sets prints pair) →
            (TellsApart space e mask sets prints pair true plane → ⊥) → TellsApart space e mask sets prints pair false plane
        told_by_both start_below told never = by told.wanted (one_tells start_below told)
          where
            by : (wanted : Bool) → TellsApart space e mask sets prints pair wanted plane →
                TellsApart space e mask sets prints pair false plane
            by true tells = absurd (never tells)
            by false tells = tells

-- ---- runs along sets

-- what is led to is a state
pub led_below : (space : SpaceTree) (e : EnvironmentTree) (mask : ℕ) → length e.truths ≡ e.states → (sets prints : List ℕ) (s t : ℕ) →
    LeadsTo space e mask sets prints s t → t < e.states
led_below space e mask counted [] [] s t leads = absurd leads
led_below space e mask counted (set ∷ sets) [] s t leads = absurd leads
led_below space e mask counted [] (print ∷ next ∷ prints) s t leads = absurd leads
led_below space e mask counted [] (print ∷ []) s t leads =
    omega (arith, slice_get_within e.truths s leads.0.truths leads.0.at, counted, leads.1)
led_below space e mask counted (set ∷ sets) (print ∷ prints) s t leads = led_below space e mask counted sets prints leads.1 t leads.3

-- states with these prints and vectors by steps
pub record Run (space : SpaceTree) (e : EnvironmentTree) (mask : ℕ) (sets prints : List ℕ) (s t : ℕ) : Type 0 where
  pub state : ℕ → ℕ
  pub vector : ℕ → ℕ
  pub first : state 0 ≡ s
  pub last : state (length sets) ≡ t
  pub steps : (k : ℕ) → k < length sets → successor_at e (state k) (vector k) ≡ Some (state (suc k))
  pub has : (k set : ℕ) → slice_get sets k ≡ Some set → HasAll space set (vector k)
  pub printed : (k print : ℕ) → slice_get prints k ≡ Some print → HasPrint e mask print (state k)

module _ (space : SpaceTree) (e : EnvironmentTree) (mask : ℕ) where
  started : ℕ → (ℕ → ℕ) → ℕ → ℕ
  started s state zero = s
  started s state (suc k) = state k

  -- one step before a run
  run_before : (set print : ℕ) (sets prints : List ℕ) (s m t : ℕ) → HasPrint e mask print s → GoesBy space e set s m →
      Run space e mask sets prints m t → Run space e mask (set ∷ sets) (print ∷ prints) s t
  unfolding started
  run_before set print sets prints s m t here goes run = record {
    state = started s run.state;
    vector = started goes.vector run.vector;
    first = refl;
    last = run.last;
    steps = step;
    has = had;
    printed = printed;
  }
    where
      step : (k : ℕ) → k < suc (length sets) →
          successor_at e (started s run.state k) (started goes.vector run.vector k) ≡ Some (started s run.state (suc k))
      step zero below = goes.goes ∙ ap Some (sym run.first)
      step (suc k) below = run.steps k (omega (arith, below))

      had : (k one : ℕ) → slice_get (set ∷ sets) k ≡ Some one → HasAll space one (started goes.vector run.vector k)
      had zero one at = subst (λ n. HasAll space n goes.vector) (same_Some set one at) goes.has
      had (suc k) one at = run.has k one at

      printed : (k one : ℕ) → slice_get (print ∷ prints) k ≡ Some one → HasPrint e mask one (started s run.state k)
      printed zero one at = subst (λ n. HasPrint e mask n s) (same_Some print one at) here
      printed (suc k) one at = run.printed k one at

  alone_printed : (print s : ℕ) → HasPrint e mask print s → (k one : ℕ) → slice_get (print ∷ []) k ≡ Some one → HasPrint e mask one s
  alone_printed print s here zero one at = subst (λ n. HasPrint e mask n s) (same_Some print one at) here
  alone_printed print s here (suc k) one at = absurd (none-some one at)

  pub run_of : (sets prints : List ℕ) (s t : ℕ) → LeadsTo space e mask sets prints s t → Run space e mask sets prints s t
  run_of [] [] s t leads = absurd leads
  run_of (set ∷ sets) [] s t leads = absurd leads
  run_of [] (print ∷ next ∷ prints) s t leads = absurd leads
  run_of [] (print ∷ []) s t leads = record {
    state = λ k. s;
    vector = λ k. 0;
    first = refl;
    last = leads.1;
    steps = λ k below. absurd (omega (arith, below));
    has = λ k set at. absurd (none-some set at);
    printed = alone_printed print s leads.0;
  }
  run_of (set ∷ sets) (print ∷ prints) s t leads =
      run_before set print sets prints s leads.1 t leads.0 leads.2 (run_of sets prints leads.1 t leads.3)

  -- a run that comes by a state after so many steps
  pub record RunBy (sets prints : List ℕ) (n s m t : ℕ) : Type 0 where
    pub run : Run space e mask sets prints s t
    pub by : run.state n ≡ m

  pub run_by : (n : ℕ) (sets prints : List ℕ) (s m t : ℕ) → n ≤ length sets → LeadsTo space e mask (take n sets) (take (suc n) prints) s m →
      LeadsTo space e mask (drop n sets) (drop n prints) m t → RunBy sets prints n s m t
  unfolding started run_before
  run_by zero sets [] s m t within before after = absurd before
  run_by zero sets (print ∷ prints) s m t within before after =
      let run = run_of sets (print ∷ prints) m t after in
      record { run = subst (λ n. Run space e mask sets (print ∷ prints) n t) (sym before.1) run; by = start run before.1 }
    where
      start : (run : Run space e mask sets (print ∷ prints) m t) (same : s ≡ m) →
          (subst (λ n. Run space e mask sets (print ∷ prints) n t) (sym same) run).state 0 ≡ m
      start run same = (subst (λ n. Run space e mask sets (print ∷ prints) n t) (sym same) run).first ∙ same
  run_by (suc n) [] prints s m t within before after = absurd (omega (arith, within))
  run_by (suc n) (set ∷ sets) [] s m t within before after = absurd before
  run_by (suc n) (set ∷ sets) (print ∷ prints) s m t within before after =
      let rest = run_by n sets prints before.1 m t (omega (arith, within)) before.3 after in
      record { run = run_before set print sets prints s before.1 t before.0 before.2 rest.run; by = rest.by }

  -- steps as what is led to
  pub leads_along : (sets prints : List ℕ) (state vector : ℕ → ℕ) → length prints ≡ suc (length sets) →
      ((k : ℕ) → k < length sets → successor_at e (state k) (vector k) ≡ Some (state (suc k))) →
      ((k set : ℕ) → slice_get sets k ≡ Some set → HasAll space set (vector k)) →
      ((k print : ℕ) → slice_get prints k ≡ Some print → HasPrint e mask print (state k)) →
      LeadsTo space e mask sets prints (state 0) (state (length sets))
  leads_along [] [] state vector counted steps has printed = absurd (omega (arith, counted))
  leads_along (set ∷ sets) [] state vector counted steps has printed = absurd (omega (arith, counted))
  leads_along [] (print ∷ next ∷ prints) state vector counted steps has printed = absurd (omega (arith, counted))
  leads_along [] (print ∷ []) state vector counted steps has printed = (printed 0 print refl, refl)
  leads_along (set ∷ sets) (print ∷ prints) state vector counted steps has printed = (
    printed 0 print refl,
    state 1,
    record { vector = vector 0; has = has 0 set refl; goes = steps 0 (omega arith) },
    leads_along sets prints (λ k. state (suc k)) (λ k. vector (suc k)) (omega (arith, counted))
        (λ k below. steps (suc k) (omega (arith, below))) (λ k one at. has (suc k) one at) (λ k one at. printed (suc k) one at),
  )

  -- steps that come by a state
  pub leads_by : (n : ℕ) (sets prints : List ℕ) (state vector : ℕ → ℕ) → n ≤ length sets → length prints ≡ suc (length sets) →
      ((k : ℕ) → k < length sets → successor_at e (state k) (vector k) ≡ Some (state (suc k))) →
      ((k set : ℕ) → slice_get sets k ≡ Some set → HasAll space set (vector k)) →
      ((k print : ℕ) → slice_get prints k ≡ Some print → HasPrint e mask print (state k)) →
      LeadsTo space e mask (take n sets) (take (suc n) prints) (state 0) (state n)
      × LeadsTo space e mask (drop n sets) (drop n prints) (state n) (state (length sets))
  leads_by zero sets [] state vector within counted steps has printed = absurd (omega (arith, counted))
  leads_by zero sets (print ∷ prints) state vector within counted steps has printed =
      ((printed 0 print refl, refl), leads_along sets (print ∷ prints) state vector counted steps has printed)
  leads_by (suc n) [] prints state vector within counted steps has printed = absurd (omega (arith, within))
  leads_by (suc n) (set ∷ sets) [] state vector within counted steps has printed = absurd (omega (arith, counted))
  leads_by (suc n) (set ∷ sets) (print ∷ prints) state vector within counted steps has printed =
      let rest = leads_by n sets prints (λ k. state (suc k)) (λ k. vector (suc k)) (omega (arith, within)) (omega (arith, counted))
      (λ k below. steps (suc k) (omega (arith, below))) (λ k one at. has (suc k) one at) (λ k one at. printed (suc k) one at) in (
        (printed 0 print refl, state 1, record { vector = vector 0; has = has 0 set refl; goes = steps 0 (omega arith) }, rest.0),
        rest.1,
      )

-- ---- what is ever so

-- a bit is ever as wanted where a plane of the visited states has such a one
pub ever_by_plane : (e : EnvironmentTree) (own_mask own bit : ℕ) (wanted : Bool) (visited : List ℕ) →
    HasPrintAs own_mask own bit wanted → IsPlaneOf e.states (IsVisited e) visited → ((s : ℕ) → IsVisited e s → s < e.states) →
    ((s : ℕ) × IsKept e visited own_mask own e.states s) ↔ IsEver e bit wanted
ever_by_plane e own_mask own bit wanted visited tells all start_below = (
  λ some. record {
    state = some.0;
    visited = (all.tells some.0 some.1.below).0 some.1.set;
    truth = (print_is_bit e own_mask own bit wanted tells some.0).0 some.1.truth;
  },
  λ ever.
      let below = start_below ever.state ever.visited in (
        ever.state,
        record {
          below = below;
          set = (all.tells ever.state below).1 ever.visited;
          truth = (print_is_bit e own_mask own bit wanted tells ever.state).1 ever.truth;
        },
      ),
)

-- what is led to is visited
led_visited : (space : SpaceTree) (e : EnvironmentTree) (mask : ℕ) (sets prints : List ℕ) (s t : ℕ) → IsVisited e s →
    LeadsTo space e mask sets prints s t → IsVisited e t
led_visited space e mask [] [] s t visited leads = absurd leads
led_visited space e mask (set ∷ sets) [] s t visited leads = absurd leads
led_visited space e mask [] (print ∷ next ∷ prints) s t visited leads = absurd leads
led_visited space e mask [] (print ∷ []) s t visited leads = subst (IsVisited e) leads.1 visited
led_visited space e mask (set ∷ sets) (print ∷ prints) s t visited leads =
    led_visited space e mask sets prints leads.1 t (by_vector s leads.2.vector leads.1 visited leads.2.goes) leads.3

module _ (space : SpaceTree) (e : EnvironmentTree) (mask : ℕ) (sets prints : List ℕ) (pair : PairTree)
    (told : IsToldApart space e mask sets prints pair) where
  middle_visited : IsVisited e told.middle
  middle_visited =
      led_visited space e mask (take pair.left_at sets) (take (suc pair.left_at) prints) told.start told.middle told.visited told.before

  -- bits that do not differ in any two visited states are not told apart
  pub never_differ : ((wanted : Bool) → IsEver e pair.left wanted → IsEver e pair.right (not wanted) → ⊥) → ⊥
  never_differ never =
      never told.wanted (record { state = told.middle; visited = middle_visited; truth = told.left })
      (record {
        state = told.last;
        visited = led_visited space e mask (drop pair.left_at sets) (drop pair.left_at prints) told.middle told.last middle_visited
            told.after;
        truth = told.right;
      })

-- ---- one side alone

stays : (space : SpaceTree) (e : EnvironmentTree) (mask : ℕ) (prints : List ℕ) (s t : ℕ) → LeadsTo space e mask [] prints s t → s ≡ t
stays space e mask [] s t leads = absurd leads
stays space e mask (print ∷ []) s t leads = leads.1
stays space e mask (print ∷ next ∷ prints) s t leads = absurd leads

both_ways : (wanted truth : Bool) → truth ≡ wanted → truth ≡ not wanted → ⊥
both_ways true truth is is_not = false≢true (sym is_not ∙ is)
both_ways false truth is is_not = false≢true (sym is ∙ is_not)

-- a bit at the last step is not told apart from itself
pub not_from_itself : (space : SpaceTree) (e : EnvironmentTree) (mask : ℕ) (sets prints : List ℕ) (pair : PairTree) →
    pair.left ≡ pair.right → pair.left_at ≡ length sets → IsToldApart space e mask sets prints pair → ⊥
not_from_itself space e mask sets prints pair same last told =
    let none = drop_all pair.left_at sets (omega (arith, last)) in
    let there = stays space e mask (drop pair.left_at prints) told.middle told.last
    (subst (λ ss. LeadsTo space e mask ss (drop pair.left_at prints) told.middle told.last) none told.after) in
    let truths = slice_get_one e.truths told.middle told.left.truths told.right.truths told.left.at
    (ap (slice_get e.truths) there ∙ told.right.at) in
    both_ways told.wanted (has pair.left told.left.truths) told.left.is ((λ i. has (same i) (truths i)) ∙ told.right.is)
