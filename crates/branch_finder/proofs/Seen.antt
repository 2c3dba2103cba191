-- What is seen on a path, as a window with all updates and equalities of the path: it is congruent and spurious.
use Rattle.std.proofs.Common.{◌≡◌, ◌∙◌, ℕ, suc, ◌<◌, ◌≤◌, Bool, true, false, not, List, map, get_or, bit_and, Option, Some, None, slice_get}
use Rattle.std.proofs.Common.{refl, sym, ap, subst, arith}
use Rattle.std.proofs.Common.{length as count_of}
use Rattle.std.specs.List.{AllByRecursion}
use Rattle.std.proofs.lemmas.Bool.{and_from, and_parts}
use Rattle.std.proofs.lemmas.List.{length-map}
use Rattle.std.proofs.lemmas.Option.{slice_get_read}
use Rattle.base_library.specs.Numbers.{is_among}
use Rattle.base_library.proofs.Each.{each_at, each_weaker}
use Rattle.base_library.proofs.Places.{slice_get_some, slice_get_one}
use Rattle.tsl_terms.specs.declared.term.Probe.{Probe}
use Rattle.tsl_terms.specs.TermTree.{ProbeTree, probe_tree}
use Rattle.tsl_terms.specs.WindowTree.{ListedTree, EquatedTree}
use Rattle.tsl_terms.specs.Congruence.{IsCongruent, IsEquality}
use Rattle.program_tree.specs.Fits.{left_is_shaped}
use Rattle.ltl_formula.specs.Cubes.{has_bit}
use Rattle.lane_planes.proofs.BitLemmas.{and_word}
use Rattle.letter_space.specs.SpaceTree.{SpaceTree, IsSpace}
use Rattle.letter_space.specs.Vectors.{vector_count}
use Rattle.letter_space.proofs.Places.{slice_get_image}
use Rattle.machines.specs.MachineTree.{EnvironmentTree}
use Rattle.machines.specs.Visits.{IsVisited}
use Rattle.branch_finder.specs.Spurious.{IsOneOf, IsTruthAt, SidesDiffer}
use Rattle.branch_finder.specs.internal.Prints.{HasPrint, AreEqualityBits, ArePrintsWithin}
use Rattle.branch_finder.specs.internal.Sets.{set_of}
use Rattle.branch_finder.specs.internal.Planes.{IsTruthOf}
use Rattle.branch_finder.specs.internal.Paths.{PairTree, vector_at, updates_along, equalities_along, path_window, IsSeen, IsSeenAlone}
use Rattle.branch_finder.specs.internal.Thinning.{IsOwn, IsOwnEquality, IsCandidate}
use Rattle.branch_finder.proofs.PathUpdates.{own_updates, vector_is}
use Rattle.branch_finder.proofs.PathEqualities.{own_equalities, along_in_order}
use Rattle.branch_finder.proofs.UpdateOrder.{along_rise}
use Rattle.branch_finder.proofs.SetLemmas.{taken_too}
use Rattle.branch_finder.proofs.ToldApart.{Run, run_of, run_by}
use Rattle.branch_finder.proofs.VisitLemmas.{vector_within}

-- a bit of a print is true in the state
pub print_holds : (e : EnvironmentTree) (mask print state bit : ℕ) (has : HasPrint e mask print state) → has_bit bit print ≡ true →
    has_bit bit has.truths ≡ true
print_holds e mask print state bit has there =
    (and_parts (has_bit bit has.truths) (has_bit bit mask) (sym (and_word has.truths mask bit) ∙ ap (has_bit bit) has.is ∙ there)).0

-- and an equality whose bit is true has it in the print
pub print_has : (e : EnvironmentTree) (mask print state bit truths : ℕ) (has : HasPrint e mask print state) →
    slice_get e.truths state ≡ Some truths → has_bit bit truths ≡ true → has_bit bit mask ≡ true → has_bit bit print ≡ true
print_has e mask print state bit truths has at there in_mask =
    sym (ap (has_bit bit) (ap (λ n. bit_and n mask) same ∙ has.is)) ∙ and_word truths mask bit
    ∙ and_from (has_bit bit truths) (has_bit bit mask) there in_mask
  where
    same : truths ≡ has.truths
    same = slice_get_one e.truths state truths has.truths at has.at

-- the listed equalities of prints are equalities
pub each_is_equality : (space : SpaceTree) (equality : Option ℕ) (mask : ℕ) (prints : List ℕ) → AreEqualityBits space equality mask →
    ArePrintsWithin mask prints → AllByRecursion (λ q. IsEquality equality q.probe) (equalities_along space.predicates 0 prints)
each_is_equality space equality mask prints bits within =
    each_weaker (IsOwnEquality space.predicates (vector_at prints) 0 (count_of prints)) (λ q. IsEquality equality q.probe) one
    (equalities_along space.predicates 0 prints) (own_equalities space.predicates prints)
  where
    one : (q : EquatedTree) → IsOwnEquality space.predicates (vector_at prints) 0 (count_of prints) q → IsEquality equality q.probe
    one q own =
        let print = slice_get_some prints q.offset own.before in
        let same = vector_is prints q.offset print.0 print.1 in
        let in_mask = each_at (λ n. (bit : ℕ) → has_bit bit n ≡ true → has_bit bit mask ≡ true) prints q.offset print.0 within print.1
        own.bit
        (ap (has_bit own.bit) (sym same) ∙ own.has) in
        let there = bits.each own.bit in_mask in
        subst (IsEquality equality) (slice_get_one space.predicates own.bit there.0 q.probe there.1 own.is_bit) there.2

module _ (space : SpaceTree) (e : EnvironmentTree) (cells : List ℕ) (equality : Option ℕ) (mask : ℕ) (path prints : List ℕ)
    (is_space : IsSpace space) (vectors_counted : e.vectors ≡ vector_count space.controlled)
    (path_within : AllByRecursion (λ v. v < e.vectors) path) (one_more : count_of prints ≡ suc (count_of path)) where
  sets_counted : count_of (map (set_of space cells) path) ≡ count_of path
  sets_counted = length-map path (set_of space cells)

  module _ (s t : ℕ) (run : Run space e mask (map (set_of space cells) path) prints s t) where
    one_of_run : (u : ListedTree) → IsOwn space cells (vector_at path) 0 (count_of path) u → IsOneOf space (run.vector u.offset) u
    one_of_run u own =
        let v = slice_get_some path u.offset own.before in
        let same = vector_is path u.offset v.0 v.1 in
        let within = each_at (λ n. n < e.vectors) path u.offset v.0 path_within v.1 in
        let inside : u.offset < count_of (map (set_of space cells) path) = omega (arith, own.before, sets_counted) in
        let step = vector_within e (run.state u.offset) (run.vector u.offset) (run.state (suc u.offset)) (run.steps u.offset inside) in
        taken_too space is_space cells v.0 (run.vector u.offset) u.signal (omega (arith, within, vectors_counted))
        (omega (arith, step, vectors_counted)) own.among
        (run.has u.offset (set_of space cells v.0) (slice_get_image (set_of space cells) path u.offset v.0 v.1)) u.term
        (subst (λ n. IsOneOf space n u) same own.one)

    true_in_run : (q : EquatedTree) → IsOwnEquality space.predicates (vector_at prints) 0 (count_of prints) q →
        IsTruthAt space e (run.state q.offset) q.probe true
    true_in_run q own =
        let print = slice_get_some prints q.offset own.before in
        let same = vector_is prints q.offset print.0 print.1 in
        let has = run.printed q.offset print.0 print.1 in
        record {
          bit = own.bit;
          is_bit = own.is_bit;
          truths = has.truths;
          are_truths = has.at;
          stands = print_holds e mask print.0 (run.state q.offset) own.bit has (ap (has_bit own.bit) (sym same) ∙ own.has);
        }

    -- a window along the path with what its sides are
    candidate : (left : Option ProbeTree) (left_at : ℕ) (right : ProbeTree) → left_at ≤ count_of path → left_is_shaped left left_at ≡ true →
        IsCongruent cells equality (path_window space cells path prints left left_at right) → IsVisited e s →
        SidesDiffer space e run.state (path_window space cells path prints left left_at right) left →
        IsCandidate space e cells equality (count_of path) (path_window space cells path prints left left_at right)
    candidate left left_at right inside shaped congruent visited differ = record {
      long = refl;
      within = record {
        short = omega arith;
        left_within = inside;
        listed = each_weaker (IsOwn space cells (vector_at path) 0 (count_of path))
            (λ u. (is_among cells u.signal ≡ true) × (u.offset < count_of path)) (λ u own. (own.among, own.before))
            (updates_along space.controlled cells 0 path) (own_updates space cells path);
        equal = each_weaker (IsOwnEquality space.predicates (vector_at prints) 0 (count_of prints)) (λ q. q.offset ≤ count_of path)
            (λ q own. omega (arith, own.before, one_more)) (equalities_along space.predicates 0 prints)
            (own_equalities space.predicates prints);
      };
      left_shaped = shaped;
      rise = along_rise space cells 0 path;
      in_order = along_in_order space.predicates is_space.predicates_once 0 prints;
      congruent = congruent;
      spurious = record {
        state = run.state;
        vector = run.vector;
        visited = subst (IsVisited e) (sym run.first) visited;
        steps = λ k below. run.steps k (omega (arith, below, sets_counted));
        listed = each_weaker (IsOwn space cells (vector_at path) 0 (count_of path)) (λ u. IsOneOf space (run.vector u.offset) u) one_of_run
            (updates_along space.controlled cells 0 path) (own_updates space cells path);
        equal = each_weaker (IsOwnEquality space.predicates (vector_at prints) 0 (count_of prints))
            (λ q. IsTruthAt space e (run.state q.offset) q.probe true) true_in_run (equalities_along space.predicates 0 prints)
            (own_equalities space.predicates prints);
        differ = differ;
      };
    }

    last_state : run.state (count_of path) ≡ t
    last_state = ap run.state (sym sets_counted) ∙ run.last

    truth_at : (bit state there : ℕ) (probe : ProbeTree) (truth : Bool) → state ≡ there → slice_get space.predicates bit ≡ Some probe →
        IsTruthOf e bit truth there → IsTruthAt space e state probe truth
    truth_at bit state there probe truth same is_bit is = record {
      bit = bit;
      is_bit = is_bit;
      truths = is.truths;
      are_truths = ap (slice_get e.truths) same ∙ is.at;
      stands = is.is;
    }

  pub seen_candidate : (pair : PairTree) (seen : IsSeen space e cells equality mask path prints pair) →
      IsCandidate space e cells equality (count_of path) (path_window space cells path prints (Some seen.left) pair.left_at seen.right)
  seen_candidate pair seen =
      let told = seen.told in
      let walk = run_by space e mask pair.left_at (map (set_of space cells) path) prints told.start told.middle told.last
      (omega (arith, seen.within, sets_counted)) told.before told.after in
      let run = walk.run in
      candidate told.start told.last run (Some seen.left) pair.left_at seen.right seen.within refl seen.congruent told.visited (
        told.wanted,
        truth_at told.start told.last run pair.left (run.state pair.left_at) told.middle seen.left told.wanted walk.by seen.is_left
            told.left,
        truth_at told.start told.last run pair.right (run.state (count_of path)) told.last seen.right (not told.wanted)
            (last_state told.start told.last run) seen.is_right told.right,
      )

  pub alone_candidate : (right : ℕ) (seen : IsSeenAlone space e cells equality mask path prints right) →
      IsCandidate space e cells equality (count_of path) (path_window space cells path prints None 0 seen.probe)
  alone_candidate right seen =
      let told = seen.told in
      let run = run_of space e mask (map (set_of space cells) path) prints told.start told.last told.leads in
      candidate told.start told.last run None 0 seen.probe (omega arith) refl seen.congruent told.visited
      (truth_at told.start told.last run right (run.state (count_of path)) told.last seen.probe false (last_state told.start told.last run)
      seen.is_probe told.false_there)

-- a predicate term that is read is the one that is wanted
pub probe_read : (probes : List Probe) (i : ℕ) (read : Probe) (wanted : ProbeTree) → i < count_of probes → read ≡ get_or probes i read →
    slice_get (map probe_tree probes) i ≡ Some wanted → probe_tree read ≡ wanted
probe_read probes i read wanted within is at =
    slice_get_one (map probe_tree probes) i (probe_tree read) wanted
    (slice_get_image probe_tree probes i read (slice_get_read probes (count_of probes) i read refl within is)) at
