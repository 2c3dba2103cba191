-- Planes of states: what the rows of links say, and where an environment may be after steps along sets.
use Rattle.std.proofs.Common.{◌≡◌, ◌∙◌, ℕ, zero, suc, ◌+◌, ◌<◌, ◌==◌, Bool, true, false, ◌&&◌, ◌||◌, List, [], ◌∷◌, ◌++◌, length, map}
use Rattle.std.proofs.Common.{filter, drop, take, get_or, bit_and, IsTrue}
use Rattle.std.proofs.Common.{Some, slice_get, inl, inr, ◌⊎◌, refl, sym, ap, subst, arith, eq-eqb}
use Rattle.std.specs.Prelude.{◌↔◌}
use Rattle.std.specs.Option.{option_map_or}
use Rattle.std.proofs.lemmas.Bool.{and_from, and_parts, eqb-true}
use Rattle.std.proofs.lemmas.Option.{same_Some, slice_get_within, slice_get-get_or, slice_get_read}
use Rattle.lane_planes.specs.Planes.{has_bit, is_match}
use Rattle.base_library.specs.Numbers.{is_among, numbers_from}
use Rattle.base_library.proofs.Numbers.{among_filter, among_place, among_at, among_numbers, numbers_at, length-numbers}
use Rattle.letter_space.specs.SpaceTree.{SpaceTree}
use Rattle.machines.specs.MachineTree.{EnvironmentTree, IsEnvironment, successor_at}
use Rattle.machines.specs.Visits.{IsVisited}
use Rattle.branch_finder.specs.internal.Prints.{HasPrint}
use Rattle.branch_finder.specs.internal.Visiting.{AreVisited}
use Rattle.branch_finder.specs.internal.Sets.{mask_of, set_of, numbered_set, first_of, AreMasks, HasAll, GoesBy}
use Rattle.branch_finder.specs.internal.Planes.{IsPlaneOf, IsListed, GoesUnder, AreLinks, AreLinksOf, GoesFrom, ComesFrom, IsKept}
use Rattle.branch_finder.proofs.LoopFacts.{before_or_here}
use Rattle.branch_finder.proofs.PlaneLemmas.{plane_more, plane_alike}
use Rattle.branch_finder.proofs.VisitLemmas.{successor_below, vector_within, visited_below}
use Rattle.branch_finder.proofs.SetLemmas.{match_tells}
use Rattle.letter_space.proofs.Places.{slice_get_image}
use Rattle.std.specs.List.{AllByRecursion}
use Rattle.std.proofs.lemmas.List.{length-map}
use Rattle.base_library.proofs.Each.{each_from_places}
use Rattle.base_library.proofs.Places.{slice_get_one, slice_get_push}

-- ---- members of a list, as a plane

module _ (ns : List ℕ) (count n : ℕ) (at : slice_get ns count ≡ Some n) where
  one_more_listed : (i : ℕ) → IsListed ns (count + 1) i → IsListed ns count i ⊎ ((i == n) ≡ true)
  one_more_listed i is = elim (before_or_here is.place count is.below) [
    | inl before ↦ inl (record { place = is.place; below = before; at = is.at })
    | inr here ↦ inr (eq-eqb i n (slice_get_one ns count i n (sym (ap (slice_get ns) here) ∙ is.at) at))
  ]

  still_listed : (i : ℕ) → IsListed ns count i → IsListed ns (count + 1) i
  still_listed i is = record { place = is.place; below = omega (arith, is.below); at = is.at }

  here_listed : (i : ℕ) → (i == n) ≡ true → IsListed ns (count + 1) i
  here_listed i same = record { place = count; below = omega arith; at = at ∙ ap Some (sym (eqb-true i n same)) }

  pub listed_more : (states : ℕ) (old new : List ℕ) → IsPlaneOf states (IsListed ns count) old → length new ≡ length old →
      ((i : ℕ) → has_bit new i ≡ (has_bit old i || (i == n))) → IsPlaneOf states (IsListed ns (count + 1)) new
  listed_more states old new is same bits =
      plane_more states (IsListed ns count) (IsListed ns (count + 1)) old new (λ i. i == n) is same bits (λ i below. one_more_listed i)
      (λ i below. still_listed i) (λ i below. here_listed i)

  pub under_more : (e : EnvironmentTree) (s t states : ℕ) (old new : List ℕ) → successor_at e s n ≡ Some t →
      IsPlaneOf states (GoesUnder e ns s count) old → length new ≡ length old →
      ((i : ℕ) → has_bit new i ≡ (has_bit old i || (i == t))) → IsPlaneOf states (GoesUnder e ns s (count + 1)) new
  under_more e s t states old new goes is same bits =
      plane_more states (GoesUnder e ns s count) (GoesUnder e ns s (count + 1)) old new (λ i. i == t) is same bits
      (λ i below under. elim (before_or_here under.listed.place count under.listed.below) [
        | inl before ↦ inl (record {
          vector = under.vector;
          listed = record { place = under.listed.place; below = before; at = under.listed.at };
          goes = under.goes;
        })
        | inr here ↦
            let vector = slice_get_one ns count under.vector n (sym (ap (slice_get ns) here) ∙ under.listed.at) at in
            inr (eq-eqb i t (same_Some i t (sym under.goes ∙ ap (successor_at e s) vector ∙ goes)))
      ])
      (λ i below under. record { vector = under.vector; listed = still_listed under.vector under.listed; goes = under.goes })
      (λ i below here. record {
        vector = n;
        listed = record { place = count; below = omega arith; at = at };
        goes = goes ∙ ap Some (sym (eqb-true i t here));
      })

pub none_listed : (ns : List ℕ) (i : ℕ) → IsListed ns 0 i → ⊥
none_listed ns i is = omega (arith, is.below)

pub none_under : (e : EnvironmentTree) (vectors : List ℕ) (s i : ℕ) → GoesUnder e vectors s 0 i → ⊥
none_under e vectors s i is = none_listed vectors is.vector is.listed

-- ---- links

pub masks_counted : (space : SpaceTree) (vectors : ℕ) (masks : List ℕ) → AreMasks space vectors masks → length masks ≡ vectors
masks_counted space vectors masks are =
    ap length are ∙ length-map (numbers_from 0 vectors) (mask_of space) ∙ length-numbers 0 vectors

module _ (space : SpaceTree) (e : EnvironmentTree) (set : ℕ) (masks vectors : List ℕ) (are : AreMasks space e.vectors masks)
    (matched : vectors ≡ filter (λ v. option_map_or (is_match set set) (slice_get masks v) false) (numbers_from 0 e.vectors)) where
  mask_at : (v : ℕ) → v < e.vectors → slice_get masks v ≡ Some (mask_of space v)
  mask_at v below =
      ap (λ ms. slice_get ms v) are
      ∙ slice_get_image (mask_of space) (numbers_from 0 e.vectors) v v (numbers_at 0 e.vectors v below ∙ ap Some (omega arith))

  abbrev matches : ℕ → Bool
  matches v = option_map_or (is_match set set) (slice_get masks v) false

  both_ways : (v : ℕ) → is_among vectors v ≡ (is_among (numbers_from 0 e.vectors) v && matches v)
  both_ways v = ap (λ ns. is_among ns v) matched ∙ among_filter matches v (numbers_from 0 e.vectors)

  listed_below : (v place : ℕ) → slice_get vectors place ≡ Some v → v < e.vectors
  listed_below v place at =
      let among = (and_parts (is_among (numbers_from 0 e.vectors) v) (matches v) (sym (both_ways v) ∙ among_at vectors place v at)).0 in
      let there = among_place (numbers_from 0 e.vectors) v among in
      let inside = slice_get_within (numbers_from 0 e.vectors) there.0 v there.1 in
      let same = same_Some (0 + there.0) v
      (sym (numbers_at 0 e.vectors there.0 (omega (arith, inside, length-numbers 0 e.vectors))) ∙ there.1) in
      omega (arith, same, inside, length-numbers 0 e.vectors)

  listed_has : (v place : ℕ) → slice_get vectors place ≡ Some v → HasAll space set v
  listed_has v place at =
      (match_tells set (mask_of space v)).0
      (ap (λ o. option_map_or (is_match set set) o false) (sym (mask_at v (listed_below v place at)))
      ∙ (and_parts (is_among (numbers_from 0 e.vectors) v) (matches v) (sym (both_ways v) ∙ among_at vectors place v at)).1)

  pub within : AllByRecursion (λ v. v < e.vectors) vectors
  within = each_from_places (λ v. v < e.vectors) vectors (λ i v at. listed_below v i at)

  -- a state goes under these vectors where it goes under one that has all updates of the set
  pub row_is : (s : ℕ) (row : List ℕ) → IsPlaneOf e.states (GoesUnder e vectors s (length vectors)) row →
      IsPlaneOf e.states (GoesBy space e set s) row
  row_is s row is = plane_alike e.states (GoesUnder e vectors s (length vectors)) (GoesBy space e set s) row is (λ t below. (
    λ under. record {
      vector = under.vector;
      has = listed_has under.vector under.listed.place under.listed.at;
      goes = under.goes;
    },
    λ by.
        let inside = vector_within e s by.vector t by.goes in
        let passes : matches by.vector ≡ true
        = ap (λ o. option_map_or (is_match set set) o false) (mask_at by.vector inside) ∙ (match_tells set (mask_of space by.vector)).1 by.has in
        let among : is_among vectors by.vector ≡ true
        = both_ways by.vector
        ∙ and_from (is_among (numbers_from 0 e.vectors) by.vector) (matches by.vector)
        (among_numbers 0 e.vectors by.vector (omega arith) (omega (arith, inside))) passes in
        let place = among_place vectors by.vector among in
        record {
          vector = by.vector;
          listed = record { place = place.0; below = slice_get_within vectors place.0 by.vector place.1; at = place.1 };
          goes = by.goes;
        },
  ))

-- one row more
pub rows_more : {X : Type 0} (P : ℕ → X → Type 0) (rows : List X) (n : ℕ) (row : X) → length rows ≡ n →
    ((s : ℕ) (r : X) → slice_get rows s ≡ Some r → P s r) → P n row → (s : ℕ) (r : X) → slice_get (rows ++ row ∷ []) s ≡ Some r → P s r
rows_more P rows n row counted each here s r at = elim (slice_get_push rows row s r at) [
  | inl before ↦ each s r before.1
  | inr last ↦ subst (λ k. P k r) (sym (last.0 ∙ counted)) (subst (P n) last.1 here)
]

-- the rows of the set with a number
pub rows_of_set : (space : SpaceTree) (e : EnvironmentTree) (cells firsts : List ℕ) (links : List (List (List ℕ))) (n : ℕ)
    (rows : List (List ℕ)) → AreLinksOf space e (map (set_of space cells) firsts) links → n < length firsts → slice_get links n ≡ Some rows →
    AreLinks space e (numbered_set space cells firsts n) rows
rows_of_set space e cells firsts links n rows are below at =
    are.each n (numbered_set space cells firsts n) rows
    (slice_get_image (set_of space cells) firsts n (get_or firsts n 0) (slice_get-get_or firsts n 0 below)) at

-- a row that is looked up twice
module _ (space : SpaceTree) (e : EnvironmentTree) (cells firsts : List ℕ) (links : List (List (List ℕ))) (number : ℕ)
    (found rows : List (List ℕ)) (are : AreLinksOf space e (map (set_of space cells) firsts) links) (below : number < length firsts)
    (at : found ≡ get_or links number found) (same : rows ≡ found) where
  pub rows_there : AreLinks space e (numbered_set space cells firsts number) rows
  rows_there =
      subst (AreLinks space e (numbered_set space cells firsts number)) (sym same)
      (rows_of_set space e cells firsts links number found are below
      (slice_get_read links (length links) number found refl
      (omega (arith, are.one_each, length-map firsts (set_of space cells), below)) at))

  pub row_there : (state : ℕ) (row : List ℕ) → state < length rows → row ≡ get_or rows state row →
      IsPlaneOf e.states (GoesBy space e (numbered_set space cells firsts number) state) row
  row_there state row within is = rows_there.each state row (slice_get_read rows (length rows) state row refl within is)

-- ---- steps

module _ (space : SpaceTree) (e : EnvironmentTree) where
  pub none_gone : (set : ℕ) (plane : List ℕ) (t : ℕ) → GoesFrom space e set plane 0 t → ⊥
  none_gone set plane t is = omega (arith, is.below)

  -- one state more of a plane
  pub gone_more : (set : ℕ) (plane : List ℕ) (k : ℕ) (row old new : List ℕ) → IsPlaneOf e.states (GoesBy space e set k) row →
      IsPlaneOf e.states (GoesFrom space e set plane k) old → length new ≡ length old →
      ((t : ℕ) → has_bit new t ≡ (has_bit old t || (has_bit plane k && has_bit row t))) →
      IsPlaneOf e.states (GoesFrom space e set plane (k + 1)) new
  gone_more set plane k row old new is_row is same bits =
      plane_more e.states (GoesFrom space e set plane k) (GoesFrom space e set plane (k + 1)) old new
      (λ t. has_bit plane k && has_bit row t) is same bits
      (λ t below from. elim (before_or_here from.state k from.below) [
        | inl before ↦ inl (record { state = from.state; below = before; set = from.set; goes = from.goes })
        | inr here ↦
            inr (and_from (has_bit plane k) (has_bit row t) (ap (has_bit plane) (sym here) ∙ from.set)
            ((is_row.tells t below).1 (subst (λ s. GoesBy space e set s t) here from.goes)))
      ])
      (λ t below from. record { state = from.state; below = omega (arith, from.below); set = from.set; goes = from.goes })
      (λ t below both.
      let parts = and_parts (has_bit plane k) (has_bit row t) both in
      record { state = k; below = omega arith; set = parts.0; goes = (is_row.tells t below).0 parts.1 })

  -- one set more
  pub come_more : IsEnvironment e → (mask set print : ℕ) (sets prints old kept new : List ℕ) →
      IsPlaneOf e.states (IsKept e old mask print e.states) kept → IsPlaneOf e.states (GoesFrom space e set kept e.states) new → (t : ℕ) →
      ComesFrom space e mask (set ∷ sets) (print ∷ prints) old t ↔ ComesFrom space e mask sets prints new t
  come_more is mask set print sets prints old kept new are_kept gone t = (
    λ from.
        let next = from.leads.1 in
        let below = successor_below e is from.state from.leads.2.vector next from.leads.2.goes in
        record {
          state = next;
          below = below;
          set = (gone.tells next below).1 (record {
            state = from.state;
            below = from.below;
            set = (are_kept.tells from.state from.below).1 (record { below = from.below; set = from.set; truth = from.leads.0 });
            goes = from.leads.2;
          });
          leads = from.leads.3;
        },
    λ from.
        let gone_to = (gone.tells from.state from.below).0 from.set in
        let here = (are_kept.tells gone_to.state gone_to.below).0 gone_to.set in
        record {
          state = gone_to.state;
          below = gone_to.below;
          set = here.set;
          leads = (here.truth, from.state, gone_to.goes, from.leads);
        },
  )

  -- where all sets are gone through
  pub come_last : (mask print : ℕ) (sets prints first plane last : List ℕ) → IsPlaneOf e.states (IsKept e plane mask print e.states) last →
      ((t : ℕ) → ComesFrom space e mask [] (print ∷ []) plane t ↔ ComesFrom space e mask sets prints first t) →
      IsPlaneOf e.states (ComesFrom space e mask sets prints first) last
  come_last mask print sets prints first plane last kept same = record {
    size = kept.size;
    tells = λ t below. (
      λ set.
          let here = (kept.tells t below).0 set in
          (same t).0 (record { state = t; below = below; set = here.set; leads = (here.truth, refl) }),
      λ from.
          let at = (same t).1 from in
          (kept.tells t below).1 (record {
            below = below;
            set = ap (has_bit plane) (sym at.leads.1) ∙ at.set;
            truth = subst (HasPrint e mask print) at.leads.1 at.leads.0;
          }),
    );
  }

-- ---- truths

module _ (e : EnvironmentTree) (plane : List ℕ) (mask print : ℕ) where
  pub none_kept : (s : ℕ) → IsKept e plane mask print 0 s → ⊥
  none_kept s is = omega (arith, is.below)

  pub kept_more : (k truths : ℕ) (here : Bool) (states : ℕ) (old new : List ℕ) → slice_get e.truths k ≡ Some truths →
      IsTrue here ↔ ((has_bit plane k ≡ true) × (bit_and truths mask ≡ print)) → IsPlaneOf states (IsKept e plane mask print k) old →
      length new ≡ length old → ((i : ℕ) → has_bit new i ≡ (has_bit old i || (here && (i == k)))) →
      IsPlaneOf states (IsKept e plane mask print (k + 1)) new
  kept_more k truths here states old new at belongs is same bits =
      plane_more states (IsKept e plane mask print k) (IsKept e plane mask print (k + 1)) old new (λ i. here && (i == k)) is same bits
      (λ i below kept. elim (before_or_here i k kept.below) [
        | inl before ↦ inl (record { below = before; set = kept.set; truth = kept.truth })
        | inr last ↦
            inr (and_from here (i == k) (belongs.1 (
              ap (has_bit plane) (sym last) ∙ kept.set,
              ap (λ n. bit_and n mask) (slice_get_one e.truths k truths kept.truth.truths at
                  (ap (slice_get e.truths) (sym last) ∙ kept.truth.at))
                  ∙ kept.truth.is,
            )) (eq-eqb i k last))
      ])
      (λ i below kept. record { below = omega (arith, kept.below); set = kept.set; truth = kept.truth })
      (λ i below both.
      let parts = and_parts here (i == k) both in
      let last = eqb-true i k parts.1 in
      let is_one = belongs.0 parts.0 in
      record {
        below = omega (arith, last);
        set = ap (has_bit plane) last ∙ is_one.0;
        truth = record { truths = truths; at = ap (slice_get e.truths) last ∙ at; is = is_one.1 };
      })

  pub not_kept_more : (k truths : ℕ) (here : Bool) → slice_get e.truths k ≡ Some truths →
      IsTrue here ↔ ((has_bit plane k ≡ true) × (bit_and truths mask ≡ print)) → (here ≡ true → ⊥) →
      ((s : ℕ) → IsKept e plane mask print k s → ⊥) →
      (s : ℕ) → IsKept e plane mask print (k + 1) s → ⊥
  not_kept_more k truths here at belongs fails none s kept = elim (before_or_here s k kept.below) [
    | inl before ↦ none s (record { below = before; set = kept.set; truth = kept.truth })
    | inr last ↦
        fails (belongs.1 (
          ap (has_bit plane) (sym last) ∙ kept.set,
          ap (λ n. bit_and n mask) (slice_get_one e.truths k truths kept.truth.truths at
              (ap (slice_get e.truths) (sym last) ∙ kept.truth.at))
              ∙ kept.truth.is,
        ))
  ]

-- ---- visited states

pub visited_within : (e : EnvironmentTree) (listed : List ℕ) → IsEnvironment e → AreVisited e listed →
    AllByRecursion (λ s. s < e.states) listed
visited_within e listed is are = each_from_places (λ s. s < e.states) listed (λ i s at. visited_below e is s (are.each i s at))

pub visited_plane : (e : EnvironmentTree) (listed plane : List ℕ) → AreVisited e listed →
    IsPlaneOf e.states (IsListed listed (length listed)) plane → IsPlaneOf e.states (IsVisited e) plane
visited_plane e listed plane are is = plane_alike e.states (IsListed listed (length listed)) (IsVisited e) plane is (λ s below. (
  λ one. are.each one.place s one.at,
  λ visited.
      let place = are.all s visited in
      record { place = place.0; below = slice_get_within listed place.0 s place.1; at = place.1 },
))

-- ---- parts of a path

pub each_taken : {X : Type 0} (P : X → Type 0) (n : ℕ) (xs : List X) → AllByRecursion P xs → AllByRecursion P (take n xs)
each_taken P zero xs each = tt
each_taken P (suc n) [] each = tt
each_taken P (suc n) (x ∷ xs) each = (each.0, each_taken P n xs each.1)

pub each_dropped : {X : Type 0} (P : X → Type 0) (n : ℕ) (xs : List X) → AllByRecursion P xs → AllByRecursion P (drop n xs)
each_dropped P zero xs each = each
each_dropped P (suc n) [] each = tt
each_dropped P (suc n) (x ∷ xs) each = each_dropped P n xs each.1

-- the sets with these numbers are those of the first vectors
pub sets_along : (space : SpaceTree) (cells firsts numbers path : List ℕ) → path ≡ map (first_of firsts) numbers →
    map (numbered_set space cells firsts) numbers ≡ map (set_of space cells) path
sets_along space cells firsts numbers path is = all numbers ∙ ap (map (set_of space cells)) (sym is)
  where
    all : (ns : List ℕ) → map (numbered_set space cells firsts) ns ≡ map (set_of space cells) (map (first_of firsts) ns)
    all [] = refl
    all (n ∷ ns) = ap (λ sets. numbered_set space cells firsts n ∷ sets) (all ns)

-- a path is as long as its numbers
pub path_counted : (firsts numbers path : List ℕ) → path ≡ map (first_of firsts) numbers → length path ≡ length numbers
path_counted firsts numbers path is = ap length is ∙ length-map numbers (first_of firsts)
