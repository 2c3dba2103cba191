-- Moves and edges in lists by state are those of the state.
use Rattle.std.proofs.Common.{◌≡◌, ◌∙◌, ℕ, zero, suc, ◌+◌, ◌<◌, ◌≤◌, cond, eqb, List, [], ◌∷◌, ◌++◌, length, map, take, set}
use Rattle.std.proofs.Common.{get_or, Some, option_map, unwrap_or, slice_get, Contains, All, add-one, append-nil, refl, sym, ap, subst}
use Rattle.std.proofs.Common.{arith, inl, inr}
use Rattle.std.specs.List.{AllByRecursion}
use Rattle.std.specs.Prelude.{Vec, Result, IfOk}
use Rattle.std.specs.declared.alloc.Global.{Global}
use Rattle.std.proofs.lemmas.Bool.{cases_lt, ne_eqb, eq-eqb}
use Rattle.std.proofs.lemmas.List.{length-map, map-set, map_push}
use Rattle.std.proofs.lemmas.List.Elements.{recursion_from_All}
use Rattle.std.proofs.lemmas.Option.{slice_get-map, slice_get_past, slice_get_read, get_or_from_slice_get}
use Rattle.base_library.specs.Numbers.{numbers_from}
use Rattle.base_library.proofs.Each.{each_contained, each_map}
use Rattle.base_library.proofs.Numbers.{numbers_more, numbers_at, length-numbers}
use Rattle.base_library.proofs.Passes.{filter_push}
use Rattle.base_library.proofs.Places.{take_next}
use Rattle.cobuchi_automata.specs.Automata.{EdgeTree}
use Rattle.cobuchi_automata.specs.Edges.{edge_tree, edge_trees, IsBetween}
use Rattle.cobuchi_automata.specs.declared.automaton.Edge.{Edge}
use Rattle.machines.specs.Moves.{MoveTree}
use Rattle.machines.specs.MachineView.{move_tree}
use Rattle.machines.specs.declared.moves.Move.{Move}
use Rattle.annotation_check.specs.Annotations.{edges_from}
use Rattle.annotation_check.specs.internal.Pairs.{move_lists, moves_in, with_edge, pairs_between}
use Rattle.annotation_check.specs.internal.PairsView.{pairs_tree}
use Rattle.annotation_check.specs.declared.growing.Pairs.{Pairs}
use Rattle.annotation_check.proofs.LeavingEdges.{passes_filtered}
use Rattle.annotation_check.proofs.MovesStay.{AreMovesOf}

-- ---- lists by number

-- one list more
pub listed_more : {X Z : Type 0} (f : X → Z) (g : ℕ → Z) (lists : List X) (x : X) (n : ℕ) → f x ≡ g n →
    map f lists ≡ map g (numbers_from 0 n) → map f (lists ++ x ∷ []) ≡ map g (numbers_from 0 (n + 1))
listed_more f g lists x n is so_far =
    map_push f lists x ∙ (λ i. so_far i ++ is i ∷ []) ∙ sym (map_push g (numbers_from 0 n) n)
    ∙ ap (map g) (sym (numbers_more 0 n n (omega arith))) ∙ ap (λ k. map g (numbers_from 0 k)) (sym (add-one n))

pub listed_length : {X Z : Type 0} (f : X → Z) (g : ℕ → Z) (lists : List X) (n : ℕ) → map f lists ≡ map g (numbers_from 0 n) →
    length lists ≡ n
listed_length f g lists n are =
    sym (length-map lists f) ∙ ap length are ∙ length-map (numbers_from 0 n) g ∙ length-numbers 0 n

-- a member more in the list at a place
pub image_added : {X Z : Type 0} (f : X → List Z) (lists : List X) (k : ℕ) (old new : X) (z : Z) → k < length lists →
    old ≡ get_or lists k old →
    f new ≡ f old ++ z ∷ [] → map f (set lists k new) ≡ set (map f lists) k (get_or (map f lists) k [] ++ z ∷ [])
image_added f lists k old new z within is added =
    let at = slice_get-map f lists k ∙ ap (option_map f) (slice_get_read lists (length lists) k old refl within is) in
    let read = get_or_from_slice_get (map f lists) k (f old) [] at in
    map-set f lists k new ∙ ap (set (map f lists) k) (added ∙ ap (λ zs. zs ++ z ∷ []) (sym read))

-- what is listed for a number, where nothing is there from the last one on
pub listed : {Z : Type 0} (g : ℕ → List Z) (n k : ℕ) → ((m : ℕ) → n ≤ m → g m ≡ []) →
    unwrap_or (slice_get (map g (numbers_from 0 n)) k) [] ≡ g k
listed g n k past =
    elim (cases_lt k n) [
      | inl below ↦
          let zero_more : 0 + k ≡ k = omega arith in
          ap (λ o. unwrap_or o []) (slice_get-map g (numbers_from 0 n) k ∙ ap (option_map g) (numbers_at 0 n k below)) ∙ ap g zero_more
      | inr above ↦
          let many : length (map g (numbers_from 0 n)) ≤ k =
          let e = length-map (numbers_from 0 n) g in let l = length-numbers 0 n in omega (arith, above, e, l) in
          ap (λ o. unwrap_or o []) (slice_get_past (map g (numbers_from 0 n)) k many) ∙ sym (past k above)
    ]

-- functions that agree from a number on, and functions that agree but at one number
agree_after : {Z : Type 0} (g h : ℕ → Z) (p first count : ℕ) → ((q : ℕ) → (q ≡ p → ⊥) → g q ≡ h q) → p < first →
    map g (numbers_from first count) ≡ map h (numbers_from first count)
agree_after g h p first zero same after = refl
agree_after g h p first (suc count) same after =
    λ i. same first (λ e. omega (arith, e, after)) i ∷ agree_after g h p (suc first) count same (omega (arith, after)) i

pub set_one : {Z : Type 0} (g h : ℕ → Z) (p first count k : ℕ) → ((q : ℕ) → (q ≡ p → ⊥) → g q ≡ h q) → p ≡ first + k → k < count →
    set (map g (numbers_from first count)) k (h p) ≡ map h (numbers_from first count)
set_one g h p first zero k same at within = absurd (omega (arith, within))
set_one g h p first (suc count) zero same at within =
    let e : p ≡ first = omega (arith, at) in
    λ i. ap h e i ∷ agree_after g h p (suc first) count same (omega (arith, e)) i
set_one g h p first (suc count) (suc k) same at within =
    λ i. same first (λ e. omega (arith, e, at)) i ∷ set_one g h p (suc first) count k same (omega (arith, at)) (omega (arith, within)) i

-- ---- edges

-- the edges from a state, with an edge more
edge_behind : (edges : List EdgeTree) (e : EdgeTree) → edges_from (edges ++ e ∷ []) e.from ≡ edges_from edges e.from ++ e ∷ []
edge_behind edges e =
    filter_push (λ d. eqb d.from e.from) edges e ∙ ap (λ b. edges_from edges e.from ++ cond b (e ∷ []) []) (eq-eqb e.from e.from refl)

edge_elsewhere : (edges : List EdgeTree) (e : EdgeTree) (q : ℕ) → (q ≡ e.from → ⊥) → edges_from edges q ≡ edges_from (edges ++ e ∷ []) q
edge_elsewhere edges e q other =
    sym (filter_push (λ d. eqb d.from q) edges e
    ∙ ap (λ b. edges_from edges q ++ cond b (e ∷ []) []) (ne_eqb e.from q (λ is. other (sym is))) ∙ append-nil (edges_from edges q))

pub edge_listed : (edges : List EdgeTree) (e : EdgeTree) (n : ℕ) → e.from < n →
    with_edge (map (edges_from edges) (numbers_from 0 n)) e ≡ map (edges_from (edges ++ e ∷ [])) (numbers_from 0 n)
edge_listed edges e n within =
    let zero_more : 0 + e.from ≡ e.from = omega arith in
    let at = slice_get-map (edges_from edges) (numbers_from 0 n) e.from ∙ ap (option_map (edges_from edges)) (numbers_at 0 n e.from within)
    ∙ ap (λ q. Some (edges_from edges q)) zero_more in
    let read = get_or_from_slice_get (map (edges_from edges) (numbers_from 0 n)) e.from (edges_from edges e.from) [] at in
    ap (λ es. set (map (edges_from edges) (numbers_from 0 n)) e.from (es ++ e ∷ [])) read
    ∙ ap (set (map (edges_from edges) (numbers_from 0 n)) e.from) (sym (edge_behind edges e))
    ∙ set_one (edges_from edges) (edges_from (edges ++ e ∷ [])) e.from 0 n e.from (edge_elsewhere edges e) (omega arith) within

-- an edge more of those that are listed
module _ (items edges : List Edge) (same : items ≡ edges) (i : ℕ) (e : Edge) (n : ℕ) (within : i < length items)
    (item : e ≡ get_or items i e)
    (between : All (IsBetween n) edges) where
  pub leaves_below : e.from < n
  leaves_below =
      let here : get_or edges i e ≡ e = ap (λ es. get_or es i e) (sym same) ∙ sym item in
      let below = between i e (subst (λ es. i < length es) same within) in
      subst (λ (x : Edge). x.from < n) here below.0

  pub edges_more : (lists new : List (List EdgeTree)) → lists ≡ map (edges_from (take i (edge_trees edges))) (numbers_from 0 n) →
      new ≡ with_edge lists (edge_tree e) → new ≡ map (edges_from (take (i + 1) (edge_trees edges))) (numbers_from 0 n)
  edges_more lists new so_far is =
      let here : slice_get edges i ≡ Some e = ap (λ es. slice_get es i) (sym same)
      ∙ slice_get_read items (length items) i e refl within item in
      let more = take_next (edge_trees edges) i (edge_tree e) (slice_get-map edge_tree edges i ∙ ap (option_map edge_tree) here) in
      is ∙ ap (λ ls. with_edge ls (edge_tree e)) so_far ∙ edge_listed (take i (edge_trees edges)) (edge_tree e) n leaves_below
      ∙ ap (λ es. map (edges_from es) (numbers_from 0 n)) (sym more)
      ∙ ap (λ k. map (edges_from (take k (edge_trees edges))) (numbers_from 0 n)) (sym (add-one i))

between_trees : (n : ℕ) (edges : List Edge) → All (IsBetween n) edges → AllByRecursion (λ e. (e.from < n) × (e.to < n)) (edge_trees edges)
between_trees n edges between =
    each_map (λ (e : EdgeTree). (e.from < n) × (e.to < n)) edge_tree edges (recursion_from_All (IsBetween n) edges between)

pub edges_stay : (n : ℕ) (edges : List Edge) (q : ℕ) (e : EdgeTree) → All (IsBetween n) edges →
    Contains (edges_from (edge_trees edges) q) e → e.to < n
edges_stay n edges q e between stands =
    (each_contained (λ (e : EdgeTree). (e.from < n) × (e.to < n)) (edge_trees edges) e (between_trees n edges between)
    (passes_filtered (λ d. eqb d.from q) (edge_trees edges) e stands).0).1

-- no edge leaves a state that is none
none_from : (n q : ℕ) (edges : List EdgeTree) → n ≤ q → AllByRecursion (λ e. (e.from < n) × (e.to < n)) edges → edges_from edges q ≡ []
none_from n q [] past each = refl
none_from n q (e ∷ edges) past each =
    ap (λ b. cond b (e ∷ edges_from edges q) (edges_from edges q))
    (ne_eqb e.from q (λ is. (let b = each.0.0 in omega (arith, is, past, b))))
    ∙ none_from n q edges past each.1

pub edges_past : (n q : ℕ) (edges : List Edge) → All (IsBetween n) edges → n ≤ q → edges_from (edge_trees edges) q ≡ []
edges_past n q edges between past = none_from n q (edge_trees edges) past (between_trees n edges between)

-- ---- moves

-- the moves that are listed for a state are those in it
module _ (moves : ℕ → List MoveTree) (states : ℕ) (of : AreMovesOf states moves)
    (table : List (Vec Move Global)) (are : move_lists table ≡ map moves (numbers_from 0 states)) where
  moves_are_listed : (s : ℕ) → moves_in table s ≡ moves s
  moves_are_listed s = ap (λ ls. unwrap_or (slice_get ls s) []) are ∙ listed moves states s of.past

  pub listed_moves_stay : (s : ℕ) (m : MoveTree) → Contains (moves_in table s) m → m.next < states
  listed_moves_stay s m stands = of.stay s m (subst (λ ms. Contains ms m) (moves_are_listed s) stands)

  pub listed_moves_length : length table ≡ states
  listed_moves_length = listed_length (λ ms. map move_tree ms.items) moves table states are

  -- so pairs that are made of them are those of the machine
  pub pairs_of_listed : {E : Type 0} (edges : List EdgeTree) (automaton_states bound : ℕ) (made : Result Pairs E) →
      IfOk made (λ pairs. pairs_tree pairs ≡ pairs_between (moves_in table) edges states automaton_states bound) →
      IfOk made (λ pairs. pairs_tree pairs ≡ pairs_between moves edges states automaton_states bound)
  pairs_of_listed edges automaton_states bound made is =
      subst (λ (ms : ℕ → List MoveTree). IfOk made (λ pairs. pairs_tree pairs ≡ pairs_between ms edges states automaton_states bound))
      (λ i s. moves_are_listed s i) is

-- ---- edges that are listed

-- the edges that are listed for a state are those from it
module _ (n : ℕ) (edges : List Edge) (between : All (IsBetween n) edges) (lists : List (List EdgeTree))
    (are : lists ≡ map (edges_from (edge_trees edges)) (numbers_from 0 n)) where
  pub edges_are_listed : (q : ℕ) → unwrap_or (slice_get lists q) [] ≡ edges_from (edge_trees edges) q
  edges_are_listed q =
      ap (λ ls. unwrap_or (slice_get ls q) []) are
      ∙ listed (edges_from (edge_trees edges)) n q (λ m past. edges_past n m edges between past)

  pub listed_edges_stay : (q : ℕ) (e : EdgeTree) → Contains (unwrap_or (slice_get lists q) []) e → e.to < n
  listed_edges_stay q e stands = edges_stay n edges q e between (subst (λ es. Contains es e) (edges_are_listed q) stands)
