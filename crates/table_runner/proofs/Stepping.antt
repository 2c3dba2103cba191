-- From one step to the next.
use Rattle.std.proofs.Common.{◌≡◌, ◌∙◌, ℕ, zero, suc, ◌+◌, ◌<◌, ◌≤◌, ◌==◌, Bool, cond, true, false, List, [], ◌∷◌, ◌++◌, length, map, take}
use Rattle.std.proofs.Common.{drop, Option, Some}
use Rattle.std.proofs.Common.{slice_get, refl, sym, ap, subst, arith, add-one, inl, inr}
use Rattle.std.specs.Prelude.{option_map, option_and_then, IsSome}
use Rattle.std.specs.Option.{option_or}
use Rattle.std.proofs.lemmas.List.{length-append, map-append, take-map, length-map, length-take-le, take-append-drop, take_at, drop_at}
use Rattle.std.proofs.lemmas.Option.{same_Some, slice_get_within, slice_get-map}
use Rattle.std.proofs.lemmas.Simd.{map-map}
use Rattle.std.proofs.lemmas.Bool.Decides.{eqb_tells}
use Rattle.base_library.specs.Options.{all_there}
use Rattle.base_library.specs.Numbers.{IsDistinct}
use Rattle.base_library.proofs.Options.{some_mapped, there_mapped, there_before}
use Rattle.base_library.proofs.Places.{slice_get_grown}
use Rattle.base_library.proofs.Gathered.{length-all_there}
use Rattle.tsl_terms.specs.declared.term.Term.{Term}
use Rattle.tsl_terms.specs.TermTree.{TermTree, ProbeTree, term_tree}
use Rattle.tsl_terms.specs.Value.{Meanings, value, truth, beside}
use Rattle.tsl_terms.proofs.Beside.{beside_joined}
use Rattle.program_tree.specs.NodeTree.{NodeTree, branch, assign}
use Rattle.program_tree.specs.ProgramTree.{ProgramTree}
use Rattle.program_tree.specs.ProgramView.{program_tree}
use Rattle.program_tree.specs.declared.program.Program.{Program}
use Rattle.program_tree.specs.Walk.{Action, done_at, walk_from, walk}
use Rattle.interp_core.specs.LeafValue.{leaf_value}
use Rattle.tsl_meaning.specs.Interpretation.{InputRows, rows_of}
use Rattle.tsl_meaning.specs.Run.{Configuration, row_at, place_after, signal_value, action_in, configuration_after, configuration_at}
use Rattle.table_runner.specs.declared.standing.Standing.{Standing}
use Rattle.tsl_meaning.specs.declared.run.InputLoop.{InputLoop}
use Rattle.table_runner.specs.Running.{CanRun, rows_seen}
use Rattle.table_runner.specs.Standings.{shown, StandsAt}

-- a walk ends at a node of the program
walked_to : (nodes : List NodeTree) (truths : ProbeTree → Option Bool) (n i : ℕ) (action : Action) →
    walk_from nodes truths n i ≡ Some action →
    (j : ℕ) × (slice_get nodes j ≡ Some (assign action.updates action.go))
walked_to nodes truths zero i action is = absurd cc
walked_to nodes truths (suc n) i action is =
    let node = there_before (done_at truths (walk_from nodes truths n)) (slice_get nodes i) (rw is refl) in
    by node.0 node.1 (sym (ap (option_and_then (done_at truths (walk_from nodes truths n))) node.1)
    ∙ is) (λ j. walked_to nodes truths n j action)
  where
    by : (node : NodeTree) → slice_get nodes i ≡ Some node → done_at truths (walk_from nodes truths n) node ≡ Some action →
        ((j : ℕ) → walk_from nodes truths n j ≡ Some action → (k : ℕ) × (slice_get nodes k ≡ Some (assign action.updates action.go))) →
        (k : ℕ) × (slice_get nodes k ≡ Some (assign action.updates action.go))
    by (assign ts go) there done later =
        let same : record { updates = ts; go = go } ≡ action = same_Some _ _ done in
        (i, there ∙ ap (λ (a : Action). Some (assign a.updates a.go)) same)
    by (branch t a b) there done later =
        let truth = there_before (λ holds. walk_from nodes truths n (cond holds a b)) (truths t) (rw done refl) in
        later (cond truth.0 a b) (sym (ap (option_and_then (λ holds. walk_from nodes truths n (cond holds a b))) truth.1) ∙ done)

pub acts_at : (program : ProgramTree) (truths : ProbeTree → Option Bool) (state : ℕ) (action : Action) →
    walk program truths state ≡ Some action →
    (j : ℕ) × (slice_get program.nodes j ≡ Some (assign action.updates action.go))
acts_at program truths state action is =
    let node = there_before (walk_from program.nodes truths (length program.nodes)) (slice_get program.states state) (rw is refl) in
    walked_to program.nodes truths (length program.nodes) node.0 action
    (sym (ap (option_and_then (walk_from program.nodes truths (length program.nodes))) node.1) ∙ is)

-- the place after a place is one of the rows'
pub place_stays : {S : Type 0} (rows : InputRows S) (place : ℕ) → 0 < length rows.cycle → place < length (rows.stem ++ rows.cycle) →
    place_after rows place < length (rows.stem ++ rows.cycle)
place_stays rows place some within = elim (eqb_tells (place + 1) (length (rows.stem ++ rows.cycle))) [
  | inl same ↦ rw same.0 (omega (arith, length-append rows.stem rows.cycle, some))
  | inr other ↦ rw other.0 (omega (arith, other.1, within))
]

module _ {V S : Type 0} (seen : V → S) (meanings : Meanings S) (program : ProgramTree) (rows : InputRows S)
    (can : CanRun meanings program rows)
    (t : ℕ) (standing : Standing V) (stands : StandsAt seen meanings program rows t standing) where
  abbrev now : Configuration S
  now = shown seen (length program.inputs) standing

  abbrev leaves_at : ℕ → Option S
  leaves_at = leaf_value seen standing.leaves

  values_seen : List S
  values_seen = map seen standing.leaves.values

  pub row_long : length (take (length program.inputs) (map seen standing.leaves.values)) ≡ length program.inputs
  row_long = can.rows_fit standing.place (take (length program.inputs) (map seen standing.leaves.values)) stands.row

  pub place_within : standing.place < length (rows.stem ++ rows.cycle)
  place_within = slice_get_within (rows.stem ++ rows.cycle) standing.place _ stands.row

  -- the leaves give the values of signals
  leaf_is : (s : ℕ) → leaves_at s ≡ signal_value program rows now s
  leaf_is s =
      ap (λ ss. beside s ss (map seen standing.leaves.values)) stands.signals
      ∙ ap (beside s (program.inputs ++ program.cells)) (sym (take-append-drop (length program.inputs) (map seen standing.leaves.values)))
      ∙ beside_joined s program.inputs program.cells (take (length program.inputs) (map seen standing.leaves.values))
      (drop (length program.inputs) (map seen standing.leaves.values)) row_long
      ∙ ap (λ o. option_or o (beside s program.cells (drop (length program.inputs) (map seen standing.leaves.values))))
      (sym (ap (option_and_then (beside s program.inputs)) stands.row))

  leaves_are : leaves_at ≡ signal_value program rows now
  leaves_are i s = leaf_is s i

  pub acts : IsSome (walk program (truth meanings leaves_at) standing.state)
  acts =
      let step = can.goes_on t in
      let same = same_Some step.now now (sym step.is_now ∙ stands.is_now) in
      let does : action_in meanings program rows now ≡ Some step.action = subst (λ c. action_in meanings program rows c
      ≡ Some step.action) same step.does in
      subst (λ at. IsSome (walk program (truth meanings at) standing.state)) (sym leaves_are) (rw does refl)

  pub does_in : (action : Action) → walk program (truth meanings leaves_at) standing.state ≡ Some action →
      action_in meanings program rows now ≡ Some action
  does_in action is = subst (λ at. walk program (truth meanings at) standing.state ≡ Some action) leaves_are is

  module _ (action : Action) (does : action_in meanings program rows now ≡ Some action) where
    follows : configuration_at meanings program rows (suc t) ≡ configuration_after meanings program rows now action
    follows =
        ap (option_and_then (λ c. option_and_then (configuration_after meanings program rows c)
        (action_in meanings program rows c))) stands.is_now
        ∙ ap (option_and_then (configuration_after meanings program rows now)) does

    terms : List TermTree
    terms = take (length program.cells) action.updates

    cells_there : IsSome (all_there (map (value meanings leaves_at) (take (length program.cells) action.updates)))
    cells_there =
        let next = can.goes_on (suc t) in
        let is : configuration_after meanings program rows now action ≡ Some next.now = sym follows ∙ next.is_now in
        subst (λ at. IsSome (all_there (map (value meanings at) (take (length program.cells) action.updates)))) (sym leaves_are)
        (there_mapped (λ (cs : List S). record { place = place_after rows standing.place; state = action.go; cells = cs })
        (all_there (map (value meanings (signal_value program rows now)) (take (length program.cells) action.updates)))
        (subst IsSome (sym is) refl))

    terms_same : (us : List Term) → action.updates ≡ map term_tree us →
        map (value meanings leaves_at) (take (length program.cells) action.updates)
        ≡ map (λ u. value meanings leaves_at (term_tree u)) (take (length program.cells) us)
    terms_same us same =
        ap (λ ts. map (value meanings leaves_at) (take (length program.cells) ts)) same
        ∙ ap (map (value meanings leaves_at)) (take-map term_tree (length program.cells) us)
        ∙ map-map (value meanings leaves_at) term_tree (take (length program.cells) us)

    pub terms_there : (us : List Term) (n : ℕ) → n ≡ length program.cells → action.updates ≡ map term_tree us →
        IsSome (all_there (map (λ u. value meanings leaves_at (term_tree u)) (take n us)))
    terms_there us n count same =
        subst (λ k. IsSome (all_there (map (λ u. value meanings leaves_at (term_tree u)) (take k us)))) (sym count)
        (subst (λ vs. IsSome (all_there vs)) (terms_same us same) cells_there)

    -- and after the action it stands at the next step
    module _ (us : List Term) (n : ℕ) (row : List S) (vs : List V) (count : n ≡ length program.cells) (same : action.updates
        ≡ map term_tree us)
        (here : row_at rows (place_after rows standing.place) ≡ Some row)
        (found : option_map (λ cs. row ++ cs) (all_there (map (λ u. value meanings leaves_at (term_tree u)) (take n us)))
        ≡ Some (map seen vs)) where
      abbrev cells : (cs : List S) × (all_there (map (λ u. value meanings leaves_at (term_tree u)) (take n us)) ≡ Some cs)
          × (row ++ cs ≡ map seen vs)
      cells = some_mapped (λ cs. row ++ cs) _ _ found

      pub values_paired : n ≤ length us → length standing.leaves.signals ≡ length vs
      values_paired enough =
          let first : length row ≡ length program.inputs = can.rows_fit _ row here in
          let rest = length-all_there (map (λ u. value meanings leaves_at (term_tree u)) (take n us)) cells.0 cells.1 in
          let taken = length-map (take n us) (λ u. value meanings leaves_at (term_tree u)) in
          let whole = length-append row cells.0 in
          omega (
            arith,
            first,
            rest,
            taken,
            whole,
            ap length cells.2,
            length-map vs seen,
            length-take-le n us enough,
            count,
            ap length stands.signals,
            length-append program.inputs program.cells,
          )

      pub stands_next : (next : Standing V) → next.place ≡ place_after rows standing.place → next.state ≡ action.go →
          next.leaves.signals ≡ standing.leaves.signals → next.leaves.values ≡ vs → StandsAt seen meanings program rows (t + 1) next
      stands_next next place state signals values =
          let long = can.rows_fit _ row here in
          let there : all_there (map (value meanings (signal_value program rows now)) (take (length program.cells) action.updates))
          ≡ Some cells.0 =
          subst (λ at. all_there (map (value meanings at) (take (length program.cells) action.updates)) ≡ Some cells.0) leaves_are
          (ap all_there (terms_same us same) ∙ ap (λ k. all_there (map (λ u. value meanings leaves_at (term_tree u)) (take k us)))
          (sym count) ∙ cells.1) in
          let is_next : configuration_at meanings program rows (suc t)
          ≡ Some (record { place = place_after rows standing.place; state = action.go; cells = cells.0 }) =
          follows ∙ ap (option_map (λ (cs : List S). record { place = place_after rows standing.place; state = action.go; cells = cs }))
          there in
          record {
            is_now = rw (add-one t, place, state, values, ← cells.2, drop_at row cells.0 (length program.inputs) long) is_next;
            signals = signals ∙ stands.signals;
            row = rw (place, values, ← cells.2, take_at row cells.0 (length program.inputs) long) here;
          }

-- the signals that a program reads are distinct
pub read_distinct : (program : Program) → IsDistinct (program.inputs ++ program.cells)
read_distinct program i j n at_i at_j =
    program.signals_distinct i j n (slice_get_grown (program.inputs ++ program.cells) program.outputs i n at_i)
    (slice_get_grown (program.inputs ++ program.cells) program.outputs j n at_j)

-- where a run stands at first
module _ {V S : Type 0} (seen : V → S) (meanings : Meanings S) (program : ProgramTree) (rows : InputRows S)
    (can : CanRun meanings program rows) where
  pub first_there : (signals : List ℕ) → signals ≡ program.cells → IsSome (all_there (map meanings.initial signals))
  first_there signals same = subst (λ cs. IsSome (all_there (map meanings.initial cs))) (sym same) (
      there_mapped (λ (cs : List S). record { place = 0; state = 0; cells = cs }) (all_there (map meanings.initial program.cells))
      (let first = can.goes_on 0 in subst IsSome (sym first.is_now) refl))

  module _ (cells : List ℕ) (same : cells ≡ program.cells) (row : List S) (vs : List V) (here : row_at rows 0 ≡ Some row)
      (found : option_map (λ cs. row ++ cs) (all_there (map meanings.initial cells)) ≡ Some (map seen vs)) where
    abbrev first_cells : (cs : List S) × (all_there (map meanings.initial program.cells) ≡ Some cs) × (row ++ cs ≡ map seen vs)
    first_cells = some_mapped (λ cs. row ++ cs) _ _
        (subst (λ cs. option_map (λ ds. row ++ ds) (all_there (map meanings.initial cs)) ≡ Some (map seen vs)) same found)

    pub first_paired : length (program.inputs ++ program.cells) ≡ length vs
    first_paired =
        let first : length row ≡ length program.inputs = can.rows_fit 0 row here in
        let rest = length-all_there (map meanings.initial program.cells) first_cells.0 first_cells.1 in
        let whole = length-append row first_cells.0 in
        omega (
          arith,
          first,
          rest,
          length-map program.cells meanings.initial,
          whole,
          ap length first_cells.2,
          length-map vs seen,
          length-append program.inputs program.cells,
        )

    pub stands_first : (standing : Standing V) → standing.place ≡ 0 → standing.state ≡ 0 →
        standing.leaves.signals ≡ program.inputs ++ program.cells → standing.leaves.values ≡ vs →
        StandsAt seen meanings program rows 0 standing
    stands_first standing place state signals values =
        let long = can.rows_fit 0 row here in
        record {
          is_now = rw (place, state, values, ← first_cells.2, drop_at row first_cells.0 (length program.inputs) long)
              (ap (option_map (λ (cs : List S). record { place = 0; state = 0; cells = cs })) first_cells.1);
          signals = signals;
          row = rw (place, values, ← first_cells.2, take_at row first_cells.0 (length program.inputs) long) here;
        }

-- the rows of an input loop, and what is seen of them
module _ {V S : Type 0} (seen : V → S) (inputs : InputLoop V) where
  pub joined_rows : map (map seen) inputs.stem ++ map (map seen) inputs.cycle ≡ map (map seen) (inputs.stem ++ inputs.cycle)
  joined_rows = sym (map-append (map seen) inputs.stem inputs.cycle)

  pub rows_length : length ((rows_seen seen inputs).stem ++ (rows_seen seen inputs).cycle) ≡ length (inputs.stem ++ inputs.cycle)
  rows_length = ap length joined_rows ∙ length-map (inputs.stem ++ inputs.cycle) (map seen)

  pub place_same : (place : ℕ) → place_after (rows_seen seen inputs) place ≡ place_after (rows_of inputs) place
  place_same place =
      ap (λ n. cond ((place + 1) == n) (length (map (map seen) inputs.stem)) (place + 1)) rows_length
      ∙ ap (λ n. cond ((place + 1) == length (inputs.stem ++ inputs.cycle)) n (place + 1)) (length-map inputs.stem (map seen))

  pub row_seen : (place : ℕ) (row : List V) → slice_get (inputs.stem ++ inputs.cycle) place ≡ Some row →
      row_at (rows_seen seen inputs) place ≡ Some (map seen row)
  row_seen place row is =
      ap (λ rows. slice_get rows place) joined_rows ∙ slice_get-map (map seen) (inputs.stem ++ inputs.cycle) place
      ∙ ap (option_map (map seen)) is

  pub next_within : (place next : ℕ) → 0 < length inputs.cycle →
      place < length ((rows_seen seen inputs).stem ++ (rows_seen seen inputs).cycle) →
      next ≡ place_after (rows_of inputs) place → next < length (inputs.stem ++ inputs.cycle)
  next_within place next some within is =
      let stays = place_stays (rows_seen seen inputs) place (omega (arith, some, length-map inputs.cycle (map seen))) within in
      omega (arith, stays, rows_length, place_same place, is)

-- an action has a term for each cell
pub updates_long : (program : Program) (truths : ProbeTree → Option Bool) (state go : ℕ) (us : List Term) →
    walk (program_tree program) truths state ≡ Some (record { updates = map term_tree us; go = go }) → length program.cells ≤ length us
updates_long program truths state go us is =
    let at = acts_at (program_tree program) truths state (record { updates = map term_tree us; go = go }) is in
    let fits = program.assignments_fit at.0 go (map term_tree us) at.1 in
    omega (arith, fits.0, length-map us term_tree)
