-- Each step of a program over names is there, under every interpretation of the names and every input loop.
use Rattle.std.proofs.Common.{◌≡◌, ◌∙◌, ℕ, zero, suc, ◌+◌, ◌<◌, ◌≤◌, ◌==◌, Bool, true, false, ◌||◌, cond, List, [], ◌∷◌, ◌++◌, length, map}
use Rattle.std.proofs.Common.{take, Option, Some, None, refl, sym, ap, arith, inl, inr}
use Rattle.std.specs.Prelude.{option_map, option_and_then, ◌≢◌}
use Rattle.std.specs.Option.{option_or}
use Rattle.std.specs.List.{list_all, AllByRecursion}
use Rattle.std.proofs.lemmas.Bool.{and_parts, false≢true}
use Rattle.std.proofs.lemmas.Bool.Decides.{eqb_tells}
use Rattle.std.proofs.lemmas.List.{length-append, length-take-le}
use Rattle.std.proofs.lemmas.List.Elements.{recursion_from_All}
use Rattle.std.proofs.lemmas.List.Folds.{list_any-append}
use Rattle.base_library.specs.Options.{all_there}
use Rattle.base_library.proofs.Each.{each_at, each_joined}
use Rattle.base_library.proofs.Places.{slice_get_some}
use Rattle.base_library.proofs.Numbers.{among_first, among_next}
use Rattle.tsl_terms.specs.Name.{Name}
use Rattle.tsl_terms.specs.TermTree.{TermTree, ProbeTree}
use Rattle.tsl_terms.specs.FormulaTree.{Atom, test, update, FormulaTree}
use Rattle.tsl_terms.specs.Atoms.{atoms}
use Rattle.tsl_terms.specs.OnlyThese.{reads_only, read_only, atom_reads_only, atom_updates_only}
use Rattle.tsl_terms.specs.Value.{Meanings, value, truth, beside}
use Rattle.program_tree.specs.ProgramTree.{ProgramTree, controlled}
use Rattle.base_library.specs.Numbers.{is_among}
use Rattle.tsl_meaning.specs.OverNames.{term_is_over, probe_is_over, atom_is_over, IsProgramOver, IsFormulaOver}
use Rattle.tsl_meaning.specs.Interpretation.{Interpretation, InputRows, IsInterpretation, IsInputLoop, IsRow, meanings_in}
use Rattle.tsl_meaning.specs.Run.{Configuration, HasStep, row_at, place_after, signal_value, action_in, configuration_after}
use Rattle.tsl_meaning.specs.Run.{configuration_at}
use Rattle.tsl_meaning.specs.Lasso.{IsDecided}
use Rattle.tsl_meaning.proofs.Values.{HasValue, value_there, truth_there}
use Rattle.tsl_meaning.proofs.Walks.{IsDone, done_in}

-- what stands beside a member of a list of as many others is there, and is as each of them is
pub beside_there : {V : Type 0} (P : V → Type 0) (s : ℕ) (signals : List ℕ) (vs : List V) → length vs ≡ length signals →
    AllByRecursion P vs → is_among signals s ≡ true →
    (v : V) × (beside s signals vs ≡ Some v) × P v
beside_there P s [] vs count each among = absurd (false≢true among)
beside_there P s (r ∷ rs) [] count each among = absurd (omega (arith, count))
beside_there P s (r ∷ rs) (v ∷ vs) count each among = elim (eqb_tells r s) [
  | inl same ↦ (v, ap (λ b. cond b (Some v) (beside s rs vs)) same.0, each.0)
  | inr other ↦
      let rest = beside_there P s rs vs (omega (arith, count)) each.1 (rw other.0 at among) in
      (rest.0, ap (λ b. cond b (Some v) (beside s rs vs)) other.0 ∙ rest.1, rest.2)
]

value_beside : (domain s : ℕ) (signals vs : List ℕ) → length vs ≡ length signals → AllByRecursion (λ v. v < domain) vs →
    is_among signals s ≡ true → HasValue domain (beside s signals vs)
value_beside domain s signals vs count below among =
    let found = beside_there (λ v. v < domain) s signals vs count below among in
    record { value = found.0; is = found.1; below = found.2 }

-- and what is no member has nothing beside it
beside_none : {V : Type 0} (s : ℕ) (signals : List ℕ) (vs : List V) → is_among signals s ≡ false → beside s signals vs ≡ None
beside_none s [] vs among = refl
beside_none s (r ∷ rs) [] among = refl
beside_none s (r ∷ rs) (v ∷ vs) among = elim (eqb_tells r s) [
  | inl same ↦ absurd (false≢true (sym (rw same.0 at among)))
  | inr other ↦ ap (λ b. cond b (Some v) (beside s rs vs)) other.0 ∙ beside_none s rs vs (rw other.0 at among)
]

-- values below a limit, one for each member
record HaveAll (domain count : ℕ) (found : Option (List ℕ)) : Type 0 where
  members : List ℕ
  are : found ≡ Some members
  length_is : length members ≡ count
  below : AllByRecursion (λ v. v < domain) members

all_found : {X : Type 0} (domain : ℕ) (f : X → Option ℕ) (xs : List X) → AllByRecursion (λ x. HasValue domain (f x)) xs →
    HaveAll domain (length xs) (all_there (map f xs))
all_found domain f [] each = record { members = []; are = refl; length_is = refl; below = tt }
all_found domain f (x ∷ xs) each =
    let first : HasValue domain (f x) = each.0 in
    let rest = all_found domain f xs each.1 in
    record {
      members = first.value ∷ rest.members;
      are = rw (first.is, rest.are) refl;
      length_is = ap suc rest.length_is;
      below = (first.below, rest.below);
    }

module _ (names : List Name) (program : ProgramTree) (interpretation : Interpretation) (rows : InputRows ℕ)
    (over : IsProgramOver names program) (is : IsInterpretation names program.cells interpretation)
    (loop : IsInputLoop interpretation.domain program.inputs rows) where
  abbrev meanings : Meanings ℕ
  meanings = meanings_in names program interpretation

  -- a configuration of the program's: its place is one of the rows', its state one of the program's, and each cell has a value
  pub record IsConfiguration (c : Configuration ℕ) : Type 0 where
    pub place : c.place < length (rows.stem ++ rows.cycle)
    pub state : c.state < length program.states
    pub count : length c.cells ≡ length program.cells
    pub below : AllByRecursion (λ v. v < interpretation.domain) c.cells

  some_row : 1 ≤ length rows.cycle
  some_row = by rows.cycle loop.repeats
    where
      by : (rows : List (List ℕ)) → rows ≢ [] → 1 ≤ length rows
      by [] repeats = absurd (repeats refl)
      by (r ∷ rs) repeats = omega arith

  each_row : AllByRecursion (IsRow interpretation.domain program.inputs) (rows.stem ++ rows.cycle)
  each_row = each_joined (IsRow interpretation.domain program.inputs) rows.stem rows.cycle (recursion_from_All _ rows.stem loop.stem)
      (recursion_from_All _ rows.cycle loop.cycle)

  module _ (c : Configuration ℕ) (stands : IsConfiguration c) where
    -- each input and each cell has a value
    known : (s : ℕ) → is_among (program.inputs ++ program.cells) s ≡ true → HasValue interpretation.domain (signal_value program rows c s)
    known s among =
        let row = slice_get_some (rows.stem ++ rows.cycle) c.place stands.place in
        let fits = each_at (IsRow interpretation.domain program.inputs) (rows.stem ++ rows.cycle) c.place row.0 each_row row.1 in
        by row.0 row.1 fits (is_among program.inputs s) refl
      where
        by : (row : List ℕ) → row_at rows c.place ≡ Some row → IsRow interpretation.domain program.inputs row → (b : Bool) →
            is_among program.inputs s ≡ b → HasValue interpretation.domain (signal_value program rows c s)
        by row at fits true input =
            let v = value_beside interpretation.domain s program.inputs row fits.0 (recursion_from_All _ row fits.1) input in
            record {
              value = v.value;
              is = ap (λ o. option_or o (beside s program.cells c.cells)) (ap (option_and_then (beside s program.inputs)) at ∙ v.is);
              below = v.below;
            }
        by row at fits false no_input =
            let cell : is_among program.cells s ≡ true = ap (λ b. b || is_among program.cells s) (sym no_input)
            ∙ sym (list_any-append (λ r. r == s) program.inputs program.cells) ∙ among in
            let v = value_beside interpretation.domain s program.cells c.cells stands.count stands.below cell in
            record {
              value = v.value;
              is = ap (λ o. option_or o (beside s program.cells c.cells)) (ap (option_and_then (beside s program.inputs)) at
                  ∙ beside_none s program.inputs row no_input) ∙ v.is;
              below = v.below;
            }

    pub truth_in : (p : ProbeTree) → probe_is_over names p ≡ true → read_only (program.inputs ++ program.cells) p.arguments ≡ true →
        (b : Bool) × (truth meanings (signal_value program rows c) p ≡ Some b)
    truth_in = truth_there names program interpretation is (program.inputs ++ program.cells) (signal_value program rows c) known

    pub action_there : IsDone names program over (action_in meanings program rows c)
    action_there = done_in names program over (truth meanings (signal_value program rows c)) truth_in c.state stands.state

    updates_there : (ts : List TermTree) → list_all (reads_only (program.inputs ++ program.cells)) ts ≡ true →
        list_all (term_is_over names) ts ≡ true → (n : ℕ) →
        AllByRecursion (λ t. HasValue interpretation.domain (value meanings (signal_value program rows c) t)) (take n ts)
    updates_there ts reads overs zero = tt
    updates_there [] reads overs (suc n) = tt
    updates_there (t ∷ ts) reads overs (suc n) =
        let read = and_parts (reads_only (program.inputs ++ program.cells) t)
        (list_all (reads_only (program.inputs ++ program.cells)) ts) reads in
        let named = and_parts (term_is_over names t) (list_all (term_is_over names) ts) overs in (
          value_there names program interpretation is (program.inputs ++ program.cells)
              (signal_value program rows c) known t named.0 read.0,
          updates_there ts read.1 named.1 n,
        )

    place_stays : place_after rows c.place < length (rows.stem ++ rows.cycle)
    place_stays = elim (eqb_tells (c.place + 1) (length (rows.stem ++ rows.cycle))) [
      | inl same ↦ rw same.0 (omega (arith, length-append rows.stem rows.cycle, some_row))
      | inr other ↦ rw other.0 (omega (arith, other.1, stands.place))
    ]

    next_there : (d : Configuration ℕ) × (configuration_after meanings program rows c action_there.action ≡ Some d) × IsConfiguration d
    next_there =
        let acts = action_there.acts in
        let taken : List TermTree = take (length program.cells) action_there.action.updates in
        let cells = all_found interpretation.domain (value meanings (signal_value program rows c)) taken
        (updates_there action_there.action.updates acts.reads acts.over_names (length program.cells)) in
        let few : length taken ≡ length program.cells =
        length-take-le (length program.cells) action_there.action.updates (omega (arith, acts.count)) in (
          record { place = place_after rows c.place; state = action_there.action.go; cells = cells.members },
          ap (option_map (λ (vs : List ℕ). record { place = place_after rows c.place; state = action_there.action.go; cells = vs }))
              cells.are,
          record { place = place_stays; state = acts.go; count = cells.length_is ∙ few; below = cells.below },
        )

  -- the configuration after so many steps is there
  pub configuration_there : (t : ℕ) → (c : Configuration ℕ) × (configuration_at meanings program rows t ≡ Some c) × IsConfiguration c
  configuration_there zero =
      let cells = all_found interpretation.domain meanings.initial program.cells (each_cell program.cells (λ s among. among)) in (
        record { place = 0; state = 0; cells = cells.members },
        ap (option_map (λ (vs : List ℕ). record { place = 0; state = 0; cells = vs })) cells.are,
        record {
          place = omega (arith, length-append rows.stem rows.cycle, some_row);
          state = over.is_program.states_fit.0;
          count = cells.length_is;
          below = cells.below;
        },
      )
    where
      each_cell : (ss : List ℕ) → ((s : ℕ) → is_among ss s ≡ true → is_among program.cells s ≡ true) →
          AllByRecursion (λ s. HasValue interpretation.domain (meanings.initial s)) ss
      each_cell [] among = tt
      each_cell (s ∷ ss) among = (
        value_beside interpretation.domain s program.cells interpretation.initial is.initial.0
            (recursion_from_All _ interpretation.initial is.initial.1) (among s (among_first s ss)),
        each_cell ss (λ r stands. among r (among_next s r ss stands)),
      )
  configuration_there (suc t) =
      let before = configuration_there t in
      let done = action_there before.0 before.2 in
      let next = next_there before.0 before.2 in (
        next.0,
        ap (option_and_then (λ c. option_and_then (configuration_after meanings program rows c) (action_in meanings program rows c)))
            before.1
            ∙ ap (option_and_then (configuration_after meanings program rows before.0)) done.is
            ∙ next.1,
        next.2,
      )

  pub step_there : (t : ℕ) → HasStep meanings program rows t
  step_there t =
      let c = configuration_there t in
      let done = action_there c.0 c.2 in
      record { now = c.0; is_now = c.1; action = done.action; does = done.is }

  -- each atom of a formula that speaks of the program is decided at each step
  atom_decided : (t : ℕ) (a : Atom) → atom_is_over names a ≡ true → atom_reads_only (program.inputs ++ program.cells) a ≡ true →
      atom_updates_only (controlled program) a ≡ true →
      IsDecided meanings program rows t a
  atom_decided t (test p) over_names reads updates =
      let c = configuration_there t in
      let holds = truth_in c.0 c.2 p over_names reads in
      (holds.0, ap (option_and_then (λ d. truth meanings (signal_value program rows d) p)) c.1 ∙ holds.1)
  atom_decided t (update s tree) over_names reads updates =
      let c = configuration_there t in
      let done = action_there c.0 c.2 in
      let count : length done.action.updates ≡ length (controlled program) = done.acts.count
      ∙ sym (length-append program.cells program.outputs) in
      let found = beside_there (λ _. Unit {0}) s (controlled program) done.action.updates count (anything done.action.updates) updates in (
        found.0,
        ap (option_and_then (λ d. option_and_then (λ action. beside s (controlled program) action.updates)
            (action_in meanings program rows d))) c.1
            ∙ ap (option_and_then (λ action. beside s (controlled program) action.updates)) done.is
            ∙ found.1,
      )
    where
      anything : (ts : List TermTree) → AllByRecursion (λ _. Unit {0}) ts
      anything [] = tt
      anything (u ∷ us) = (tt, anything us)

  each_decided : (t : ℕ) (members : List Atom) → list_all (atom_is_over names) members ≡ true →
      list_all (atom_reads_only (program.inputs ++ program.cells)) members ≡ true →
      list_all (atom_updates_only (controlled program)) members ≡ true → AllByRecursion (IsDecided meanings program rows t) members
  each_decided t [] over_names reads updates = tt
  each_decided t (a ∷ members) over_names reads updates =
      let named = and_parts (atom_is_over names a) (list_all (atom_is_over names) members) over_names in
      let read = and_parts (atom_reads_only (program.inputs ++ program.cells) a)
      (list_all (atom_reads_only (program.inputs ++ program.cells)) members) reads in
      let updated = and_parts (atom_updates_only (controlled program) a)
      (list_all (atom_updates_only (controlled program)) members) updates in
      (atom_decided t a named.0 read.0 updated.0, each_decided t members named.1 read.1 updated.1)

  pub atoms_decided : (f : FormulaTree) → IsFormulaOver names program f → (t : ℕ) →
      AllByRecursion (IsDecided meanings program rows t) (atoms f)
  atoms_decided f speaks t = each_decided t (atoms f) speaks.names_fit speaks.reads speaks.updates
