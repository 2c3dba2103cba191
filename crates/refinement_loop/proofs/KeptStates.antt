-- A program that walks in each state as a controller does in a state of its own has a controller, which is that one restricted to
-- these states.
use Rattle.std.proofs.Common.{◌≡◌, ◌∙◌, ℕ, zero, suc, ◌+◌, ◌*◌, ◌/◌, ◌%◌, ◌<◌, ◌≤◌, ◌⊎◌, inl, inr, List, [], length, Some, slice_get}
use Rattle.std.proofs.Common.{refl, sym, ap, subst, arith}
use Rattle.std.proofs.lemmas.Bool.{cases_lt}
use Rattle.std.proofs.lemmas.Option.{slice_get_within}
use Rattle.std.proofs.Math.Nat.{div-lt_iff_lt-mul}
use Rattle.base_library.proofs.Each.{each_from_places}
use Rattle.base_library.proofs.Options.{one_value}
use Rattle.base_library.proofs.Places.{slice_get_some, slice_get_one, slice_get_mapped}
use Rattle.program_tree.specs.ProgramTree.{ProgramTree}
use Rattle.letter_space.specs.SpaceTree.{SpaceTree}
use Rattle.letter_space.specs.Letters.{ArePicks}
use Rattle.machines.specs.MachineTree.{EntryTree, ControllerTree, IsController, controller_entry}
use Rattle.machines.specs.Moves.{FitsSpace}
use Rattle.control_flow_model.specs.ControllerOf.{IsEntryOf, IsControllerOf}
use Rattle.control_flow_model.proofs.PickedTerms.{picks_there}
use Rattle.bounded_encoding.proofs.Tables.{place_within, cell_within, cell_in_row, table, table_length, table_at, table_cell}
use Rattle.refinement_loop.proofs.RestrictedControllers.{IsMovedEntry, IsRestriction}

-- what stands in a table is what was put at its row and column
table_has : {X : Type 0} (f : ℕ → ℕ → X) (rows columns k : ℕ) (x : X) → slice_get (table f rows columns) k ≡ Some x →
    (row : ℕ) × (column : ℕ) × (row < rows) × (column < columns) × (x ≡ f row column)
table_has f rows columns k x at =
    let below : k < rows * columns =
    subst (λ n. k < n) (table_length f rows columns) (slice_get_within (table f rows columns) k x at) in
    let some = some_column columns below in
    let row : k / columns < rows = (div-lt_iff_lt-mul some).1 below in
    let column : k % columns < columns = omega (arith, some) in
    let place : (k / columns) * columns + k % columns ≡ k = omega (arith, some) in (
      k / columns,
      k % columns,
      row,
      column,
      slice_get_one (table f rows columns) k x (f (k / columns) (k % columns)) at
          (ap (slice_get (table f rows columns)) (sym place) ∙ table_at f rows columns (k / columns) (k % columns) row column),
    )
  where
    some_column : (n : ℕ) → k < rows * n → 0 < n
    some_column zero less = absurd (omega arith)
    some_column (suc n) less = omega arith

-- the states that the program's states stand for, and the walk of the program from each
pub record WalksAs (space : SpaceTree) (c : ControllerTree) (program : ProgramTree) (kept : List ℕ) : Type 0 where
  pub start : slice_get kept 0 ≡ Some 0
  pub states : length program.states ≡ length kept
  pub below : (i s : ℕ) → slice_get kept i ≡ Some s → s < c.states
  pub walks : (i s v : ℕ) (e : EntryTree) → slice_get kept i ≡ Some s → controller_entry c s v ≡ Some e →
      (go : ℕ) × (slice_get kept go ≡ Some e.next) × IsEntryOf space program i v (record { choices = e.choices; next = go })

module _ (space : SpaceTree) (c : ControllerTree) (is_table : IsController c) (fits : FitsSpace space c) (program : ProgramTree)
    (kept : List ℕ) (walking : WalksAs space c program kept) where
  -- what is done in a state under a valuation
  pub record Cell (i v : ℕ) : Type 0 where
    pub state : ℕ
    pub is_state : slice_get kept i ≡ Some state
    pub entry : EntryTree
    pub there : controller_entry c state v ≡ Some entry
    pub go : ℕ
    pub goes : slice_get kept go ≡ Some entry.next
    pub does : IsEntryOf space program i v (record { choices = entry.choices; next = go })

  pub cell : (i v : ℕ) → i < length kept → v < c.valuations → Cell i v
  cell i v in_rows in_columns =
      let s = slice_get_some kept i in_rows in
      let place = place_within c.states c.valuations s.0 v (walking.below i s.0 s.1) in_columns in
      let e = slice_get_some c.entries (s.0 * c.valuations + v)
      (subst (λ n. s.0 * c.valuations + v < n) (sym is_table.has_entries) place) in
      let there : controller_entry c s.0 v ≡ Some e.0 = cell_in_row c.valuations c.entries s.0 v in_columns ∙ e.1 in
      let done = walking.walks i s.0 v e.0 s.1 there in
      record { state = s.0; is_state = s.1; entry = e.0; there = there; go = done.0; goes = done.1; does = done.2 }

  abbrev pub made : (i v : ℕ) → Cell i v → EntryTree
  made i v k = record { choices = k.entry.choices; next = k.go }

  abbrev pub made_at : (i v : ℕ) → (i < length kept) ⊎ (length kept ≤ i) → (v < c.valuations) ⊎ (c.valuations ≤ v) → EntryTree
  made_at i v (inl in_rows) (inl in_columns) = made i v (cell i v in_rows in_columns)
  made_at i v (inl in_rows) (inr past) = record { choices = []; next = 0 }
  made_at i v (inr past) other = record { choices = []; next = 0 }

  abbrev pub entry_at : ℕ → ℕ → EntryTree
  entry_at i v = made_at i v (cases_lt i (length kept)) (cases_lt v c.valuations)

  entry_is : (i v : ℕ) → i < length kept → v < c.valuations → (k : Cell i v) × (entry_at i v ≡ made i v k)
  entry_is i v in_rows in_columns = by (cases_lt i (length kept)) (cases_lt v c.valuations)
    where
      by : (a : (i < length kept) ⊎ (length kept ≤ i)) (b : (v < c.valuations) ⊎ (c.valuations ≤ v)) →
          (k : Cell i v) × (made_at i v a b ≡ made i v k)
      by (inl row) (inl column) = (cell i v row column, refl)
      by (inl row) (inr past) = absurd (omega (arith, in_columns, past))
      by (inr past) other = absurd (omega (arith, in_rows, past))

  abbrev pub restricted : ControllerTree
  restricted = record { states = length kept; valuations = c.valuations; entries = table entry_at (length kept) c.valuations }

  pub is_restriction : IsRestriction c restricted kept
  is_restriction = record { start = walking.start; entries = moved }
    where
      moved : (i v : ℕ) (e : EntryTree) → controller_entry restricted i v ≡ Some e → IsMovedEntry c kept i v e
      moved i v e at =
          let place = cell_within (length kept) c.valuations restricted.entries i v e
          (table_length entry_at (length kept) c.valuations) at in
          let is = entry_is i v place.0 place.1 in
          let same : e ≡ made i v is.0 =
          one_value (controller_entry restricted i v) e (entry_at i v) at
          (table_cell entry_at (length kept) c.valuations i v place.0 place.1) ∙ is.1 in
          record {
            state = is.0.state;
            is_state = is.0.is_state;
            entry = is.0.entry;
            there = is.0.there;
            choices = ap (λ (x : EntryTree). x.choices) same;
            next = ap (λ (x : EntryTree). slice_get kept x.next) same ∙ is.0.goes;
          }

  -- what stands in the table is done somewhere
  placed : (j : ℕ) (e : EntryTree) → slice_get restricted.entries j ≡ Some e → (i : ℕ) × (v : ℕ) × (k : Cell i v) × (e ≡ made i v k)
  placed j e at =
      let there = table_has entry_at (length kept) c.valuations j e at in
      there_is there.0 there.1 there.2 there.3 there.4
    where
      there_is : (i v : ℕ) → i < length kept → v < c.valuations → e ≡ entry_at i v →
          (i : ℕ) × (v : ℕ) × (k : Cell i v) × (e ≡ made i v k)
      there_is i v in_rows in_columns same =
          let is = entry_is i v in_rows in_columns in
          (i, v, is.0, same ∙ is.1)

  pub is_controller : IsControllerOf space program restricted
  is_controller = record {
    table = record {
      has_state = slice_get_within kept 0 0 walking.start;
      has_entries = table_length entry_at (length kept) c.valuations;
      stays = λ j n at.
          let entry = slice_get_mapped (λ (e : EntryTree). e.next) restricted.entries j n at in
          next_below entry.0 n entry.2 (placed j entry.0 entry.1);
    };
    fits = record {
      valuations = fits.valuations;
      choices = each_from_places (λ e. ArePicks space.controlled e.choices) restricted.entries (λ j e at. picked e (placed j e at));
    };
    states = sym walking.states;
    entries = λ s v state valuation.
        let is = entry_is s v state valuation in (
          entry_at s v,
          table_cell entry_at (length kept) c.valuations s v state valuation,
          subst (IsEntryOf space program s v) (sym is.1) is.0.does,
        );
  }
    where
      next_below : (e : EntryTree) (n : ℕ) → e.next ≡ n → (i : ℕ) × (v : ℕ) × (k : Cell i v) × (e ≡ made i v k) → n < length kept
      next_below e n is (i, v, k, same) =
          subst (λ m. m < length kept) (ap (λ (d : EntryTree). d.next) (sym same) ∙ is) (slice_get_within kept k.go k.entry.next k.goes)

      picked : (e : EntryTree) → (i : ℕ) × (v : ℕ) × (k : Cell i v) × (e ≡ made i v k) → ArePicks space.controlled e.choices
      picked e (i, v, k, same) =
          subst (λ (d : EntryTree). ArePicks space.controlled d.choices) (sym same)
          (picks_there space.controlled k.entry.choices k.does.action.updates k.does.assigns)
