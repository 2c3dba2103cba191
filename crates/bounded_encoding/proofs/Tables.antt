-- Tables of rows and columns that are made place by place.
use Rattle.std.proofs.Common.{◌≡◌, ◌∙◌, ℕ, suc, ◌+◌, ◌*◌, ◌/◌, ◌%◌, ◌<◌, ◌≤◌, inl, inr, Bool, true, false, cond, List, map, length}
use Rattle.std.proofs.Common.{None, Some, slice_get, refl, ap, arith, ltb}
use Rattle.std.specs.List.{range_with_len}
use Rattle.std.proofs.Math.Nat.{mul-le-mul_right}
use Rattle.std.proofs.lemmas.Nat.{div-mul-add, mod-mul-add}
use Rattle.std.proofs.lemmas.Bool.{lt-ltb, ltb-true, cases_lt}
use Rattle.std.proofs.lemmas.Option.{none-some, slice_get_within}
use Rattle.std.proofs.lemmas.List.FromFn.{length-map-range_with_len}
use Rattle.machines.specs.MachineTree.{cell_at}
use Rattle.bounded_encoding.proofs.Ranges.{range_at}

-- a cell lies within its table, and outside of its rows there is none
pub place_within : (rows columns row column : ℕ) → row < rows → column < columns → row * columns + column < rows * columns
place_within rows columns row column in_rows in_columns =
    let most : suc row * columns ≤ rows * columns = mul-le-mul_right columns in_rows in
    let more : suc row * columns ≡ row * columns + columns = grind arith in
    omega (arith, most, more, in_columns)

pub row_within : (rows columns row column : ℕ) → row * columns + column < rows * columns → row < rows
row_within rows columns row column within = elim (cases_lt row rows) [
  | inl inside ↦ inside
  | inr past ↦ (let most : rows * columns ≤ row * columns = mul-le-mul_right columns past in absurd (omega (arith, most, within)))
]

pub cell_within : {X : Type 0} (rows columns : ℕ) (cells : List X) (row column : ℕ) (x : X) → length cells ≡ rows * columns →
    cell_at columns cells row column ≡ Some x → (row < rows) × (column < columns) × (slice_get cells (row * columns + column) ≡ Some x)
cell_within rows columns cells row column x size is = by (ltb column columns) refl is
  where
    by : (b : Bool) → ltb column columns ≡ b → cond b (slice_get cells (row * columns + column)) None ≡ Some x →
        (row < rows) × (column < columns) × (slice_get cells (row * columns + column) ≡ Some x)
    by false outside at = absurd (none-some x at)
    by true inside at =
        let place = slice_get_within cells (row * columns + column) x at in
        (row_within rows columns row column (omega (arith, place, size)), ltb-true column columns inside, at)

pub cell_in_row : {X : Type 0} (columns : ℕ) (cells : List X) (row column : ℕ) → column < columns →
    cell_at columns cells row column ≡ slice_get cells (row * columns + column)
cell_in_row columns cells row column inside =
    ap (λ b. cond b (slice_get cells (row * columns + column)) None) (lt-ltb column columns inside)

module _ {X : Type 0} (f : ℕ → ℕ → X) (rows columns : ℕ) where
  abbrev pub table : List X
  table = map (λ k. f (k / columns) (k % columns)) (range_with_len 0 (rows * columns))

  pub table_length : length table ≡ rows * columns
  table_length = length-map-range_with_len (λ k. f (k / columns) (k % columns)) 0 (rows * columns)

  pub table_at : (row column : ℕ) → row < rows → column < columns → slice_get table (row * columns + column) ≡ Some (f row column)
  table_at row column in_rows in_columns =
      let place : 0 + (row * columns + column) ≡ row * columns + column = omega arith in
      range_at (λ k. f (k / columns) (k % columns)) 0 (rows * columns) (row * columns + column)
      (place_within rows columns row column in_rows in_columns)
      ∙ ap (λ k. Some (f (k / columns) (k % columns))) place
      ∙ (λ i. Some (f (div-mul-add row columns column in_columns i) (mod-mul-add row columns column in_columns i)))

  pub table_cell : (row column : ℕ) → row < rows → column < columns → cell_at columns table row column ≡ Some (f row column)
  table_cell row column in_rows in_columns = cell_in_row columns table row column in_columns ∙ table_at row column in_rows in_columns
