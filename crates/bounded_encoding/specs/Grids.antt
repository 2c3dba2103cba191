-- Variables in a grid, by row, column and place, and clauses over those of each cell.
use Rattle.std.specs.Prelude.{ℕ, ◌+◌, ◌*◌, ◌^◌, ◌<◌, ◌≤◌, List}
use Rattle.clause_core.specs.Literals.{Lit}
use Rattle.bounded_encoding.specs.ClauseLists.{each}
use Rattle.bounded_encoding.specs.SimpleClauses.{exactly_one, falling}
use Rattle.bounded_encoding.specs.declared.grid.Grid.{Grid}

-- the index of a variable
abbrev pub cell_index : Grid → ℕ → ℕ → ℕ → ℕ
cell_index g row column place = g.base + (row * g.columns + column) * g.width + place

-- exactly one variable of each cell is true
abbrev pub one_in_row : Grid → ℕ → List (List Lit)
one_in_row g row = each 0 g.columns (λ column. exactly_one (cell_index g row column) 0 g.width)

abbrev pub one_in_each : Grid → List (List Lit)
one_in_each g = each 0 g.rows (one_in_row g)

-- in each cell, a variable that is true makes that at the place before true
abbrev pub falling_in_row : Grid → ℕ → ℕ → List (List Lit)
falling_in_row g bound row = each 0 g.columns (λ column. falling (cell_index g row column) bound)

abbrev pub falling_in_each : Grid → ℕ → List (List Lit)
falling_in_each g bound = each 0 g.rows (falling_in_row g bound)

-- a cell has a variable, and the numbers of all variables fit
pub record IsGrid (g : Grid) : Type 0 where
  pub some : 1 ≤ g.width
  pub few : g.base + g.rows * g.columns * g.width < 2 ^ 31
