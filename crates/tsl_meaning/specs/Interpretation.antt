-- Finite interpretations and eventually periodic inputs. Values are the numbers below the domain.
-- Source: Finkbeiner, Klein, Piskac, Santolucito: Temporal Stream Logic: Synthesis Beyond the Bools
-- (CAV 2019), the semantics of functions and predicates, and input streams.
use Rattle.std.specs.Prelude.{◌≡◌, ◌≢◌, ◌↔◌, ℕ, ◌+◌, ◌*◌, ◌^◌, ◌<◌, ◌≤◌, ◌==◌, Bool, false, List, [], ◌∷◌, length, Option, Some, None}
use Rattle.std.specs.Prelude.{option_map, option_and_then, slice_get, fold, All, nat_lt, if◌then◌else◌, IsTrue}
use Rattle.std.specs.List.{list_all}
use Rattle.base_library.specs.Options.{passes}
use Rattle.tsl_terms.specs.declared.names.NameKind.TheVariants.{Function, Predicate}
use Rattle.tsl_terms.specs.Name.{Name}
use Rattle.tsl_terms.specs.Equality.{is_equality}
use Rattle.tsl_terms.specs.Value.{Meanings, beside}
use Rattle.program_tree.specs.ProgramTree.{ProgramTree}
use Rattle.tsl_meaning.specs.declared.run.InputLoop.{InputLoop}

-- how many values there are, the table of each function and each predicate but equality at the place of its number
-- among the names, and the value of each cell at first, in the order of the cells
pub record Interpretation : Type 0 where
  pub domain : ℕ
  pub tables : List (List ℕ)
  pub initial : List ℕ

-- the place of a list of arguments in a table: the number that they write in the base of the domain,
-- the first one being its most significant digit
abbrev pub place_of_arguments : ℕ → List ℕ → ℕ
place_of_arguments domain arguments = fold (λ n v. n * domain + v) 0 arguments

-- whether each argument is a value
abbrev pub are_values : ℕ → List ℕ → Bool
are_values domain arguments = list_all (λ v. nat_lt v domain) arguments

-- The entry of a table at its arguments. It is 0 where an argument is no value, and there is none where the
-- table is not for so many arguments.
abbrev pub entry_of : ℕ → List ℕ → List ℕ → Option ℕ
entry_of domain arguments table =
    if length table == (domain ^ length arguments)
    then (if are_values domain arguments then slice_get table (place_of_arguments domain arguments) else Some 0)
    else None

-- the entry of a symbol's table at its arguments
abbrev pub entry_at : Interpretation → ℕ → List ℕ → Option ℕ
entry_at interpretation id arguments =
    option_and_then (entry_of interpretation.domain arguments) (slice_get interpretation.tables id)

-- whether two arguments are the same; there is no truth for another number of arguments
abbrev pub same_two : List ℕ → Option Bool
same_two (a ∷ b ∷ []) = Some (a == b)
same_two arguments = None

-- what symbols and cells mean, where a test tells equality: it holds of two arguments that are the same, and every
-- other predicate where its entry is 1
abbrev pub meanings_by : (ℕ → Bool) → List ℕ → Interpretation → Meanings ℕ
meanings_by is_equal cells interpretation = record {
  function = entry_at interpretation;
  predicate = λ p arguments.
      if is_equal p then same_two arguments else option_map (λ entry. entry == 1) (entry_at interpretation p arguments);
  initial = λ s. beside s cells interpretation.initial;
}

-- what the symbols of a program over these names mean
abbrev pub meanings_in : List Name → ProgramTree → Interpretation → Meanings ℕ
meanings_in names program = meanings_by (is_equality names) program.cells

-- what symbols and cells mean, where equality has this number, or is none of them
abbrev pub meanings_with : Option ℕ → List ℕ → Interpretation → Meanings ℕ
meanings_with equality = meanings_by (λ p. passes (λ e. e == p) equality)

-- a number is that of equality among the names, or there is none
abbrev pub IsEqualityOf : List Name → Option ℕ → Type 0
IsEqualityOf names equality = (id : ℕ) → (equality ≡ Some id) ↔ IsTrue (is_equality names id)

-- a table for so many arguments, each entry of it below a limit
abbrev pub IsTable : ℕ → ℕ → ℕ → List ℕ → Type 0
IsTable domain arity limit table = (length table ≡ domain ^ arity) × All (λ entry. entry < limit) table

-- There is a value. Each function of the names has a table of values, each predicate of them that is not equality
-- has a table of zeros and ones, and each cell has a value at first.
pub record IsInterpretation (names : List Name) (cells : List ℕ) (interpretation : Interpretation) : Type 0 where
  pub domain : 1 ≤ interpretation.domain
  pub functions : (f : ℕ) (name : Name) → slice_get names f ≡ Some name → name.kind ≡ Function →
      (table : List ℕ) × (slice_get interpretation.tables f ≡ Some table)
      × IsTable interpretation.domain name.arity interpretation.domain table
  pub predicates : (p : ℕ) (name : Name) → slice_get names p ≡ Some name → name.kind ≡ Predicate → is_equality names p ≡ false →
      (table : List ℕ) × (slice_get interpretation.tables p ≡ Some table)
      × IsTable interpretation.domain name.arity 2 table
  pub initial : (length interpretation.initial ≡ length cells)
      × All (λ v. v < interpretation.domain) interpretation.initial

-- rows of values: those of a stem, and then those of a cycle again and again; and those of an input loop
pub record InputRows (V : Type 0) : Type 0 where
  pub stem : List (List V)
  pub cycle : List (List V)

abbrev pub rows_of : {V : Type 0} → InputLoop V → InputRows V
rows_of inputs = record { stem = inputs.stem; cycle = inputs.cycle }

abbrev pub IsRow : ℕ → List ℕ → List ℕ → Type 0
IsRow domain inputs row = (length row ≡ length inputs) × All (λ v. v < domain) row

-- the cycle has a row, and each row has one value for each input
pub record IsInputLoop (domain : ℕ) (inputs : List ℕ) (rows : InputRows ℕ) : Type 0 where
  pub repeats : rows.cycle ≢ []
  pub stem : All (IsRow domain inputs) rows.stem
  pub cycle : All (IsRow domain inputs) rows.cycle
