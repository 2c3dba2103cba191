-- Internal: only private functions of this crate use these words.
-- The entries of a text with the place of the entry for each name.
use Rattle.std.specs.Prelude.{◌≡◌, ℕ, ◌<◌, ◌^◌, List, [], ◌∷◌, Some, true, All, IsSomeAnd}
use Rattle.tsl_terms.specs.Name.{Name}
use Rattle.table_interp.specs.declared.entries.Located.{Located}
use Rattle.table_syntax.specs.Syntax.{Entry, TablesSyntax}
use Rattle.entry_names.specs.Needed.{is_symbol_number}
use Rattle.entry_names.specs.Entries.{AreLocated}
use Rattle.table_interp.specs.Tables.{subjects_of, numbers_for}
use Rattle.table_syntax.specs.View.{entries_view}

abbrev pub located_tables : Located → TablesSyntax
located_tables l = record { domain = l.domain; entries = entries_view l.entries.now }

abbrev pub IsLocated : Located → Type 0
IsLocated l = AreLocated l.names.now (subjects_of (located_tables l)) l.places.now

-- a function or a predicate has a table, of numbers below 2^32
abbrev pub HasSmallTable : List Name → List Entry → ℕ → Type 0
HasSmallTable names entries id =
    is_symbol_number names id ≡ true → IsSomeAnd (numbers_for names entries id) (λ ns. All (λ n. n < 2 ^ 32) ns)

-- a name has one number, which is below 2^32
pub record HasOneSmall (names : List Name) (entries : List Entry) (id : ℕ) : Type 0 where
  pub number : ℕ
  pub is : numbers_for names entries id ≡ Some (number ∷ [])
  pub small : number < 2 ^ 32
