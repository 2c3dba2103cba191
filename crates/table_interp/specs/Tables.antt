-- Which interpretation a text of tables spells, and the cause of each refusal. A refusal has the first of these causes
-- that the text has: each speaks of texts that have none of those before it.
use Rattle.std.specs.Prelude.{◌≡◌, ℕ, ◌==◌, ◌<◌, ◌≤◌, ◌^◌, Bool, not, List, [], ◌∷◌, length, map, is_some, nat_lt}
use Rattle.std.specs.Prelude.{Option, Some, None, option_map, option_and_then, slice_get, if◌then◌else◌}
use Rattle.std.specs.List.{find}
use Rattle.base_library.specs.Numbers.{numbers_from}
use Rattle.base_library.specs.Options.{all_there, passes}
use Rattle.tsl_text.specs.Division.{HasBadByte, HasOpenComment}
use Rattle.tsl_terms.specs.declared.names.NameKind.{NameKind}
use Rattle.tsl_terms.specs.declared.names.NameKind.TheVariants.{Predicate}
use Rattle.tsl_terms.specs.Name.{Name}
use Rattle.tsl_meaning.specs.Interpretation.{Interpretation}
use Rattle.table_interp.specs.declared.TheConstants.{MOST_VALUES, MOST_ENTRIES}
use Rattle.table_interp.specs.declared.TableError.{TableError}
use Rattle.table_interp.specs.declared.TableError.TheVariants.{
  Byte,
  OpenComment,
  Form,
  Domain,
  Unknown,
  Twice,
  Missing,
  Entries,
  Count,
  Range,
  NoMemory,
}
use Rattle.table_syntax.specs.Syntax.{Entry, TablesSyntax}
use Rattle.table_syntax.specs.Grammar.{IsTables}
use Rattle.table_syntax.specs.Forms.{IsRead, HasFormFault}
use Rattle.entry_names.specs.Needed.{is_symbol_number, needed, is_for}
use Rattle.entry_names.specs.Entries.{Subject, subject_of, AreWhole, HasUnknownEntry, HasSecondEntry, HasMissingEntry}

-- ---- what entries give

-- what the entries are for
abbrev pub subjects_of : TablesSyntax → List Subject
subjects_of given = map subject_of given.entries

-- the numbers that are given for a name
abbrev pub numbers_for : List Name → List Entry → ℕ → Option (List ℕ)
numbers_for names entries id = option_map (λ e. e.numbers) (find (λ e. is_for names id e.name) entries)

-- how many numbers a name needs: one for each list of arguments, and so one for a cell
abbrev pub size_of : List Name → ℕ → ℕ → Option ℕ
size_of names domain id = option_map (λ n. domain ^ n.arity) (slice_get names id)

abbrev pub has_many_entries : List Name → TablesSyntax → ℕ → Bool
has_many_entries names given id = passes (λ size. nat_lt MOST_ENTRIES size) (size_of names given.domain id)

abbrev pub has_other_length : List Name → TablesSyntax → ℕ → Bool
has_other_length names given id =
    passes (λ ns. passes (λ size. not (length ns == size)) (size_of names given.domain id)) (numbers_for names given.entries id)

-- the numbers that may be given for a name lie below this: truths are 0 and 1, and values lie below the domain
abbrev pub limit_of : ℕ → NameKind → ℕ
limit_of domain Predicate = 2
limit_of domain _ = domain

-- the first number of a name that is too large
abbrev pub too_large : List Name → TablesSyntax → ℕ → Option ℕ
too_large names given id =
    option_and_then (λ n. option_and_then (find (λ v. not (nat_lt v (limit_of given.domain n.kind)))) (numbers_for names given.entries id))
    (slice_get names id)

-- ---- how far a text gives an interpretation

module _ (names : List Name) (cells : List ℕ) (given : TablesSyntax) where
  -- Each entry is for a needed name, in its kind, and each needed name has one; and none needs too many numbers.
  pub record HasFewEntries : Type 0 where
    pub so_far : AreWhole names (needed names cells) (subjects_of given)
    pub few_entries : find (has_many_entries names given) (needed names cells) ≡ None

  -- and each has as many as it needs
  pub record IsCounted : Type 0 where
    pub so_far : HasFewEntries
    pub counted : find (has_other_length names given) (needed names cells) ≡ None

  -- and none is too large
  pub record IsInRange : Type 0 where
    pub so_far : IsCounted
    pub in_range : find (λ id. is_some (too_large names given id)) (needed names cells) ≡ None

-- the table of a function, or of a predicate other than equality; other names have an empty one
abbrev pub table_of : List Name → List Entry → ℕ → Option (List ℕ)
table_of names entries id = if is_symbol_number names id then numbers_for names entries id else Some []

-- The entries give the interpretation: the numbers for each function, and for each predicate other than equality, are its
-- table, and the number for each cell is its value at first.
pub record Gives (names : List Name) (cells : List ℕ) (given : TablesSyntax) (interpretation : Interpretation) : Type 0 where
  pub in_range : IsInRange names cells given
  pub domain : interpretation.domain ≡ given.domain
  pub tables : all_there (map (table_of names given.entries) (numbers_from 0 (length names))) ≡ Some interpretation.tables
  pub initial : all_there (map (numbers_for names given.entries) cells) ≡ Some (map (λ v. v ∷ []) interpretation.initial)

-- the text is of the form of tables, and does not have too many values
pub record HasFewValues (text : List ℕ) (given : TablesSyntax) : Type 0 where
  pub read : IsRead IsTables text given
  pub few_values : given.domain ≤ MOST_VALUES

-- the text spells the interpretation
pub record SpellsTables (text : List ℕ) (names : List Name) (cells : List ℕ) (interpretation : Interpretation) : Type 0 where
  pub given : TablesSyntax
  pub read : HasFewValues text given
  pub gives : Gives names cells given interpretation

-- the text spells no interpretation
abbrev pub SpellsNoTables : List ℕ → List Name → List ℕ → Type 0
SpellsNoTables text names cells = (interpretation : Interpretation) → SpellsTables text names cells interpretation → ⊥

-- ---- the causes of refusals

module _ (names : List Name) (cells : List ℕ) (given : TablesSyntax) where
  -- the first needed name that needs too many numbers
  pub record HasManyEntries (id : ℕ) : Type 0 where
    pub so_far : AreWhole names (needed names cells) (subjects_of given)
    pub first : find (has_many_entries names given) (needed names cells) ≡ Some id

  -- the first needed name that has not as many numbers as it needs
  pub record HasOtherLength (id : ℕ) : Type 0 where
    pub so_far : HasFewEntries names cells given
    pub first : find (has_other_length names given) (needed names cells) ≡ Some id

  -- the first needed name with a number that is too large, and the first such number
  pub record HasLargeNumber (id value : ℕ) : Type 0 where
    pub so_far : IsCounted names cells given
    pub first : find (λ i. is_some (too_large names given i)) (needed names cells) ≡ Some id
    pub number : too_large names given id ≡ Some value

-- what a refusal says of the entries
abbrev pub HasEntryCause : List Name → List ℕ → TablesSyntax → TableError → Type 0
HasEntryCause names cells given (Byte at) = ⊥
HasEntryCause names cells given (OpenComment at) = ⊥
HasEntryCause names cells given (Form at) = ⊥
HasEntryCause names cells given Domain = ⊥
HasEntryCause names cells given (Unknown start end) = HasUnknownEntry names (needed names cells) (subjects_of given) start end
HasEntryCause names cells given (Twice start end) = HasSecondEntry names (needed names cells) (subjects_of given) start end
HasEntryCause names cells given (Missing id) = HasMissingEntry names (needed names cells) (subjects_of given) id
HasEntryCause names cells given (Entries id) = HasManyEntries names cells given id
HasEntryCause names cells given (Count id) = HasOtherLength names cells given id
HasEntryCause names cells given (Range id value) = HasLargeNumber names cells given id value
HasEntryCause names cells given NoMemory = Unit {0}

-- the domain has too many values
pub record HasManyValues (text : List ℕ) : Type 0 where
  pub given : TablesSyntax
  pub read : IsRead IsTables text given
  pub many_values : MOST_VALUES < given.domain

-- the text is of the form of tables, does not have too many values, and its entries have this cause
pub record HasWrongEntries (text : List ℕ) (names : List Name) (cells : List ℕ) (error : TableError) : Type 0 where
  pub given : TablesSyntax
  pub read : HasFewValues text given
  pub cause : HasEntryCause names cells given error

-- what each refusal says of the text
abbrev pub HasTableCause : List ℕ → List Name → List ℕ → TableError → Type 0
HasTableCause text names cells (Byte at) = HasBadByte text at
HasTableCause text names cells (OpenComment at) = HasOpenComment text at
HasTableCause text names cells (Form at) = HasFormFault IsTables text at
HasTableCause text names cells Domain = HasManyValues text
HasTableCause text names cells NoMemory = Unit {0}
HasTableCause text names cells error = HasWrongEntries text names cells error

-- where the refusal does not say that memory ran out, the text spells no interpretation
abbrev pub IsRefusedAsTables : List ℕ → List Name → List ℕ → TableError → Type 0
IsRefusedAsTables text names cells NoMemory = Unit {0}
IsRefusedAsTables text names cells _ = SpellsNoTables text names cells
