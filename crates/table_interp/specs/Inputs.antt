-- Which rows of inputs a text spells, and the cause of each refusal. A refusal has the first of these causes that the
-- text has: each speaks of texts that have none of those before it.
use Rattle.std.specs.Prelude.{◌≡◌, ℕ, ◌==◌, ◌<◌, ◌≤◌, Bool, true, false, not, List, ◌++◌, length, map, nat_lt}
use Rattle.std.specs.Prelude.{Option, Some, None, slice_get, is_some}
use Rattle.std.specs.List.{find, list_any}
use Rattle.base_library.specs.Numbers.{is_among}
use Rattle.base_library.specs.Options.{all_there, passes}
use Rattle.tsl_text.specs.Division.{HasBadByte, HasOpenComment}
use Rattle.tsl_terms.specs.Name.{Name}
use Rattle.tsl_terms.specs.Value.{beside}
use Rattle.tsl_meaning.specs.Interpretation.{InputRows}
use Rattle.table_interp.specs.declared.TheConstants.{MOST_ROWS}
use Rattle.table_interp.specs.declared.InputError.{InputError}
use Rattle.table_interp.specs.declared.InputError.TheVariants.{
  Byte,
  OpenComment,
  Form,
  Unknown,
  Twice,
  Missing,
  Rows,
  Count,
  Range,
  NoMemory,
}
use Rattle.table_syntax.specs.Syntax.{TextToken, InputsSyntax}
use Rattle.table_syntax.specs.Grammar.{IsInputs}
use Rattle.table_syntax.specs.Forms.{IsRead, HasFormFault}
use Rattle.entry_names.specs.Needed.{number_for, is_for, IsFirstRepeat, HasNoRepeat}

-- ---- what columns and rows give

-- whether a column is for an input
abbrev pub is_input_name : List Name → List ℕ → TextToken → Bool
is_input_name names inputs x = passes (is_among inputs) (number_for names x)

abbrev pub has_no_column : List Name → InputsSyntax → ℕ → Bool
has_no_column names given id = not (list_any (is_for names id) given.names)

-- the rows of the stem, and then those of the cycle
abbrev pub all_rows : InputsSyntax → List (List ℕ)
all_rows given = given.stem ++ given.cycle

-- whether a row has not one number for each input
abbrev pub has_other_width : List ℕ → List ℕ → Bool
has_other_width inputs row = not (length row == length inputs)

-- whether a number is no value
abbrev pub is_no_value : ℕ → ℕ → Bool
is_no_value domain n = not (nat_lt n domain)

-- the first member that passes a test stands at this place
pub record IsFirstAt {A : Type 0} (test : A → Bool) (xs : List A) (at : ℕ) : Type 0 where
  pub member : A
  pub there : slice_get xs at ≡ Some member
  pub passed : test member ≡ true
  pub none_before : (i : ℕ) (x : A) → i < at → slice_get xs i ≡ Some x → test x ≡ false

-- ---- how far a text gives rows

module _ (names : List Name) (inputs : List ℕ) (given : InputsSyntax) where
  -- each column is for an input
  abbrev pub AreKnown : Type 0
  AreKnown = find (λ x. not (is_input_name names inputs x)) given.names ≡ None

  -- and no two for the same one
  pub record AreOnce : Type 0 where
    pub known : AreKnown
    pub once : HasNoRepeat (map (number_for names) given.names)

  -- and each input has a column
  pub record AreWhole : Type 0 where
    pub so_far : AreOnce
    pub whole : find (has_no_column names given) inputs ≡ None

  -- and there are not too many rows
  pub record HasFewRows : Type 0 where
    pub so_far : AreWhole
    pub few_rows : length (all_rows given) ≤ MOST_ROWS

  -- and each has a number for each input
  pub record AreCounted : Type 0 where
    pub so_far : HasFewRows
    pub counted : find (has_other_width inputs) (all_rows given) ≡ None

  -- and each number is a value
  pub record AreInRange (domain : ℕ) : Type 0 where
    pub so_far : AreCounted
    pub in_range : find (λ r. is_some (find (is_no_value domain) r)) (all_rows given) ≡ None

-- a row in the order of the inputs, where the columns are for the signals with these numbers
abbrev pub by_inputs : List ℕ → List ℕ → List ℕ → Option (List ℕ)
by_inputs columns inputs row = all_there (map (λ s. beside s columns row) inputs)

-- the columns and rows give these rows: those of the stem and of the cycle, each in the order of the inputs
pub record GivesRows (names : List Name) (inputs : List ℕ) (given : InputsSyntax) (domain : ℕ) (rows : InputRows ℕ) : Type 0 where
  pub in_range : AreInRange names inputs given domain
  pub columns : List ℕ
  pub columns_are : map (number_for names) given.names ≡ map (λ s. Some s) columns
  pub stem : all_there (map (by_inputs columns inputs) given.stem) ≡ Some rows.stem
  pub cycle : all_there (map (by_inputs columns inputs) given.cycle) ≡ Some rows.cycle

-- the text spells the rows
pub record SpellsInputs (text : List ℕ) (names : List Name) (inputs : List ℕ) (domain : ℕ) (rows : InputRows ℕ) : Type 0 where
  pub given : InputsSyntax
  pub read : IsRead IsInputs text given
  pub gives : GivesRows names inputs given domain rows

-- the text spells no rows
abbrev pub SpellsNoInputs : List ℕ → List Name → List ℕ → ℕ → Type 0
SpellsNoInputs text names inputs domain = (rows : InputRows ℕ) → SpellsInputs text names inputs domain rows → ⊥

-- ---- the causes of refusals

module _ (names : List Name) (inputs : List ℕ) (given : InputsSyntax) where
  -- the first column that is not for an input has its name between these offsets
  pub record HasUnknownColumn (start end : ℕ) : Type 0 where
    pub column : TextToken
    pub first : find (λ x. not (is_input_name names inputs x)) given.names ≡ Some column
    pub starts : start ≡ column.token.start
    pub ends : end ≡ column.token.end

  -- the first column for an input that has an earlier one has its name between these offsets
  pub record HasSecondColumn (start end : ℕ) : Type 0 where
    pub known : AreKnown names inputs given
    pub at : ℕ
    pub first : IsFirstRepeat (map (number_for names) given.names) at
    pub column : TextToken
    pub there : slice_get given.names at ≡ Some column
    pub starts : start ≡ column.token.start
    pub ends : end ≡ column.token.end

  -- the first input without a column
  pub record HasMissingColumn (id : ℕ) : Type 0 where
    pub so_far : AreOnce names inputs given
    pub first : find (has_no_column names given) inputs ≡ Some id

  -- there are too many rows
  pub record HasManyRows : Type 0 where
    pub so_far : AreWhole names inputs given
    pub many_rows : MOST_ROWS < length (all_rows given)

  -- the first row that has not one number for each input
  pub record HasOtherWidth (row : ℕ) : Type 0 where
    pub so_far : HasFewRows names inputs given
    pub first : IsFirstAt (has_other_width inputs) (all_rows given) row

  -- the first row with a number that is no value, and the first such number of it
  pub record HasNoValue (domain row value : ℕ) : Type 0 where
    pub so_far : AreCounted names inputs given
    pub first : IsFirstAt (λ r. is_some (find (is_no_value domain) r)) (all_rows given) row
    pub number : find (is_no_value domain) first.member ≡ Some value

-- what a refusal says of the columns and rows
abbrev pub HasRowCause : List Name → List ℕ → InputsSyntax → ℕ → InputError → Type 0
HasRowCause names inputs given domain (Byte at) = ⊥
HasRowCause names inputs given domain (OpenComment at) = ⊥
HasRowCause names inputs given domain (Form at) = ⊥
HasRowCause names inputs given domain (Unknown start end) = HasUnknownColumn names inputs given start end
HasRowCause names inputs given domain (Twice start end) = HasSecondColumn names inputs given start end
HasRowCause names inputs given domain (Missing id) = HasMissingColumn names inputs given id
HasRowCause names inputs given domain Rows = HasManyRows names inputs given
HasRowCause names inputs given domain (Count row) = HasOtherWidth names inputs given row
HasRowCause names inputs given domain (Range row value) = HasNoValue names inputs given domain row value
HasRowCause names inputs given domain NoMemory = Unit {0}

-- the text is of the form of inputs, and its columns and rows have this cause
pub record HasWrongRows (text : List ℕ) (names : List Name) (inputs : List ℕ) (domain : ℕ) (error : InputError) : Type 0 where
  pub given : InputsSyntax
  pub read : IsRead IsInputs text given
  pub cause : HasRowCause names inputs given domain error

-- what each refusal says of the text
abbrev pub HasInputCause : List ℕ → List Name → List ℕ → ℕ → InputError → Type 0
HasInputCause text names inputs domain (Byte at) = HasBadByte text at
HasInputCause text names inputs domain (OpenComment at) = HasOpenComment text at
HasInputCause text names inputs domain (Form at) = HasFormFault IsInputs text at
HasInputCause text names inputs domain NoMemory = Unit {0}
HasInputCause text names inputs domain error = HasWrongRows text names inputs domain error

-- where the refusal does not say that memory ran out, the text spells no rows
abbrev pub IsRefusedAsInputs : List ℕ → List Name → List ℕ → ℕ → InputError → Type 0
IsRefusedAsInputs text names inputs domain NoMemory = Unit {0}
IsRefusedAsInputs text names inputs domain _ = SpellsNoInputs text names inputs domain
