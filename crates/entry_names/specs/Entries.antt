-- Whether entries are for needed names, one for each, and the first cause why they are not. Each cause speaks of entries
-- that have none of those before it.
use Rattle.std.specs.Prelude.{◌≡◌, ℕ, Bool, not, ◌&&◌, List, length, map, Option, Some, None, slice_get}
use Rattle.std.specs.List.{find, list_any}
use Rattle.base_library.specs.Numbers.{is_among}
use Rattle.base_library.specs.Options.{passes}
use Rattle.tsl_terms.specs.declared.names.NameKind.{NameKind}
use Rattle.tsl_terms.specs.declared.names.NameKind.TheVariants.{Signal}
use Rattle.tsl_terms.specs.Name.{Name, same_kind}
use Rattle.table_syntax.specs.Syntax.{TextToken, Entry, WordEntry, kind_of}
use Rattle.entry_names.specs.declared.locating.EntryFault.{EntryFault}
use Rattle.entry_names.specs.declared.locating.EntryFault.TheVariants.{Unknown, Twice, Missing, NoMemory}
use Rattle.entry_names.specs.Needed.{number_for, is_for, IsFirstRepeat, HasNoRepeat}
use Rattle.entry_names.specs.Places.{ArePlaces}

-- What an entry is for: a name, in a kind; a signal is a cell.
pub record Subject : Type 0 where
  pub kind : NameKind
  pub name : TextToken

abbrev pub subject_of : Entry → Subject
subject_of e = record { kind = e.kind; name = e.name }

abbrev pub word_subject_of : WordEntry → Subject
word_subject_of e = record { kind = kind_of e.given; name = e.name }

-- the column of an input is for a cell
abbrev pub column_subject_of : TextToken → Subject
column_subject_of x = record { kind = Signal; name = x }

-- whether the name with this number has this kind, and is needed
abbrev pub is_needed_as : List Name → List ℕ → NameKind → ℕ → Bool
is_needed_as names needed kind id = passes (λ n. same_kind n.kind kind) (slice_get names id) && is_among needed id

-- whether an entry is for a needed name, in its kind
abbrev pub is_known : List Name → List ℕ → Subject → Bool
is_known names needed e = passes (is_needed_as names needed e.kind) (number_for names e.name)

-- the numbers of the names that entries are for
abbrev pub numbers_of : List Name → List Subject → List (Option ℕ)
numbers_of names entries = map (λ e. number_for names e.name) entries

abbrev pub has_no_entry : List Name → List Subject → ℕ → Bool
has_no_entry names entries id = not (list_any (λ e. is_for names id e.name) entries)

module _ (names : List Name) (needed : List ℕ) (entries : List Subject) where
  -- each entry is for a needed name, in its kind
  abbrev pub AreKnown : Type 0
  AreKnown = find (λ e. not (is_known names needed e)) entries ≡ None

  -- and no two for the same one
  pub record AreOnce : Type 0 where
    pub known : AreKnown
    pub once : HasNoRepeat (numbers_of names entries)

  -- and each needed name has an entry
  pub record AreWhole : Type 0 where
    pub so_far : AreOnce
    pub whole : find (has_no_entry names entries) needed ≡ None

  -- the first entry that is not for a needed name in its kind has its name between these offsets
  pub record HasUnknownEntry (start end : ℕ) : Type 0 where
    pub entry : Subject
    pub first : find (λ e. not (is_known names needed e)) entries ≡ Some entry
    pub starts : start ≡ entry.name.token.start
    pub ends : end ≡ entry.name.token.end

  -- the first entry for a name that has an earlier one has its name between these offsets
  pub record HasSecondEntry (start end : ℕ) : Type 0 where
    pub known : AreKnown
    pub at : ℕ
    pub first : IsFirstRepeat (numbers_of names entries) at
    pub entry : Subject
    pub there : slice_get entries at ≡ Some entry
    pub starts : start ≡ entry.name.token.start
    pub ends : end ≡ entry.name.token.end

  -- the first needed name without an entry
  pub record HasMissingEntry (id : ℕ) : Type 0 where
    pub so_far : AreOnce
    pub first : find (has_no_entry names entries) needed ≡ Some id

  -- what a fault says of the entries
  abbrev pub HasEntryFault : EntryFault → Type 0
  HasEntryFault (Unknown start end) = HasUnknownEntry start end
  HasEntryFault (Twice start end) = HasSecondEntry start end
  HasEntryFault (Missing id) = HasMissingEntry id
  HasEntryFault NoMemory = Unit {0}

-- each entry is for a name, no two for the same one, and these are the places of their names
pub record AreLocated (names : List Name) (entries : List Subject) (places : List (Option ℕ)) : Type 0 where
  pub numbers : List ℕ
  pub numbers_are : numbers_of names entries ≡ map (λ n. Some n) numbers
  pub once : HasNoRepeat numbers
  pub placed : ArePlaces (length names) numbers places
