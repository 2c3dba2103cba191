-- Which interpretation a text of words spells, and the cause of each refusal. A refusal has the first of these causes
-- that the text has: each speaks of texts that have none of those before it.
use Rattle.std.specs.Prelude.{◌≡◌, ℕ, ◌==◌, ◌<◌, ◌≤◌, ◌^◌, Bool, not, List, length, map, is_some, nat_lt}
use Rattle.std.specs.Prelude.{Option, Some, None, option_map, option_and_then, slice_get, if◌then◌else◌}
use Rattle.std.specs.List.{find}
use Rattle.base_library.specs.Numbers.{numbers_from}
use Rattle.base_library.specs.Options.{passes}
use Rattle.tsl_text.specs.Division.{HasBadByte, HasOpenComment}
use Rattle.tsl_terms.specs.Name.{Name}
use Rattle.tsl_meaning.specs.Interpretation.{Interpretation}
use Rattle.table_syntax.specs.declared.words.Given.{Given}
use Rattle.table_syntax.specs.Syntax.{WordEntry, WordsSyntax}
use Rattle.table_syntax.specs.Grammar.{IsWords}
use Rattle.table_syntax.specs.Forms.{IsRead, HasFormFault}
use Rattle.entry_names.specs.Needed.{needed, is_for}
use Rattle.entry_names.specs.Entries.{Subject, word_subject_of, AreWhole, HasUnknownEntry, HasSecondEntry, HasMissingEntry}
use Rattle.word_interp.specs.declared.TheConstants.{MOST_BITS}
use Rattle.word_interp.specs.declared.WordError.{WordError}
use Rattle.word_interp.specs.declared.WordError.TheVariants.{
  Byte,
  OpenComment,
  Form,
  Width,
  Unknown,
  Twice,
  Missing,
  Arity,
  Range,
  NoMemory,
}
use Rattle.word_interp.specs.Operations.{arity_given, table_given, value_given, number_in}

-- ---- what entries give

-- how many words there are
abbrev pub domain_of : WordsSyntax → ℕ
domain_of given = 2 ^ given.bits

-- what the entries are for
abbrev pub subjects_of : WordsSyntax → List Subject
subjects_of given = map word_subject_of given.entries

-- what is given for a name
abbrev pub given_for : List Name → List WordEntry → ℕ → Option Given
given_for names entries id = option_map (λ e. e.given) (find (λ e. is_for names id e.name) entries)

-- whether what is given for a name takes another number of arguments than the name
abbrev pub takes_others : ℕ → List Name → ℕ → Option Given → Bool
takes_others domain names id given =
    passes (λ n. passes (λ g. not (arity_given domain g == n.arity)) given) (slice_get names id)

-- the number that is given, where it is no word
abbrev pub no_word : ℕ → Option Given → Option ℕ
no_word domain given = option_and_then (λ n. if nat_lt n domain then None else Some n) (option_and_then number_in given)

abbrev pub has_other_arity : List Name → WordsSyntax → ℕ → Bool
has_other_arity names given id = takes_others (domain_of given) names id (given_for names given.entries id)

abbrev pub too_large : List Name → WordsSyntax → ℕ → Option ℕ
too_large names given id = no_word (domain_of given) (given_for names given.entries id)

-- ---- how far a text gives an interpretation

module _ (names : List Name) (cells : List ℕ) (given : WordsSyntax) where
  -- each needed name has one entry, which takes as many arguments
  pub record AreFitting : Type 0 where
    pub so_far : AreWhole names (needed names cells) (subjects_of given)
    pub fitting : find (has_other_arity names given) (needed names cells) ≡ None

  -- and has no number but a word
  pub record AreInRange : Type 0 where
    pub so_far : AreFitting
    pub in_range : find (λ id. is_some (too_large names given id)) (needed names cells) ≡ None

-- The entries give the interpretation: each table has the values of the operation or the test that is given for its
-- name, and the number for each cell is its value at first.
pub record Gives (names : List Name) (cells : List ℕ) (given : WordsSyntax) (interpretation : Interpretation) : Type 0 where
  pub in_range : AreInRange names cells given
  pub domain : interpretation.domain ≡ domain_of given
  pub tables : interpretation.tables
      ≡ map (λ id. table_given (domain_of given) (given_for names given.entries id)) (numbers_from 0 (length names))
  pub initial : interpretation.initial ≡ map (λ s. value_given (domain_of given) (given_for names given.entries s)) cells

-- the text is of the form of words, and they do not have too many bits
pub record HasFewBits (text : List ℕ) (given : WordsSyntax) : Type 0 where
  pub read : IsRead IsWords text given
  pub few_bits : given.bits ≤ MOST_BITS

-- the text spells the interpretation
pub record SpellsWords (text : List ℕ) (names : List Name) (cells : List ℕ) (interpretation : Interpretation) : Type 0 where
  pub given : WordsSyntax
  pub read : HasFewBits text given
  pub gives : Gives names cells given interpretation

-- the text spells no interpretation
abbrev pub SpellsNoWords : List ℕ → List Name → List ℕ → Type 0
SpellsNoWords text names cells = (interpretation : Interpretation) → SpellsWords text names cells interpretation → ⊥

-- ---- the causes of refusals

module _ (names : List Name) (cells : List ℕ) (given : WordsSyntax) where
  -- the first needed name with an operation or a test of another number of arguments
  pub record HasOtherArity (id : ℕ) : Type 0 where
    pub so_far : AreWhole names (needed names cells) (subjects_of given)
    pub first : find (has_other_arity names given) (needed names cells) ≡ Some id

  -- the first needed name with a number that is no word, and that number
  pub record HasLargeNumber (id value : ℕ) : Type 0 where
    pub so_far : AreFitting names cells given
    pub first : find (λ i. is_some (too_large names given i)) (needed names cells) ≡ Some id
    pub number : too_large names given id ≡ Some value

-- what a refusal says of the entries
abbrev pub HasWordEntryCause : List Name → List ℕ → WordsSyntax → WordError → Type 0
HasWordEntryCause names cells given (Byte at) = ⊥
HasWordEntryCause names cells given (OpenComment at) = ⊥
HasWordEntryCause names cells given (Form at) = ⊥
HasWordEntryCause names cells given Width = ⊥
HasWordEntryCause names cells given (Unknown start end) = HasUnknownEntry names (needed names cells) (subjects_of given) start end
HasWordEntryCause names cells given (Twice start end) = HasSecondEntry names (needed names cells) (subjects_of given) start end
HasWordEntryCause names cells given (Missing id) = HasMissingEntry names (needed names cells) (subjects_of given) id
HasWordEntryCause names cells given (Arity id) = HasOtherArity names cells given id
HasWordEntryCause names cells given (Range id value) = HasLargeNumber names cells given id value
HasWordEntryCause names cells given NoMemory = Unit {0}

-- the words have too many bits
pub record HasManyBits (text : List ℕ) : Type 0 where
  pub given : WordsSyntax
  pub read : IsRead IsWords text given
  pub many_bits : MOST_BITS < given.bits

-- the text is of the form of words, they do not have too many bits, and its entries have this cause
pub record HasWrongWords (text : List ℕ) (names : List Name) (cells : List ℕ) (error : WordError) : Type 0 where
  pub given : WordsSyntax
  pub read : HasFewBits text given
  pub cause : HasWordEntryCause names cells given error

-- what each refusal says of the text
abbrev pub HasWordsCause : List ℕ → List Name → List ℕ → WordError → Type 0
HasWordsCause text names cells (Byte at) = HasBadByte text at
HasWordsCause text names cells (OpenComment at) = HasOpenComment text at
HasWordsCause text names cells (Form at) = HasFormFault IsWords text at
HasWordsCause text names cells Width = HasManyBits text
HasWordsCause text names cells NoMemory = Unit {0}
HasWordsCause text names cells error = HasWrongWords text names cells error

-- where the refusal does not say that memory ran out, the text spells no interpretation
abbrev pub IsRefusedAsWords : List ℕ → List Name → List ℕ → WordError → Type 0
IsRefusedAsWords text names cells NoMemory = Unit {0}
IsRefusedAsWords text names cells _ = SpellsNoWords text names cells
