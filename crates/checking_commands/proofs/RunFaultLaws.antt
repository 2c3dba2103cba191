-- Where the refusals of tables and of inputs stand, and which outcomes their faults are.
use Rattle.std.proofs.Common.{◌≡◌, ℕ, ◌<◌, ◌≤◌, true, List, ◌∷◌, ◌++◌, length}
use Rattle.std.proofs.Common.{arith, ⊎_elim, filter}
use Rattle.std.specs.List.{list_all, AllByRecursion}
use Rattle.base_library.specs.Numbers.{numbers_from}
use Rattle.base_library.proofs.Each.{each_at, each_joined, each_left, each_right, each_filtered, each_map, each_weaker}
use Rattle.base_library.proofs.Passes.{each_from_list_all, within_from_test}
use Rattle.base_library.proofs.Finds.{found_has}
use Rattle.base_library.proofs.Numbers.{numbers_below}
use Rattle.tsl_text.specs.declared.Token.{Token}
use Rattle.tsl_text.specs.Division.{AreTokens, IsTokenOf}
use Rattle.tsl_terms.specs.declared.names.NameKind.TheVariants.{Signal}
use Rattle.tsl_terms.specs.Name.{Name, is_name}
use Rattle.table_interp.specs.declared.TableError.{TableError}
use Rattle.table_interp.specs.declared.TableError.TheVariants.{Byte as TableByte, OpenComment as TableComment, Form as TableForm, Domain}
use Rattle.table_interp.specs.declared.TableError.TheVariants.{Unknown as UnknownEntry, Twice as SecondEntry, Missing as MissingEntry}
use Rattle.table_interp.specs.declared.TableError.TheVariants.{Entries, Count as EntryCount, Range as EntryRange, NoMemory as NoTableMemory}
use Rattle.table_interp.specs.declared.InputError.{InputError}
use Rattle.table_interp.specs.declared.InputError.TheVariants.{Byte as InputByte, OpenComment as InputComment, Form as InputForm}
use Rattle.table_interp.specs.declared.InputError.TheVariants.{Unknown as UnknownInput, Twice as SecondInput, Missing as MissingInput}
use Rattle.table_interp.specs.declared.InputError.TheVariants.{Rows, Count as RowWidth, Range as RowValue, NoMemory as NoInputMemory}
use Rattle.table_syntax.specs.Syntax.{TextToken, text_token_at, text_tokens, Entry, TablesSyntax, InputsSyntax}
use Rattle.table_syntax.specs.Grammar.{IsEntry, function, predicate, cell, AreEntries, no_entry, more_entries, IsTables, tables}
use Rattle.table_syntax.specs.Grammar.{AreColumns, no_column, more_columns, IsInputs, inputs}
use Rattle.table_syntax.specs.Forms.{IsRead, HasFormFault}
use Rattle.entry_names.specs.Needed.{is_symbol_number, needed}
use Rattle.entry_names.specs.Entries.{Subject, subject_of, HasUnknownEntry, HasSecondEntry}
use Rattle.table_interp.specs.Tables.{HasTableCause, subjects_of}
use Rattle.table_interp.specs.Inputs.{HasInputCause}
use Rattle.checking_commands.specs.internal.RunFaultPlaces.{TableStandsIn, InputStandsIn}
use Rattle.command_faults.proofs.RefusalLaws.{each_of, token_stands}

pub form_stands : {V : Type 0} (Is : List TextToken → V → Type 0) (text : List ℕ) (at : ℕ) → HasFormFault Is text at → at ≤ length text
form_stands Is text at h = ⊎_elim
    (λ wrong. token_stands text wrong.before wrong.token wrong.after at wrong.tokens_are wrong.place) (λ ends. omega (arith, ends.place)) h

-- ---- tokens

-- the token lies in the text
abbrev pub LiesIn : List ℕ → TextToken → Type 0
LiesIn text x = (x.token.start ≤ x.token.end) × (x.token.end ≤ length text)

pub each_lies : (text : List ℕ) (tokens : List Token) → AreTokens text tokens → AllByRecursion (LiesIn text) (text_tokens text tokens)
each_lies text tokens are =
    each_map (LiesIn text) (text_token_at text) tokens
    (each_weaker (IsTokenOf text) (λ t. LiesIn text (text_token_at text t)) (λ t token. (omega (arith, token.not_empty), token.inside)) tokens
    (each_of text tokens are))

-- ---- entries and columns

module _ (P : TextToken → Type 0) where
  entry_name : (xs : List TextToken) (e : Entry) → IsEntry xs e → AllByRecursion P xs → P e.name
  entry_name _ _ (function x y word symbol numbers) each = each.1.0
  entry_name _ _ (predicate x y word symbol numbers) each = each.1.0
  entry_name _ _ (cell x y z n word name number) each = each.1.0

  entry_names : (xs : List TextToken) (es : List Entry) → AreEntries xs es → AllByRecursion P xs → AllByRecursion (λ e. P e.name) es
  entry_names _ _ no_entry each = tt
  entry_names _ _ (more_entries {xs} {ys} {e} {es} first rest) each =
      (entry_name xs e first (each_left P xs ys each), entry_names ys es rest (each_right P xs ys each))

  table_names : (xs : List TextToken) (given : TablesSyntax) → IsTables xs given → AllByRecursion P xs →
      AllByRecursion (λ e. P e.name) given.entries
  table_names _ _ (tables {xs} {es} a b c d n is_a is_b is_c is_d some entries) each = entry_names xs es entries each.1.1.1.1

  column_names : (xs names : List TextToken) → AreColumns xs names → AllByRecursion P xs → AllByRecursion P names
  column_names _ _ no_column each = tt
  column_names _ _ (more_columns {xs} {ns} x y word name rest) each = (each.1.0, column_names xs ns rest each.1.1)

  input_names : (xs : List TextToken) (given : InputsSyntax) → IsInputs xs given → AllByRecursion P xs → AllByRecursion P given.names
  input_names _ _ (inputs {xs} {ys} {zs} {ns} a b s c is_a is_b columns is_s stem is_c cycle) each =
      column_names xs ns columns (each_left P xs (s ∷ (ys ++ c ∷ zs)) each.1.1)

entries_lie : (text : List ℕ) (given : TablesSyntax) → IsRead IsTables text given →
    AllByRecursion (λ e. LiesIn text e.name) (subjects_of given)
entries_lie text given read =
    each_map (λ e. LiesIn text e.name) subject_of given.entries
    (table_names (LiesIn text) (text_tokens text read.tokens) given read.derived (each_lies text read.tokens read.tokens_are))

columns_lie : (text : List ℕ) (given : InputsSyntax) → IsRead IsInputs text given → AllByRecursion (LiesIn text) given.names
columns_lie text given read =
    input_names (LiesIn text) (text_tokens text read.tokens) given read.derived (each_lies text read.tokens read.tokens_are)

between : (text : List ℕ) (x : TextToken) (start end : ℕ) → LiesIn text x → start ≡ x.token.start → end ≡ x.token.end →
    (start ≤ end) × (end ≤ length text)
between text x start end lies starts ends = (omega (arith, lies.0, starts, ends), omega (arith, lies.1, ends))

-- ---- what entries are for

module _ (text : List ℕ) (names : List Name) (numbers : List ℕ) (entries : List Subject)
    (lie : AllByRecursion (λ e. LiesIn text e.name) entries) where
  pub unknown_stands : (start end : ℕ) → HasUnknownEntry names numbers entries start end → (start ≤ end) × (end ≤ length text)
  unknown_stands start end h =
      between text h.entry.name start end (found_has _ (λ e. LiesIn text e.name) entries h.entry lie h.first) h.starts h.ends

  pub second_stands : (start end : ℕ) → HasSecondEntry names numbers entries start end → (start ≤ end) × (end ≤ length text)
  second_stands start end h =
      between text h.entry.name start end (each_at (λ e. LiesIn text e.name) entries h.at h.entry lie h.there) h.starts h.ends

-- ---- numbers of names

signals_below : (names : List Name) (signals : List ℕ) → list_all (λ s. is_name names s Signal 0) signals ≡ true →
    AllByRecursion (λ s. s < length names) signals
signals_below names signals h =
    each_weaker (λ s. is_name names s Signal 0 ≡ true) (λ s. s < length names) (λ s k. within_from_test names s _ k) signals
    (each_from_list_all (λ s. is_name names s Signal 0) signals h)

pub needed_below : (names : List Name) (cells : List ℕ) → list_all (λ s. is_name names s Signal 0) cells ≡ true →
    AllByRecursion (λ id. id < length names) (needed names cells)
needed_below names cells h =
    each_joined (λ id. id < length names) (filter (is_symbol_number names) (numbers_from 0 (length names))) cells
    (each_filtered (λ id. id < length names) (is_symbol_number names) (numbers_from 0 (length names))
    (numbers_below 0 (length names) (length names) (omega arith)))
    (signals_below names cells h)

-- ---- refusals

pub table_cause_stands : (text : List ℕ) (names : List Name) (cells : List ℕ) (error : TableError) →
    list_all (λ s. is_name names s Signal 0) cells ≡ true → HasTableCause text names cells error → TableStandsIn text names error
table_cause_stands text names cells (TableByte at) named h = omega (arith, h.place)
table_cause_stands text names cells (TableComment at) named h = omega (arith, h.place)
table_cause_stands text names cells (TableForm at) named h = form_stands IsTables text at h
table_cause_stands text names cells Domain named h = tt
table_cause_stands text names cells (UnknownEntry start end) named h =
    unknown_stands text names (needed names cells) (subjects_of h.given) (entries_lie text h.given h.read.read) start end h.cause
table_cause_stands text names cells (SecondEntry start end) named h =
    second_stands text names (needed names cells) (subjects_of h.given) (entries_lie text h.given h.read.read) start end h.cause
table_cause_stands text names cells (MissingEntry id) named h =
    found_has _ (λ i. i < length names) (needed names cells) id (needed_below names cells named) h.cause.first
table_cause_stands text names cells (Entries id) named h = tt
table_cause_stands text names cells (EntryCount id) named h =
    found_has _ (λ i. i < length names) (needed names cells) id (needed_below names cells named) h.cause.first
table_cause_stands text names cells (EntryRange id value) named h =
    found_has _ (λ i. i < length names) (needed names cells) id (needed_below names cells named) h.cause.first
table_cause_stands text names cells NoTableMemory named h = tt

pub input_cause_stands : (text : List ℕ) (names : List Name) (signals : List ℕ) (domain : ℕ) (error : InputError) →
    list_all (λ s. is_name names s Signal 0) signals ≡ true → HasInputCause text names signals domain error → InputStandsIn text names error
input_cause_stands text names signals domain (InputByte at) named h = omega (arith, h.place)
input_cause_stands text names signals domain (InputComment at) named h = omega (arith, h.place)
input_cause_stands text names signals domain (InputForm at) named h = form_stands IsInputs text at h
input_cause_stands text names signals domain (UnknownInput start end) named h =
    between text h.cause.column start end
    (found_has _ (LiesIn text) h.given.names h.cause.column (columns_lie text h.given h.read) h.cause.first)
    h.cause.starts h.cause.ends
input_cause_stands text names signals domain (SecondInput start end) named h =
    between text h.cause.column start end
    (each_at (LiesIn text) h.given.names h.cause.at h.cause.column (columns_lie text h.given h.read) h.cause.there)
    h.cause.starts h.cause.ends
input_cause_stands text names signals domain (MissingInput id) named h =
    found_has _ (λ i. i < length names) signals id (signals_below names signals named) h.cause.first
input_cause_stands text names signals domain Rows named h = tt
input_cause_stands text names signals domain (RowWidth row) named h = tt
input_cause_stands text names signals domain (RowValue row value) named h = tt
input_cause_stands text names signals domain NoInputMemory named h = tt
