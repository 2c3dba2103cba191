-- Internal: only private functions of this crate use these words.
-- Reading by the grammars, as functions that compute: each gives what is read at the front and the terminals after it, or
-- the first fault.
use Rattle.std.specs.Prelude.{ℕ, zero, suc, List, [], ◌∷◌, codes, Option, Some, None, option_map, option_and_then, Ok, if◌then◌else◌}
use Rattle.tsl_terms.specs.declared.names.NameKind.{NameKind}
use Rattle.tsl_terms.specs.declared.names.NameKind.TheVariants.{Signal, Function, Predicate}
use Rattle.reader_combinators.specs.Readers.{Answer, Reader, and_then, map_read, members, taking, at_end}
use Rattle.table_syntax.specs.declared.words.Operation.{Operation as WordOperation}
use Rattle.table_syntax.specs.declared.words.Operation.TheVariants.{Const}
use Rattle.table_syntax.specs.declared.words.Given.{Given}
use Rattle.table_syntax.specs.declared.words.Given.TheVariants.{Operation, Test, Value}
use Rattle.table_syntax.specs.Syntax.{TextToken, is_name_token, is_symbol, is_word, is_numeral, number_at, Entry, TablesSyntax, InputsSyntax}
use Rattle.table_syntax.specs.Syntax.{operation_at, test_at, WordEntry, WordsSyntax}

-- ---- what single terminals are

abbrev pub word_at : List ℕ → TextToken → Option (Unit {0})
word_at word x = if is_word word x then Some (tt {0}) else None

abbrev pub numeral_at : List ℕ → TextToken → Option (Unit {0})
numeral_at digits x = if is_numeral digits x then Some (tt {0}) else None

abbrev pub name_at : TextToken → Option TextToken
name_at x = if is_name_token x then Some x else None

abbrev pub symbol_at : TextToken → Option TextToken
symbol_at x = if is_symbol x then Some x else None

-- a number from 1 on
abbrev pub from_one : ℕ → Option ℕ
from_one zero = None
from_one (suc n) = Some (suc n)

abbrev pub positive_at : TextToken → Option ℕ
positive_at x = option_and_then from_one (number_at x)

-- what an entry is for, by its first word
abbrev pub kind_at : TextToken → Option NameKind
kind_at x =
    if is_word (codes "func") x then Some Function
    else (if is_word (codes "pred") x then Some Predicate
    else (if is_word (codes "cell") x then Some Signal
    else None))

-- ---- entries, and texts of them

-- what the entry at the front is for and the terminals after its first word, where one begins
abbrev pub first_kind : List TextToken → Option (NameKind × List TextToken)
first_kind [] = None
first_kind (x ∷ rest) = option_map (λ kind. (kind, rest)) (kind_at x)

-- the entry at the front, where one begins, read by what it is for
abbrev pub member_by : {E : Type 0} → (NameKind → Reader TextToken E) → List TextToken → Option (Answer TextToken E)
member_by read xs = option_map (λ f. read f.0 f.1) (first_kind xs)

-- a text with this first word: "1", another word, a number from 1 on, and entries, up to the end
abbrev pub headed_text : {E V : Type 0} → List ℕ → List ℕ → Reader TextToken (List E) → (ℕ → List E → V) → Reader TextToken V
headed_text head word entries made xs =
    and_then (taking (word_at head) xs) (λ _ ys.
    and_then (taking (numeral_at (codes "1")) ys) (λ _ zs.
    and_then (taking (word_at word) zs) (λ _ us.
    and_then (taking positive_at us) (λ n vs.
    and_then (entries vs) (λ es ws.
    map_read (λ _. made n es) (at_end ws))))))

-- ---- tables

abbrev pub number_or_none : Option ℕ → List TextToken → Option (Answer TextToken ℕ)
number_or_none None rest = None
number_or_none (Some n) rest = Some (Ok (n, rest))

-- the number at the front, where one is
abbrev pub number_member : List TextToken → Option (Answer TextToken ℕ)
number_member [] = None
number_member (x ∷ rest) = number_or_none (number_at x) rest

unfoldable pub numbers : Reader TextToken (List ℕ)
numbers = members number_member

abbrev pub entry_made : NameKind → TextToken → List ℕ → Entry
entry_made kind name numbers = record { kind = kind; name = name; numbers = numbers }

-- an entry after its first word
unfoldable pub entry_of_kind : NameKind → Reader TextToken Entry
entry_of_kind Signal xs =
    and_then (taking name_at xs) (λ name ys. map_read (λ n. entry_made Signal name (n ∷ [])) (taking number_at ys))
entry_of_kind kind xs = and_then (taking symbol_at xs) (λ name ys. map_read (entry_made kind name) (numbers ys))

-- the entry at the front, where one begins
abbrev pub entry_member : List TextToken → Option (Answer TextToken Entry)
entry_member = member_by entry_of_kind

unfoldable pub entries : Reader TextToken (List Entry)
entries = members entry_member

abbrev pub tables_made : ℕ → List Entry → TablesSyntax
tables_made domain entries = record { domain = domain; entries = entries }

-- a text of tables, up to the end
unfoldable pub tables_text : Reader TextToken TablesSyntax
tables_text = headed_text (codes "tsltables") (codes "domain") entries tables_made

-- ---- words

-- what stands for an operation: its word; or, for none, the word before a number
abbrev pub operation_word_at : TextToken → Option (Option WordOperation)
operation_word_at x = if is_word (codes "const") x then Some None else option_map (λ o. Some o) (operation_at x)

-- an operation after its first word
abbrev pub rest_of_operation : Option WordOperation → Reader TextToken WordOperation
rest_of_operation (Some o) xs = Ok (o, xs)
rest_of_operation None xs = map_read Const (taking number_at xs)

unfoldable pub operation : Reader TextToken WordOperation
operation xs = and_then (taking operation_word_at xs) rest_of_operation

abbrev pub word_entry_made : TextToken → Given → WordEntry
word_entry_made name given = record { name = name; given = given }

-- an entry after its first word
unfoldable pub word_entry_of_kind : NameKind → Reader TextToken WordEntry
word_entry_of_kind Function xs = and_then (taking name_at xs) (λ name ys. map_read (λ o. word_entry_made name (Operation o)) (operation ys))
word_entry_of_kind Predicate xs =
    and_then (taking symbol_at xs) (λ name ys. map_read (λ t. word_entry_made name (Test t)) (taking test_at ys))
word_entry_of_kind Signal xs =
    and_then (taking name_at xs) (λ name ys. map_read (λ n. word_entry_made name (Value n)) (taking number_at ys))

-- the entry at the front, where one begins
abbrev pub word_entry_member : List TextToken → Option (Answer TextToken WordEntry)
word_entry_member = member_by word_entry_of_kind

unfoldable pub word_entries : Reader TextToken (List WordEntry)
word_entries = members word_entry_member

abbrev pub words_made : ℕ → List WordEntry → WordsSyntax
words_made bits entries = record { bits = bits; entries = entries }

-- a text of words, up to the end
unfoldable pub words_text : Reader TextToken WordsSyntax
words_text = headed_text (codes "tslwords") (codes "bits") word_entries words_made

-- ---- inputs

-- what follows the name with these bytes, where it is at the front
abbrev pub after_word : List ℕ → List TextToken → Option (List TextToken)
after_word word [] = None
after_word word (x ∷ rest) = if is_word word x then Some rest else None

abbrev pub column_member : List TextToken → Option (Answer TextToken TextToken)
column_member xs = option_map (taking name_at) (after_word (codes "input") xs)

unfoldable pub columns : Reader TextToken (List TextToken)
columns = members column_member

abbrev pub row_member : List TextToken → Option (Answer TextToken (List ℕ))
row_member xs = option_map numbers (after_word (codes "row") xs)

unfoldable pub rows : Reader TextToken (List (List ℕ))
rows = members row_member

unfoldable pub row : Reader TextToken (List ℕ)
row xs = and_then (taking (word_at (codes "row")) xs) (λ _ ys. numbers ys)

-- a row and further rows
unfoldable pub some_rows : Reader TextToken (List (List ℕ))
some_rows xs = and_then (row xs) (λ first ys. map_read (λ rest. first ∷ rest) (rows ys))

abbrev pub inputs_made : List TextToken → List (List ℕ) → List (List ℕ) → InputsSyntax
inputs_made names stem cycle = record { names = names; stem = stem; cycle = cycle }

-- a text of inputs, up to the end
unfoldable pub inputs_text : Reader TextToken InputsSyntax
inputs_text xs =
    and_then (taking (word_at (codes "tslinputs")) xs) (λ _ ys.
    and_then (taking (numeral_at (codes "1")) ys) (λ _ zs.
    and_then (columns zs) (λ names us.
    and_then (taking (word_at (codes "stem")) us) (λ _ vs.
    and_then (rows vs) (λ stem ws.
    and_then (taking (word_at (codes "cycle")) ws) (λ _ ts.
    and_then (some_rows ts) (λ cycle ls.
    map_read (λ _. inputs_made names stem cycle) (at_end ls))))))))
