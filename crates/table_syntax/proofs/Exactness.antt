-- The reading functions read exactly the grammars of tables and of inputs.
use Rattle.std.proofs.Common.{◌≡◌, ℕ, suc, true, false, List, [], ◌∷◌, ◌++◌, refl, ap, sym, ◌∙◌}
use Rattle.std.proofs.lemmas.List.{append-nil}
use Rattle.std.specs.Prelude.{Option, Some, None, option_map, is_some, codes, if◌then◌else◌}
use Rattle.tsl_terms.specs.declared.names.NameKind.{NameKind}
use Rattle.tsl_terms.specs.declared.names.NameKind.TheVariants.{Signal, Function, Predicate}
use Rattle.reader_combinators.specs.Readers.{value_or_wrong, taking, and_then, after, push}
use Rattle.reader_combinators.specs.Exact.{Grammar, Before, Exact}
use Rattle.reader_combinators.proofs.Runs.{exact_as}
use Rattle.reader_combinators.proofs.Then.{Any}
use Rattle.reader_combinators.proofs.Terminals.{turn_of, IsAfter}
use Rattle.reader_combinators.proofs.Taken.{IsOne, taken_begins, taken_exact, IsEnd, Never}
use Rattle.reader_combinators.proofs.Sequels.{IsMapped, Then, nothing_follows, after_one}
use Rattle.reader_combinators.proofs.Iterates.{Shrinks, step_shrinks}
use Rattle.reader_combinators.proofs.Lists.{AreAll, none, some, Member, stepping, marked_member}
use Rattle.table_syntax.specs.Syntax.{TextToken, is_word, number_at, Entry, TablesSyntax, InputsSyntax}
use Rattle.table_syntax.specs.Grammar.{
  AreNumbers,
  no_number,
  more_numbers,
  IsEntry,
  function,
  predicate,
  cell,
  AreEntries,
  no_entry,
  more_entries,
  IsTables,
  tables,
  AreColumns,
  no_column,
  more_columns,
  AreRows,
  no_row,
  more_rows,
  IsInputs,
  inputs,
}
use Rattle.table_syntax.specs.internal.Reading.{
  word_at,
  name_at,
  symbol_at,
  kind_at,
  number_or_none,
  number_member,
  numbers,
  entry_made,
  entry_of_kind,
  entry_member,
  entries,
  tables_made,
  tables_text,
  numeral_at,
  after_word,
  column_member,
  columns,
  row_member,
  rows,
  row,
  some_rows,
  inputs_made,
  inputs_text,
}
use Rattle.table_syntax.proofs.Terminals.{word_is, word_taken, numeral_is, numeral_taken, name_is, name_taken, symbol_is, symbol_taken}
use Rattle.table_syntax.proofs.Terminals.{words_differ, word_is_name, name_no_number, word_of_kind, kind_is, kind_taken, name_example}
use Rattle.table_syntax.proofs.Terminals.{has_number, has_name, has_symbol, has_word, has_one}
use Rattle.table_syntax.proofs.Entries.{then_of, one_then, elsewhere, Form, one_terminal, mapped_form, then_form, before_form, other_form, listed_form}
use Rattle.table_syntax.proofs.Entries.{IsByKind, by_kind, IsHeaded, built, of_parts, at_the_end, headed_exact}

-- ---- numbers

abbrev pub IsNumber : List TextToken → ℕ → Type 0
IsNumber xs n = (x : TextToken) × (xs ≡ x ∷ []) × (number_at x ≡ Some n)

-- a terminal that is no number
abbrev pub NoNumber : TextToken → Type 0
NoNumber x = number_at x ≡ None

pub number_exact : (levels_left : ℕ) → Exact (λ r. IsNumber) Any levels_left (taking number_at)
number_exact levels_left = taken_exact number_at has_number levels_left

number_members : (levels_left : ℕ) →
    Member (λ r. IsNumber) Any NoNumber levels_left number_member (λ x. is_some (number_at x)) (taking number_at)
unfolding taking
number_members levels_left = record {
  at_end = refl;
  none = λ x rest e. none_here (number_at x) rest e;
  some = λ x rest e. some_here (number_at x) x rest e;
  begins = begins;
  lift = λ r xs n h. h;
  follows = λ x e. tt;
  stops = λ x e. ap is_some e;
  weaker = λ x e. tt;
  turn = λ x e. turn_of (number_exact levels_left) x;
} where
  none_here : (o : Option ℕ) (rest : List TextToken) → is_some o ≡ false → number_or_none o rest ≡ None
  none_here None rest e = refl
  none_here (Some n) rest e = cc

  some_here : (o : Option ℕ) (x : TextToken) (rest : List TextToken) → is_some o ≡ true →
      number_or_none o rest ≡ Some (value_or_wrong o x rest)
  some_here None x rest e = cc
  some_here (Some n) x rest e = refl

  begins : (r : ℕ) (xs : List TextToken) (n : ℕ) → IsNumber xs n →
      (x : TextToken) × (ys : List TextToken) × (xs ≡ x ∷ ys) × (is_some (number_at x) ≡ true)
  begins r xs n h = (h.0, [], h.1, ap is_some h.2)

all_numbers : (r : ℕ) (xs : List TextToken) (ns : List ℕ) → AreNumbers xs ns → AreAll (λ r. IsNumber) r xs ns
all_numbers r xs ns no_number = none
all_numbers r xs ns (more_numbers {xs = ys} {ns = ms} x n e h) = some {f = x ∷ []} (x, refl, e) (all_numbers r ys ms h)

numbers_form : (levels_left : ℕ) → Form (λ r. AreNumbers) NoNumber levels_left numbers
unfolding numbers
numbers_form levels_left =
    listed_form no_number (λ r f g n ns h rest. rw h.1 (more_numbers h.0 n h.2 rest)) all_numbers (number_members levels_left)

pub numbers_shrink : Shrinks (push number_member)
numbers_shrink = step_shrinks (stepping (number_members 0))

-- ---- entries

-- an entry after its first word
abbrev IsForm : NameKind → Grammar TextToken Entry
IsForm Signal = Then (IsOne name_at) (λ name. IsMapped (λ n. entry_made Signal name (n ∷ [])) (λ r. IsNumber))
IsForm kind = Then (IsOne symbol_at) (λ name. IsMapped (entry_made kind name) (λ r. AreNumbers))

pub number_form : (levels_left : ℕ) → Form (λ r. IsNumber) Any levels_left (taking number_at)
number_form levels_left = one_terminal number_at levels_left has_number

form : (kind : NameKind) (levels_left : ℕ) → Form (IsForm kind) NoNumber levels_left (entry_of_kind kind)
unfolding entry_of_kind
form Signal levels_left =
    then_form (one_terminal name_at levels_left has_name)
    (λ name. other_form (λ r xs v h. h) (λ r xs v h. h) (λ x e. tt)
    (mapped_form (λ n. entry_made Signal name (n ∷ [])) (number_form levels_left)))
form kind levels_left =
    then_form (one_terminal symbol_at levels_left has_symbol) (λ name. mapped_form (entry_made kind name) (numbers_form levels_left))

lift_form : (kind : NameKind) (r : ℕ) (xs : List TextToken) (e : Entry) → IsForm kind r xs e → IsForm kind (suc (suc r)) xs e
lift_form Signal r xs e h = elsewhere (λ v ys k. k) h
lift_form kind r xs e h = elsewhere (λ v ys k. k) h

entry_members : (levels_left : ℕ) → Member (IsByKind IsForm) NoNumber Never levels_left entry_member (λ x. is_some (kind_at x))
    (λ xs. and_then (taking kind_at xs) entry_of_kind)
entry_members = by_kind entry_of_kind IsForm form lift_form name_no_number

-- what an entry is, by its parts

entry_is : (r : ℕ) (xs : List TextToken) (e : Entry) → IsByKind IsForm r xs e → IsEntry xs e
entry_is r xs e h = by h.value (kind_is h.first.0 h.value h.first.2) h.second where
  by : (kind : NameKind) → is_word (word_of_kind kind) h.first.0 ≡ true → IsForm kind r h.tail e → IsEntry xs e
  by Signal word k =
      let name = name_is k.first.0 k.value k.first.2 in
      let value = k.second.1 in
      rw (after_one h, after_one k, value.1, k.second.2, name.1) (cell h.first.0 k.first.0 value.0 k.second.0 word name.0 value.2)
  by Function word k =
      let name = symbol_is k.first.0 k.value k.first.2 in
      rw (after_one h, after_one k, k.second.2, name.1) (function h.first.0 k.first.0 word name.0 k.second.1)
  by Predicate word k =
      let name = symbol_is k.first.0 k.value k.first.2 in
      rw (after_one h, after_one k, k.second.2, name.1) (predicate h.first.0 k.first.0 word name.0 k.second.1)

is_entry : (r : ℕ) (xs : List TextToken) (e : Entry) → IsEntry xs e → IsByKind IsForm r xs e
is_entry r xs e (function {ns = ns} x y word name h) =
    one_then x (kind_taken x Function word) (one_then y (symbol_taken y name) (ns, h, refl))
is_entry r xs e (predicate {ns = ns} x y word name h) =
    one_then x (kind_taken x Predicate word) (one_then y (symbol_taken y name) (ns, h, refl))
is_entry r xs e (cell x y z n word name number) =
    one_then x (kind_taken x Signal word) (one_then y (name_taken y name) (n, (z, refl, number), refl))

all_entries : (r : ℕ) (xs : List TextToken) (es : List Entry) → AreEntries xs es → AreAll (IsByKind IsForm) r xs es
all_entries r xs es no_entry = none
all_entries r xs es (more_entries {xs = ys} {ys = zs} {e = e} {es = ds} h rest) = some (is_entry r ys e h) (all_entries r zs ds rest)

entries_form : (levels_left : ℕ) → Form (λ r. AreEntries) Never levels_left entries
unfolding entries
entries_form levels_left =
    listed_form no_entry (λ r f g e es h rest. more_entries (entry_is r f e h) rest) all_entries (entry_members levels_left)

pub entries_shrink : Shrinks (push entry_member)
entries_shrink = step_shrinks (stepping (entry_members 0))

-- ---- columns and rows

-- a terminal that is not this name
abbrev pub NoWord : List ℕ → TextToken → Type 0
NoWord w x = is_word w x ≡ false

after_none : (w : List ℕ) (x : TextToken) (rest : List TextToken) → is_word w x ≡ false → after_word w (x ∷ rest) ≡ None
after_none w x rest e = ap (λ b. if b then Some rest else None) e

after_some : (w : List ℕ) (x : TextToken) (rest : List TextToken) → is_word w x ≡ true → after_word w (x ∷ rest) ≡ Some rest
after_some w x rest e = ap (λ b. if b then Some rest else None) e

column_members : (levels_left : ℕ) → Member (IsAfter (is_word (codes "input")) (λ r. IsOne name_at)) Any
    (NoWord (codes "input")) levels_left column_member
    (is_word (codes "input")) (after (is_word (codes "input")) (taking name_at))
column_members levels_left =
    marked_member (is_word (codes "input")) (name_example (codes "input")) refl (taken_begins name_at has_name 0) (λ r xs v h. h) refl
    (λ x rest e. ap (option_map (taking name_at)) (after_none (codes "input") x rest e))
    (λ x rest e. ap (option_map (taking name_at)) (after_some (codes "input") x rest e)) (λ x e. tt) (λ x e. e) (λ x e. tt)
    (taken_exact name_at has_name levels_left)

more_of_columns : (r : ℕ) (f g : List TextToken) (n : TextToken) (ns : List TextToken) →
    IsAfter (is_word (codes "input")) (λ r. IsOne name_at) r f n → AreColumns g ns → AreColumns (f ++ g) (n ∷ ns)
more_of_columns r [] g n ns h rest = absurd h
more_of_columns r (x ∷ ys) g n ns h rest =
    let name = name_is h.1.0 n h.1.2 in
    let split : ys ≡ n ∷ [] = h.1.1 ∙ ap (λ y. y ∷ []) (sym name.1) in
    rw split (more_columns x n h.0 (rw name.1 name.0) rest)

all_columns : (r : ℕ) (xs ns : List TextToken) → AreColumns xs ns → AreAll (IsAfter (is_word (codes "input")) (λ r. IsOne name_at)) r xs ns
all_columns r xs ns no_column = none
all_columns r xs ns (more_columns {xs = ys} {ns = ms} x y word name h) =
    some {f = x ∷ y ∷ []} (word, (y, refl, name_taken y name)) (all_columns r ys ms h)

columns_form : (levels_left : ℕ) → Form (λ r. AreColumns) (NoWord (codes "input")) levels_left columns
unfolding columns
columns_form levels_left = listed_form no_column more_of_columns all_columns (column_members levels_left)

pub columns_shrink : Shrinks (push column_member)
columns_shrink = step_shrinks (stepping (column_members 0))

-- what follows rows: neither a row nor a number
abbrev pub NoRow : TextToken → Type 0
NoRow x = NoWord (codes "row") x × NoNumber x

row_members : (levels_left : ℕ) → Member (IsAfter (is_word (codes "row")) (λ r. AreNumbers)) NoNumber NoRow levels_left row_member
    (is_word (codes "row")) (after (is_word (codes "row")) numbers)
row_members levels_left =
    marked_member (is_word (codes "row")) (name_example (codes "row")) refl ((numbers_form 0).begins 0) (λ r xs v h. h) refl
    (λ x rest e. ap (option_map numbers) (after_none (codes "row") x rest e))
    (λ x rest e. ap (option_map numbers) (after_some (codes "row") x rest e)) (λ x e. name_no_number x (word_is_name (codes "row") x e))
    (λ x e. e.0) (λ x e. e.1) (numbers_form levels_left).exact

more_of_rows : (r : ℕ) (f g : List TextToken) (n : List ℕ) (ns : List (List ℕ)) → IsAfter (is_word (codes "row")) (λ r. AreNumbers) r f n →
    AreRows g ns → AreRows (f ++ g) (n ∷ ns)
more_of_rows r [] g n ns h rest = absurd h
more_of_rows r (x ∷ ys) g n ns h rest = more_rows x h.0 h.1 rest

all_rows : (r : ℕ) (xs : List TextToken) (ns : List (List ℕ)) → AreRows xs ns →
    AreAll (IsAfter (is_word (codes "row")) (λ r. AreNumbers)) r xs ns
all_rows r xs ns no_row = none
all_rows r xs ns (more_rows {xs = ys} {ys = zs} {ns = n} {rows = ms} x word h rest) = some {f = x ∷ ys} (word, h) (all_rows r zs ms rest)

rows_form : (levels_left : ℕ) → Form (λ r. AreRows) NoRow levels_left rows
unfolding rows
rows_form levels_left = listed_form no_row more_of_rows all_rows (row_members levels_left)

pub rows_shrink : Shrinks (push row_member)
rows_shrink = step_shrinks (stepping (row_members 0))

abbrev IsRow : Grammar TextToken (List ℕ)
IsRow = Then (IsOne (word_at (codes "row"))) (λ _ r. AreNumbers)

row_form : (levels_left : ℕ) → Form IsRow NoNumber levels_left row
unfolding row
row_form levels_left =
    then_form (one_terminal (word_at (codes "row")) levels_left (has_word (codes "row") refl)) (λ v. numbers_form levels_left)

-- a row and further rows
abbrev AreSome : List TextToken → List (List ℕ) → Type 0
AreSome = Then (IsRow 0) (λ first. IsMapped (λ rest. first ∷ rest) (λ r. AreRows)) 0

some_rows_form : (levels_left : ℕ) → Form (λ r. AreSome) Never levels_left some_rows
unfolding some_rows
some_rows_form levels_left =
    other_form (λ r xs ns h. elsewhere (λ v ys k. k) h) (λ r xs ns h. elsewhere (λ v ys k. k) h) (λ x e. absurd e)
    (before_form follow
    (other_form (λ r xs ns h. elsewhere (λ v ys k. k) h) (λ r xs ns h. elsewhere (λ v ys k. k) h) (λ x e. e) (row_form levels_left))
    (λ first. mapped_form (λ rest. first ∷ rest) (rows_form levels_left)))
  where
    before : (xs rest : List TextToken) (ns : List (List ℕ)) → AreRows xs ns → Before NoRow rest → Before NoNumber (xs ++ rest)
    before xs [] ns no_row b = tt
    before xs (x ∷ rest) ns no_row b = b.1
    before xs rest ns (more_rows x word h more) b = name_no_number x (word_is_name (codes "row") x word)

    follow : (r : ℕ) (first : List ℕ) (xs : List TextToken) (ns : List (List ℕ)) →
        IsMapped (λ rest. first ∷ rest) (λ r. AreRows) r xs ns → (rest : List TextToken) → Before NoRow rest →
        Before NoNumber (xs ++ rest)
    follow r first xs ns h rest b = before xs rest h.0 h.1 b

row_rows : (xs : List TextToken) (first : List ℕ) (rest : List (List ℕ)) → AreRows xs (first ∷ rest) → AreSome xs (first ∷ rest)
row_rows xs first rest (more_rows {xs = ys} x word h more) =
    then_of (x ∷ ys) _ _ (one_then x (word_taken (codes "row") x word) h) (rest, more, refl)

rows_row : (xs : List TextToken) (ns : List (List ℕ)) → AreSome xs ns →
    (first : List ℕ) × (rest : List (List ℕ)) × (ns ≡ first ∷ rest) × AreRows xs (first ∷ rest)
rows_row xs ns h =
    let front : h.front ≡ h.first.first.0 ∷ h.first.tail = h.first.split ∙ ap (λ f. f ++ h.first.tail) h.first.first.1 in (
      h.value,
      h.second.0,
      h.second.2,
      rw (h.split, front) (more_rows h.first.first.0 (word_is (codes "row") h.first.first.0 h.first.first.2) h.first.second h.second.1),
    )

-- ---- whole texts

abbrev IsTablesText : Grammar TextToken TablesSyntax
IsTablesText = IsHeaded (codes "tsltables") (codes "domain") AreEntries tables_made

tables_are : (r : ℕ) (xs : List TextToken) (t : TablesSyntax) → IsTables xs t → IsTablesText r xs t
tables_are r xs t (tables a b c d n head one word number few entries) = of_parts _ r a b c d n head one word number few entries

pub tables_exact : (levels_left : ℕ) → Exact (λ r. IsTables) Never levels_left tables_text
unfolding tables_text
tables_exact levels_left =
    exact_as (built IsTables (λ xs es a b c d n head one word number few entries. tables a b c d n head one word number few entries))
    tables_are (λ x e. e)
    (headed_exact (has_word (codes "tsltables") refl) (has_word (codes "domain") refl) entries_form tables_made levels_left)

-- a text of inputs, from its end
abbrev InputsCycle : List TextToken → List (List ℕ) → Grammar TextToken InputsSyntax
InputsCycle ns stem =
    Then (IsOne (word_at (codes "cycle"))) (λ _. Then (AreSome) (λ cycle. IsMapped (λ _. inputs_made ns stem cycle) IsEnd))

abbrev InputsStem : List TextToken → Grammar TextToken InputsSyntax
InputsStem ns = Then (IsOne (word_at (codes "stem"))) (λ _. Then AreRows (InputsCycle ns))

abbrev InputsHead : Grammar TextToken InputsSyntax
InputsHead = Then (IsOne (word_at (codes "tslinputs"))) (λ _. Then (IsOne (numeral_at (codes "1"))) (λ _. Then AreColumns InputsStem))

stem_follows : (ns : List TextToken) (r : ℕ) (xs : List TextToken) (t : InputsSyntax) → InputsStem ns r xs t →
    (rest : List TextToken) →
    Before Never rest → Before (NoWord (codes "input")) (xs ++ rest)
stem_follows ns r xs t h rest b =
    rw (after_one h) (words_differ (codes "stem") (codes "input") refl h.first.0 (word_is (codes "stem") h.first.0 h.first.2))

cycle_follows : (ns : List TextToken) (stem : List (List ℕ)) (r : ℕ) (xs : List TextToken) (t : InputsSyntax) →
    InputsCycle ns stem r xs t → (rest : List TextToken) → Before Never rest → Before NoRow (xs ++ rest)
cycle_follows ns stem r xs t h rest b =
    let word = word_is (codes "cycle") h.first.0 h.first.2 in
    rw (after_one h) (
      words_differ (codes "cycle") (codes "row") refl h.first.0 word,
      name_no_number h.first.0 (word_is_name (codes "cycle") h.first.0 word),
    )

input_head_exact : (levels_left : ℕ) → Exact InputsHead Never levels_left inputs_text
unfolding inputs_text
input_head_exact levels_left =
    (then_form (one_terminal (word_at (codes "tslinputs")) levels_left (has_word (codes "tslinputs") refl)) (λ _.
    then_form (one_terminal (numeral_at (codes "1")) levels_left has_one) (λ _.
    before_form (λ r ns xs t h rest b. stem_follows ns r xs t h rest b) (columns_form levels_left) (λ ns.
    then_form (one_terminal (word_at (codes "stem")) levels_left (has_word (codes "stem") refl)) (λ _.
    before_form (λ r stem xs t h rest b. cycle_follows ns stem r xs t h rest b) (rows_form levels_left) (λ stem.
    then_form (one_terminal (word_at (codes "cycle")) levels_left (has_word (codes "cycle") refl)) (λ _.
    before_form (λ r cycle xs v h rest b. nothing_follows Never (λ _. inputs_made ns stem cycle) r xs v h rest b)
    (some_rows_form levels_left)
    (λ cycle. mapped_form (λ _. inputs_made ns stem cycle) (at_the_end levels_left))))))))).exact

is_inputs : (r : ℕ) (xs : List TextToken) (t : InputsSyntax) → InputsHead r xs t → IsInputs xs t
is_inputs r xs t a =
    let b = a.second in
    let c = b.second in
    let s = c.second in
    let d = s.second in
    let e = d.second in
    let f = e.second in
    let cycle = rows_row f.front f.value f.first in
    let tail : e.tail ≡ f.front = f.split ∙ ap (λ ys. f.front ++ ys) f.second.1 ∙ append-nil f.front in
    rw (after_one a, after_one b, c.split, after_one s, d.split, after_one e, tail, f.second.2, cycle.2)
    (inputs a.first.0 b.first.0 s.first.0 e.first.0 (word_is (codes "tslinputs") a.first.0 a.first.2)
    (numeral_is (codes "1") b.first.0 b.first.2) c.first (word_is (codes "stem") s.first.0 s.first.2) d.first
    (word_is (codes "cycle") e.first.0 e.first.2) cycle.3)

inputs_are : (r : ℕ) (xs : List TextToken) (t : InputsSyntax) → IsInputs xs t → InputsHead r xs t
inputs_are r xs t (inputs {xs = us} {ys = vs} {zs = ws} {rows = rs} {row = first} a b s c head one columns stem_word stem_rows
    cycle_word cycle_rows) =
    one_then a (word_taken (codes "tslinputs") a head) (one_then b (numeral_taken (codes "1") b one) (then_of us _ _ columns
    (one_then s (word_taken (codes "stem") s stem_word) (then_of vs _ _ stem_rows
    (one_then c (word_taken (codes "cycle") c cycle_word) (record {
      value = first ∷ rs;
      front = ws;
      tail = [];
      split = sym (append-nil ws);
      first = row_rows ws first rs cycle_rows;
      second = (tt, refl, refl);
    }))))))

pub inputs_exact : (levels_left : ℕ) → Exact (λ r. IsInputs) Never levels_left inputs_text
inputs_exact levels_left = exact_as is_inputs inputs_are (λ x e. e) (input_head_exact levels_left)
