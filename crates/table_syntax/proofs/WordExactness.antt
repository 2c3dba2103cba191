-- The reading functions read exactly the grammar of words.
use Rattle.std.proofs.Common.{◌≡◌, ◌∙◌, ℕ, suc, Bool, true, false, not, List, [], ◌∷◌, ◌++◌, refl, ap, sym}
use Rattle.std.specs.Prelude.{Option, Some, None, option_map, is_some, codes, if◌then◌else◌}
use Rattle.std.specs.List.{list_all}
use Rattle.std.specs.Str.{bytes_eq}
use Rattle.std.proofs.lemmas.Bool.{and_parts}
use Rattle.std.proofs.lemmas.Option.{none-some}
use Rattle.tsl_terms.specs.declared.names.NameKind.{NameKind}
use Rattle.tsl_terms.specs.declared.names.NameKind.TheVariants.{Signal, Function, Predicate}
use Rattle.reader_combinators.specs.Readers.{taking, and_then, push}
use Rattle.reader_combinators.specs.Exact.{Grammar, gives, Agrees, Exact}
use Rattle.reader_combinators.proofs.Runs.{exact_as}
use Rattle.reader_combinators.proofs.Then.{Any}
use Rattle.reader_combinators.proofs.Taken.{HasExample, IsOne, Never}
use Rattle.reader_combinators.proofs.Sequels.{IsMapped, Then, after_one}
use Rattle.reader_combinators.proofs.Iterates.{Shrinks, step_shrinks}
use Rattle.reader_combinators.proofs.Lists.{AreAll, none, some, Member, stepping}
use Rattle.table_syntax.specs.declared.words.Operation.{Operation as WordOperation}
use Rattle.table_syntax.specs.declared.words.Operation.TheVariants.{Add, Const}
use Rattle.table_syntax.specs.declared.words.Test.TheVariants.{Less}
use Rattle.table_syntax.specs.declared.words.Given.TheVariants.{Operation, Test, Value}
use Rattle.table_syntax.specs.Syntax.{TextToken, is_word, meaning_in, operation_words, operation_at, test_at, WordEntry, WordsSyntax}
use Rattle.table_syntax.specs.Grammar.{
  IsOperation,
  by_word,
  constant,
  IsWordEntry,
  word_function,
  word_predicate,
  word_cell,
  AreWordEntries,
  no_word_entry,
  more_word_entries,
  IsWords,
  words,
}
use Rattle.table_syntax.specs.internal.Reading.{
  name_at,
  symbol_at,
  kind_at,
  operation_word_at,
  rest_of_operation,
  operation,
  word_entry_made,
  word_entry_of_kind,
  word_entry_member,
  word_entries,
  words_made,
  words_text,
}
use Rattle.table_syntax.proofs.Terminals.{words_differ, name_is, name_taken, symbol_is, symbol_taken, word_of_kind, kind_is, kind_taken}
use Rattle.table_syntax.proofs.Terminals.{name_example, has_name, has_symbol, has_word}
use Rattle.table_syntax.proofs.Entries.{one_then, elsewhere, Form, one_terminal, mapped_form, then_form, other_form, listed_form}
use Rattle.table_syntax.proofs.Entries.{IsByKind, by_kind, IsHeaded, built, of_parts, headed_exact}
use Rattle.table_syntax.proofs.Exactness.{IsNumber, number_form}

-- ---- operations

not_true : (b : Bool) → not b ≡ true → b ≡ false
not_true false e = refl
not_true true e = cc

-- a word that is none of these has no meaning among them
no_meaning : {A : Type 0} (ws : List (List ℕ × A)) (v : List ℕ) → list_all (λ w. not (bytes_eq v w.0)) ws ≡ true → (x : TextToken) →
    is_word v x ≡ true → meaning_in ws x ≡ None
no_meaning [] v differ x e = refl
no_meaning (w ∷ ws) v differ x e =
    let parts = and_parts (not (bytes_eq v w.0)) (list_all (λ u. not (bytes_eq v u.0)) ws) differ in
    ap (λ b. if b then Some w.1 else meaning_in ws x) (words_differ v w.0 (not_true (bytes_eq v w.0) parts.0) x e)
    ∙ no_meaning ws v parts.1 x e

word_if : (b : Bool) (o : Option WordOperation) (p : WordOperation) →
    (if b then Some None else option_map (λ q. Some q) o) ≡ Some (Some p) →
    o ≡ Some p
word_if true o p e = cc
word_if false None p e = cc
word_if false (Some q) p e = cc

constant_if : (b : Bool) (o : Option WordOperation) → (if b then Some None else option_map (λ q. Some q) o) ≡ Some None → b ≡ true
constant_if true o e = refl
constant_if false None e = cc
constant_if false (Some q) e = cc

word_taken : (x : TextToken) (p : WordOperation) → operation_at x ≡ Some p → operation_word_at x ≡ Some (Some p)
word_taken x p e = by (is_word (codes "const") x) refl where
  by : (b : Bool) → is_word (codes "const") x ≡ b → operation_word_at x ≡ Some (Some p)
  by true is = absurd (none-some p (sym (no_meaning operation_words (codes "const") refl x is) ∙ e))
  by false is = λ i. if is i then Some None else option_map (λ q. Some q) (e i)

constant_taken : (x : TextToken) → is_word (codes "const") x ≡ true → operation_word_at x ≡ Some None
constant_taken x e = ap (λ b. if b then Some None else option_map (λ q. Some q) (operation_at x)) e

has_operation_word : HasExample operation_word_at
has_operation_word = record { example = name_example (codes "add"); result = Some Add; is = refl }

-- an operation after its first word: nothing, or a number
abbrev IsRest : Option WordOperation → Grammar TextToken WordOperation
IsRest (Some o) = λ r xs v. (xs ≡ []) × (v ≡ o)
IsRest None = IsMapped Const (λ r. IsNumber)

rest_form : (word : Option WordOperation) (levels_left : ℕ) → Form (IsRest word) Any levels_left (rest_of_operation word)
rest_form (Some o) levels_left = record {
  exact = record {
    run = λ xs. record { front = []; rest = xs; outcome = gives o; split = refl; reads = λ other same. refl; says = (refl, refl) };
    complete = λ r xs v h rest b. complete r xs v h rest;
  };
  begins = λ r. record { ending = []; value = o; derives = (refl, refl) };
} where
  complete : (r : ℕ) (xs : List TextToken) (v : WordOperation) → (xs ≡ []) × (v ≡ o) → (rest : List TextToken) →
      Agrees levels_left r v rest (rest_of_operation (Some o) (xs ++ rest))
  complete r xs v h rest = rw h.0 (sym h.1, refl)
rest_form None levels_left = mapped_form Const (number_form levels_left)

is_operation : (r : ℕ) (xs : List TextToken) (o : WordOperation) → Then (IsOne operation_word_at) IsRest r xs o → IsOperation xs o
is_operation r xs o h = by h.value h.first.2 h.second where
  by : (word : Option WordOperation) → operation_word_at h.first.0 ≡ Some word → IsRest word r h.tail o → IsOperation xs o
  by (Some p) is k =
      rw (after_one h, k.0, k.1) (by_word h.first.0 p (word_if (is_word (codes "const") h.first.0) (operation_at h.first.0) p is))
  by None is k =
      rw (after_one h, k.1.1, k.2)
      (constant h.first.0 k.1.0 k.0 (constant_if (is_word (codes "const") h.first.0) (operation_at h.first.0) is) k.1.2)

operations_are : (r : ℕ) (xs : List TextToken) (o : WordOperation) → IsOperation xs o → Then (IsOne operation_word_at) IsRest r xs o
operations_are r xs o (by_word x p word) = one_then x (word_taken x p word) (refl, refl)
operations_are r xs o (constant x y n word number) = one_then x (constant_taken x word) (n, (y, refl, number), refl)

operation_form : (levels_left : ℕ) → Form (λ r. IsOperation) Any levels_left operation
unfolding operation
operation_form levels_left =
    other_form is_operation operations_are (λ x e. e)
    (then_form (one_terminal operation_word_at levels_left has_operation_word) (λ word. rest_form word levels_left))

-- ---- entries

has_test : HasExample test_at
has_test = record { example = name_example (codes "less"); result = Less; is = refl }

-- an entry after its first word
abbrev IsForm : NameKind → Grammar TextToken WordEntry
IsForm Function = Then (IsOne name_at) (λ name. IsMapped (λ o. word_entry_made name (Operation o)) (λ r. IsOperation))
IsForm Predicate = Then (IsOne symbol_at) (λ name. IsMapped (λ t. word_entry_made name (Test t)) (λ r. IsOne test_at))
IsForm Signal = Then (IsOne name_at) (λ name. IsMapped (λ n. word_entry_made name (Value n)) (λ r. IsNumber))

form : (kind : NameKind) (levels_left : ℕ) → Form (IsForm kind) Any levels_left (word_entry_of_kind kind)
unfolding word_entry_of_kind
form Function levels_left =
    then_form (one_terminal name_at levels_left has_name)
    (λ name. mapped_form (λ o. word_entry_made name (Operation o)) (operation_form levels_left))
form Predicate levels_left =
    then_form (one_terminal symbol_at levels_left has_symbol)
    (λ name. mapped_form (λ t. word_entry_made name (Test t)) (one_terminal test_at levels_left has_test))
form Signal levels_left =
    then_form (one_terminal name_at levels_left has_name)
    (λ name. mapped_form (λ n. word_entry_made name (Value n)) (number_form levels_left))

lift_form : (kind : NameKind) (r : ℕ) (xs : List TextToken) (e : WordEntry) → IsForm kind r xs e → IsForm kind (suc (suc r)) xs e
lift_form Function r xs e h = elsewhere (λ v ys k. k) h
lift_form kind r xs e h = elsewhere (λ v ys k. k) h

entry_members : (levels_left : ℕ) → Member (IsByKind IsForm) Any Never levels_left word_entry_member (λ x. is_some (kind_at x))
    (λ xs. and_then (taking kind_at xs) word_entry_of_kind)
entry_members = by_kind word_entry_of_kind IsForm form lift_form (λ x e. tt)

entry_is : (r : ℕ) (xs : List TextToken) (e : WordEntry) → IsByKind IsForm r xs e → IsWordEntry xs e
entry_is r xs e h = by h.value (kind_is h.first.0 h.value h.first.2) h.second where
  by : (kind : NameKind) → is_word (word_of_kind kind) h.first.0 ≡ true → IsForm kind r h.tail e → IsWordEntry xs e
  by Function word k =
      let name = name_is k.first.0 k.value k.first.2 in
      rw (after_one h, after_one k, k.second.2, name.1) (word_function h.first.0 k.first.0 word name.0 k.second.1)
  by Predicate word k =
      let name = symbol_is k.first.0 k.value k.first.2 in
      let test = k.second.1 in
      rw (after_one h, after_one k, test.1, k.second.2, name.1)
      (word_predicate h.first.0 k.first.0 test.0 k.second.0 word name.0 test.2)
  by Signal word k =
      let name = name_is k.first.0 k.value k.first.2 in
      let value = k.second.1 in
      rw (after_one h, after_one k, value.1, k.second.2, name.1)
      (word_cell h.first.0 k.first.0 value.0 k.second.0 word name.0 value.2)

is_entry : (r : ℕ) (xs : List TextToken) (e : WordEntry) → IsWordEntry xs e → IsByKind IsForm r xs e
is_entry r xs e (word_function {o = o} x y word name h) =
    one_then x (kind_taken x Function word) (one_then y (name_taken y name) (o, h, refl))
is_entry r xs e (word_predicate x y z t word name test) =
    one_then x (kind_taken x Predicate word) (one_then y (symbol_taken y name) (t, (z, refl, test), refl))
is_entry r xs e (word_cell x y z n word name number) =
    one_then x (kind_taken x Signal word) (one_then y (name_taken y name) (n, (z, refl, number), refl))

all_entries : (r : ℕ) (xs : List TextToken) (es : List WordEntry) → AreWordEntries xs es → AreAll (IsByKind IsForm) r xs es
all_entries r xs es no_word_entry = none
all_entries r xs es (more_word_entries {xs = ys} {ys = zs} {e = e} {es = ds} h rest) = some (is_entry r ys e h) (all_entries r zs ds rest)

entries_form : (levels_left : ℕ) → Form (λ r. AreWordEntries) Never levels_left word_entries
unfolding word_entries
entries_form levels_left =
    listed_form no_word_entry (λ r f g e es h rest. more_word_entries (entry_is r f e h) rest) all_entries (entry_members levels_left)

pub word_entries_shrink : Shrinks (push word_entry_member)
word_entries_shrink = step_shrinks (stepping (entry_members 0))

-- ---- whole texts

abbrev IsWordsText : Grammar TextToken WordsSyntax
IsWordsText = IsHeaded (codes "tslwords") (codes "bits") AreWordEntries words_made

words_are : (r : ℕ) (xs : List TextToken) (t : WordsSyntax) → IsWords xs t → IsWordsText r xs t
words_are r xs t (words a b c d n head one word number few entries) = of_parts _ r a b c d n head one word number few entries

pub words_exact : (levels_left : ℕ) → Exact (λ r. IsWords) Never levels_left words_text
unfolding words_text
words_exact levels_left =
    exact_as (built IsWords (λ xs es a b c d n head one word number few entries. words a b c d n head one word number few entries))
    words_are (λ x e. e)
    (headed_exact (has_word (codes "tslwords") refl) (has_word (codes "bits") refl) entries_form words_made levels_left)
