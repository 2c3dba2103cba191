-- The words and the fields of a line, and the line that fields make.
use Rattle.std.proofs.Common.{
  ◌≡◌,
  ℕ,
  zero,
  suc,
  ◌+◌,
  ◌-◌,
  ◌<◌,
  ◌≤◌,
  Bool,
  true,
  false,
  not,
  cond,
  eqb,
  List,
  [],
  ◌∷◌,
  ◌++◌,
  filter,
  length,
  take,
  drop,
  get_or,
  sym,
  ap,
  subst,
  ◌∙◌,
  refl,
  arith,
  append-nil,
  take-append-drop,
}
use Rattle.std.specs.List.{list_all, slice_split, onto_first, prefix_len, All}
use Rattle.std.proofs.lemmas.Bool.{and_parts, not-true, not-false, eqb-true}
use Rattle.std.proofs.lemmas.List.{drop_more, take_all, take_rest}
use Rattle.std.proofs.lemmas.List.Sums.{prefix_len-le-length, prefix_len_stops}
use Rattle.std.proofs.lemmas.List.Elements.{All-nil, All-cons}
use Rattle.std.proofs.lemmas.List.Splits.{slice_split_none, slice_split_at}
use Rattle.base_library.proofs.Passes.{list_all-prefix}
pub use Rattle.tsl_text.proofs.Fronts.{IsStop, stop_after_prefix}
use Rattle.tsl_text.specs.Lines.{is_blank, is_space, has_bytes, words, fields}
use Rattle.tsl_text.specs.Written.{is_field, line_of_fields}

-- no byte passes
none_pass : (test : ℕ → Bool) (bytes : List ℕ) → list_all (λ byte. not (test byte)) bytes ≡ true → All (λ byte. test byte ≡ false) bytes
none_pass test [] h = All-nil (λ byte. test byte ≡ false)
none_pass test (b ∷ bs) h =
    let parts = and_parts (not (test b)) (list_all (λ byte. not (test byte)) bs) h in
    All-cons (λ byte. test byte ≡ false) b bs (not-true (test b) parts.0) (none_pass test bs parts.1)

-- ---- words

words_blank : (byte : ℕ) (bytes : List ℕ) → is_blank byte ≡ true → words (byte ∷ bytes) ≡ words bytes
words_blank byte bytes h =
    ap (λ b. filter has_bytes (cond b ([] ∷ slice_split is_blank bytes) (onto_first byte (slice_split is_blank bytes)))) h

-- blanks in front
pub words_blanks : (blanks rest : List ℕ) → list_all is_blank blanks ≡ true → words (blanks ++ rest) ≡ words rest
words_blanks [] rest h = refl
words_blanks (b ∷ bs) rest h =
    let parts = and_parts (is_blank b) (list_all is_blank bs) h in
    words_blank b (bs ++ rest) parts.0 ∙ words_blanks bs rest parts.1

-- a word ends before a blank or at the end
abbrev pub IsWordEnd : List ℕ → Type 0
IsWordEnd [] = Unit {0}
IsWordEnd (byte ∷ bytes) = is_blank byte ≡ true

abbrev pub is_word : List ℕ → Bool
is_word bytes = list_all (λ byte. not (is_blank byte)) bytes

pub words_word : (word rest : List ℕ) → has_bytes word ≡ true → is_word word ≡ true → IsWordEnd rest →
    words (word ++ rest) ≡ word ∷ words rest
words_word [] rest some h end = absurd cc
words_word (b ∷ bs) [] some h end =
    ap words (append-nil (b ∷ bs)) ∙ ap (filter has_bytes) (slice_split_none is_blank (b ∷ bs) (none_pass is_blank (b ∷ bs) h))
words_word (b ∷ bs) (c ∷ cs) some h end =
    ap (filter has_bytes) (slice_split_at is_blank (b ∷ bs) c cs (none_pass is_blank (b ∷ bs) h) end)
    ∙ ap (λ ws. (b ∷ bs) ∷ ws) (sym (words_blank c cs end))

-- ---- fields

-- a single space ends the field before it
pub fields_space : (field rest : List ℕ) → is_field field ≡ true → fields (field ++ 32 ∷ rest) ≡ field ∷ fields rest
fields_space field rest h = slice_split_at is_space field 32 rest (none_pass is_space field h) refl

-- and so does the end
pub fields_end : (field : List ℕ) → is_field field ≡ true → fields field ≡ field ∷ []
fields_end field h = slice_split_none is_space field (none_pass is_space field h)

-- the line that fields make has these fields
pub fields_made : (first : List ℕ) (more : List (List ℕ)) → list_all is_field (first ∷ more) ≡ true →
    fields (line_of_fields (first ∷ more)) ≡ first ∷ more
fields_made first [] h = fields_end first (and_parts (is_field first) true h).0
fields_made first (next ∷ more) h =
    let parts = and_parts (is_field first) (list_all is_field (next ∷ more)) h in
    fields_space first (line_of_fields (next ∷ more)) parts.0 ∙ ap (λ rest. first ∷ rest) (fields_made next more parts.1)

-- ---- what the code splits off

has_bytes_taken : (n : ℕ) (rest : List ℕ) → 0 < n → n ≤ length rest → has_bytes (take n rest) ≡ true
has_bytes_taken n [] some within = absurd (omega arith)
has_bytes_taken zero (b ∷ bs) some within = absurd (omega arith)
has_bytes_taken (suc n) (b ∷ bs) some within = refl

no_word_left : (rest : List ℕ) → IsStop is_blank rest → prefix_len (λ byte. not (is_blank byte)) rest ≡ 0 → words rest ≡ []
no_word_left [] stop h = refl
no_word_left (b ∷ bs) stop h =
    let one : prefix_len (λ byte. not (is_blank byte)) (b ∷ bs) ≡ 1 + prefix_len (λ byte. not (is_blank byte)) bs = rw stop refl in
    absurd (omega (arith, h, one))

word_end : (rest : List ℕ) → IsStop (λ byte. not (is_blank byte)) rest → IsWordEnd rest
word_end [] stop = tt
word_end (b ∷ bs) stop = not-false (is_blank b) stop

-- the line behind its blanks, as the code cuts it, has the same words
abbrev pub unblanked : List ℕ → ℕ → List ℕ
unblanked line start = take (length line - start) (drop start line)

skipped : (line : List ℕ) (start : ℕ) → start ≡ prefix_len is_blank line → words line ≡ words (unblanked line start)
skipped line start s =
    ap words (sym (take-append-drop start line))
    ∙ words_blanks (take start line) (drop start line) (ap (λ k. list_all is_blank (take k line)) s ∙ list_all-prefix is_blank line)
    ∙ ap words (sym (take_rest line start))

pub word_none : (line : List ℕ) → prefix_len (λ byte. not (is_blank byte)) (unblanked line (prefix_len is_blank line)) ≡ 0 → words line ≡ []
word_none line none =
    skipped line (prefix_len is_blank line) refl
    ∙ no_word_left (unblanked line (prefix_len is_blank line))
    (subst (IsStop is_blank) (sym (take_rest line (prefix_len is_blank line))) (stop_after_prefix is_blank line)) none

pub word_some : (line : List ℕ) (start n : ℕ) → start ≡ prefix_len is_blank line →
    n ≡ prefix_len (λ byte. not (is_blank byte)) (unblanked line start) → (n ≡ 0 → ⊥) →
    take n (unblanked line start) ∷ words (unblanked (unblanked line start) n) ≡ words line
word_some line start n s e some =
    let test : ℕ → Bool = λ byte. not (is_blank byte) in
    let rest = unblanked line start in
    let within : n ≤ length rest = omega (arith, e, prefix_len-le-length test rest) in
    let end : IsWordEnd (drop n rest) =
    word_end (drop n rest) (subst (λ k. IsStop test (drop k rest)) (sym e) (stop_after_prefix test rest)) in
    let word : is_word (take n rest) ≡ true = ap (λ k. is_word (take k rest)) e ∙ list_all-prefix test rest in
    ap (λ tail. take n rest ∷ words tail) (take_rest rest n)
    ∙ sym (words_word (take n rest) (drop n rest) (has_bytes_taken n rest (omega (arith, some)) within) word end)
    ∙ ap words (take-append-drop n rest) ∙ sym (skipped line start s)

-- the fields of a line up to its first space and behind it, as the code cuts them
pub field_more : (line : List ℕ) (n : ℕ) → n ≡ prefix_len (λ byte. not (is_space byte)) line → n < length line →
    take n line ∷ fields (take (length line - (n + 1)) (drop (n + 1) line)) ≡ fields line
field_more line n e h =
    let test : ℕ → Bool = λ byte. not (is_space byte) in
    let stop = prefix_len_stops test line 0 (omega (arith, e, h)) in
    let space : get_or line n 0 ≡ 32 = ap (λ k. get_or line k 0) e
    ∙ eqb-true (get_or line (prefix_len test line) 0) 32 (not-false (eqb (get_or line (prefix_len test line) 0) 32) stop) in
    ap (λ rest. take n line ∷ fields rest) (take_rest line (n + 1))
    ∙ sym (fields_space (take n line) (drop (n + 1) line) (ap (λ k. is_field (take k line)) e ∙ list_all-prefix test line))
    ∙ ap fields ((λ i. take n line ++ sym space i ∷ drop (n + 1) line)
    ∙ ap (λ xs. take n line ++ xs) (sym (drop_more line n 0 h)) ∙ take-append-drop n line)

pub field_last : (line : List ℕ) (n : ℕ) → n ≡ prefix_len (λ byte. not (is_space byte)) line → length line ≤ n → fields line ≡ line ∷ []
field_last line n e h =
    let test : ℕ → Bool = λ byte. not (is_space byte) in
    fields_end line (ap is_field (sym (take_all (prefix_len test line) line (omega (arith, e, h)))) ∙ list_all-prefix test line)
