-- What the answers of the reading functions say of a text with these tokens.
use Rattle.std.proofs.Common.{◌≡◌, ℕ, zero, suc, ◌-◌, ◌<◌, ◌≤◌, List, [], ◌∷◌, ◌++◌, length, take, drop, refl, ap, sym, ◌∙◌}
use Rattle.std.proofs.Common.{subst, inl, inr, arith}
use Rattle.std.proofs.lemmas.List.{map-append, append-nil, length-map, length-drop}
use Rattle.std.proofs.lemmas.Option.{slice_get_past}
use Rattle.std.specs.Prelude.{Option, Some, None, Ok, Err, slice_get, codes, MatchOption}
use Rattle.base_library.proofs.Places.{slice_get_some, split_at}
use Rattle.tsl_text.specs.declared.Token.{Token}
use Rattle.tsl_text.specs.Division.{AreTokens}
use Rattle.reader_combinators.specs.Readers.{form, Reader, taking}
use Rattle.reader_combinators.specs.Exact.{Exact}
use Rattle.reader_combinators.proofs.Taken.{Never}
use Rattle.reader_combinators.proofs.WholeTexts.{Ends, ends_at_end, ends_map, ends_then, read_derives, form_within, stops, begins_before, no_value}
use Rattle.table_syntax.specs.Syntax.{TextToken, text_token_at, text_tokens}
use Rattle.table_syntax.specs.Forms.{IsRead, SomeTextBegins, HasWrongToken, HasFormFault}
use Rattle.table_syntax.specs.declared.text_tokens.TextToken.{TextToken as LentToken}
use Rattle.table_syntax.specs.internal.Reading.{word_at, numeral_at, entries, tables_made, tables_text}
use Rattle.table_syntax.specs.internal.Reading.{word_entries, words_made, words_text}
use Rattle.table_syntax.specs.internal.Reading.{columns, rows, some_rows, inputs_made, inputs_text}
use Rattle.table_syntax.specs.View.{text_tokens_view}
use Rattle.table_syntax.proofs.Entries.{headed_end}

pub tables_end : Ends tables_text
unfolding tables_text
tables_end = headed_end (codes "tsltables") (codes "domain") entries tables_made

pub words_end : Ends words_text
unfolding words_text
words_end = headed_end (codes "tslwords") (codes "bits") word_entries words_made

pub inputs_end : Ends inputs_text
unfolding inputs_text
inputs_end =
    ends_then (taking (word_at (codes "tslinputs"))) (λ _. ends_then (taking (numeral_at (codes "1"))) (λ _.
    ends_then columns (λ ns. ends_then (taking (word_at (codes "stem"))) (λ _. ends_then rows (λ stem.
    ends_then (taking (word_at (codes "cycle"))) (λ _. ends_then some_rows (λ cycle.
    ends_map (λ _. inputs_made ns stem cycle) ends_at_end)))))))

length_text_tokens : (text : List ℕ) (tokens : List Token) → length (text_tokens text tokens) ≡ length tokens
length_text_tokens text tokens = length-map tokens (text_token_at text)

-- ---- a grammar with its reader

module _ {V : Type 0} {Is : List TextToken → V → Type 0} {reader : Reader TextToken V}
    (exact : Exact (λ r. Is) Never 0 reader) (ends : Ends reader) where
  pub fault_within : (text : List ℕ) (tokens : List Token) (xs : List LentToken) (left : ℕ) → text_tokens_view xs
      ≡ text_tokens text tokens →
      reader (text_tokens_view xs) ≡ Err (form left) → left ≤ length tokens
  fault_within text tokens xs left is h =
      omega (arith, form_within exact (text_tokens text tokens) left (rw is at h), length_text_tokens text tokens)

  pub text_is_read : (text : List ℕ) (tokens : List Token) (xs : List LentToken) (v : V) (rest : List TextToken) → AreTokens text tokens →
      text_tokens_view xs ≡ text_tokens text tokens → reader (text_tokens_view xs) ≡ Ok (v, rest) → IsRead Is text v
  text_is_read text tokens xs v rest are is h =
      record { tokens = tokens; tokens_are = are; derived = read_derives exact ends (text_tokens text tokens) v rest (rw is at h) }

  some_text : (xs : List TextToken) (left : ℕ) → reader xs ≡ Err (form left) → (front rest : List TextToken) → xs ≡ front ++ rest →
      left ≡ length rest → SomeTextBegins Is front
  some_text xs left h front rest split here =
      let begins = begins_before exact xs left h front rest split here in
      (begins.ending, begins.value, begins.derives)

  wrong_token : (text : List ℕ) (tokens : List Token) → AreTokens text tokens → (left : ℕ) →
      reader (text_tokens text tokens) ≡ Err (form left) → (token : Token) → slice_get tokens (length tokens - left) ≡ Some token →
      0 < left →
      HasWrongToken Is text token.start
  wrong_token text tokens are left h token there some =
      let few : left ≤ length tokens = omega (arith, form_within exact (text_tokens text tokens) left h, length_text_tokens text tokens) in
      let before = take (length tokens - left) tokens in
      let after = drop (suc (length tokens - left)) tokens in
      let split : tokens ≡ before ++ token ∷ after = split_at tokens (length tokens - left) token there in
      let parts : text_tokens text tokens ≡ text_tokens text before ++ text_token_at text token ∷ text_tokens text after =
      ap (text_tokens text) split
      ∙ map-append (text_token_at text) before (token ∷ after) in
      let here : left ≡ suc (length (text_tokens text after)) =
      omega (arith, some, few, length_text_tokens text after, length-drop (suc (length tokens - left)) tokens) in
      record {
        before = before;
        token = token;
        after = after;
        tokens_are = subst (AreTokens text) split are;
        place = refl;
        begins = some_text (text_tokens text tokens) left h (text_tokens text before)
            (text_token_at text token ∷ text_tokens text after) parts here;
        stops =
            rw (map-append (text_token_at text) before (token ∷ []))
            (stops exact (text_tokens text tokens) left h (text_tokens text before) (text_token_at text token)
            (text_tokens text after) parts here);
      }

  at_token : (text : List ℕ) (tokens : List Token) → AreTokens text tokens →
      (left : ℕ) → reader (text_tokens text tokens) ≡ Err (form left) →
      (token : Token) → slice_get tokens (length tokens - left) ≡ Some token → HasFormFault Is text token.start
  at_token text tokens are zero h token there = no_token (slice_get_past tokens (length tokens - 0) (omega arith)) where
    no_token : slice_get tokens (length tokens - 0) ≡ None → HasFormFault Is text token.start
    no_token none = cc
  at_token text tokens are (suc left) h token there = inl (wrong_token text tokens are (suc left) h token there (omega arith))

  at_text_end : (text : List ℕ) (tokens : List Token) → AreTokens text tokens → (left : ℕ) →
      reader (text_tokens text tokens) ≡ Err (form left) → slice_get tokens (length tokens - left) ≡ None → left ≤ length tokens →
      HasFormFault Is text (length text)
  at_text_end text tokens are zero h none few =
      inr (record {
        tokens = tokens;
        tokens_are = are;
        place = refl;
        begins = some_text (text_tokens text tokens) 0 h (text_tokens text tokens) [] (sym (append-nil (text_tokens text tokens))) refl;
        no_text = no_value exact (text_tokens text tokens) 0 h;
      })
  at_text_end text tokens are (suc left) h none few =
      let there = slice_get_some tokens (length tokens - suc left) (omega (arith, few)) in
      let never : Some there.0 ≡ None = sym there.1 ∙ none in
      cc

  pub form_fault : (text : List ℕ) (tokens : List Token) (xs : List LentToken) (left at : ℕ) → AreTokens text tokens →
      text_tokens_view xs ≡ text_tokens text tokens → reader (text_tokens_view xs) ≡ Err (form left) →
      MatchOption (slice_get tokens (length tokens - left)) (at ≡ length text) (λ token. at ≡ token.start) → HasFormFault Is text at
  form_fault text tokens xs left at are is h place = by (slice_get tokens (length tokens - left)) refl place where
    read : reader (text_tokens text tokens) ≡ Err (form left)
    read = rw is at h

    by : (found : Option Token) → slice_get tokens (length tokens - left) ≡ found →
        MatchOption found (at ≡ length text) (λ token. at ≡ token.start) → HasFormFault Is text at
    by None e k = rw k (at_text_end text tokens are left read e (fault_within text tokens xs left is h))
    by (Some token) e k = rw k (at_token text tokens are left read token e)
