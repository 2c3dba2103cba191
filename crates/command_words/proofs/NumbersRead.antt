-- What is read of an argument is its number.
use Rattle.std.proofs.Common.{◌≡◌, ◌∙◌, ◌<◌, ◌≤◌, ◌^◌, ℕ, Bool, cond, true, false, refl, ap, arith, List, Option, Some, None, Result}
use Rattle.std.proofs.Common.{Ok, Err, lt-ltb, le-leb}
use Rattle.std.specs.Prelude.{option_and_then, unwrap_or}
use Rattle.std.specs.Str.Parse.{IsNumeral, ParsesUnsigned, digits_value, without_leading_plus}
use Rattle.clap.specs.Matches.{ReadsOne, found_of}
use Rattle.clap.specs.Walk.{Text, one_of, rows_of}
use Rattle.clap.specs.Simple.{App, matches_of}
use Rattle.clap.specs.ValueTests.{is_numeral}
use Rattle.clap.specs.declared.builder.value_parser.ValueParser.TheVariants as vp
use Rattle.clap.specs.declared.parser.matches.ArgMatches.{ArgMatches}
use Rattle.clap.proofs.ValueTestLemmas.{accepts-Accepts}
use Rattle.clap.proofs.WalkLemmas.{one_text-rows}
use Rattle.command_words.specs.Arguments.{given_word, written_number}
use Rattle.command_words.specs.internal.Matches.{matched_word}

numeral_of : (t : Text) (k : ℕ) → is_numeral (without_leading_plus t) ≡ true → digits_value 10 (without_leading_plus t) < 2 ^ 32
    → IsNumeral 10 (without_leading_plus t)
numeral_of t k numeral small =
    let u = without_leading_plus t in
    let d = digits_value 10 u in
    let fits : d < 2 ^ 64 = omega arith in
    let low : 0 ≤ d = omega arith in
    let high : d ≤ 2 ^ 32 = omega arith in
    (accepts-Accepts false (vp.Unsigned 0 (2 ^ 32)) t (rw (numeral, lt-ltb _ _ fits, le-leb _ _ low, le-leb _ _ high) refl)).0

reads_text : (E : Type 0) (G : Text → Result ℕ E → Type 0) (t : Text) (n : ℕ) (r : Option ℕ) (b : Bool)
    → is_numeral (without_leading_plus t) ≡ b → cond b (Some (digits_value 10 (without_leading_plus t))) None ≡ Some n → n < 2 ^ 32
    → ReadsOne G t r → ((u : Text) (x : Result ℕ E) → G u x → ParsesUnsigned 32 10 u x) → unwrap_or r 0 ≡ n
reads_text E G t n r false numeral e small read only = cc
reads_text E G t n (Some v) true numeral e small read only = (only t (Ok v) read).1 ∙ ap (λ (o : Option ℕ). unwrap_or o 0) e
reads_text E G t n None true numeral e small read only =
    let is : digits_value 10 (without_leading_plus t) ≡ n = ap (λ (o : Option ℕ). unwrap_or o 0) e in
    let fits : digits_value 10 (without_leading_plus t) < 2 ^ 32 = omega arith in
    absurd (only t (Err read.0) read.1 (numeral_of t 0 numeral fits, fits))

-- the number that is read of a text with a number is that number
pub reads_number : (E : Type 0) (G : Text → Result ℕ E → Type 0) (o : Option Text) (n : ℕ) (r : Option ℕ)
    → option_and_then written_number o ≡ Some n → n < 2 ^ 32 → ((t : Text) → o ≡ Some t → ReadsOne G t r)
    → ((u : Text) (x : Result ℕ E) → G u x → ParsesUnsigned 32 10 u x) → unwrap_or r 0 ≡ n
reads_number E G None n r e small read only = cc
reads_number E G (Some t) n r e small read only = reads_text E G t n r (is_numeral (without_leading_plus t)) refl e small (read t refl)
    only

-- the word that the matches hold is that of the definition
pub word_of_rows : (app : App) (words : List Text) (m : ArgMatches) → rows_of (found_of m) ≡ matches_of app words
    → (id : Text) → matched_word m id ≡ given_word app words id
unfolding given_word
word_of_rows app words m rows id = one_text-rows (found_of m) id ∙ ap (one_of id) rows
