-- Numbers at the front of a text, found in one walk over its bytes.
use Rattle.std.proofs.Common.{◌≡◌, ℕ, suc, ◌+◌, ◌<◌, ◌≤◌, Bool, true, false, not, eqb, leb, ◌||◌, ℤ, List, ◌∷◌, length}
use Rattle.std.proofs.Common.{take, get_or, Some, sym, ap, ◌∙◌, refl, arith, length-take}
use Rattle.std.specs.Prelude.{option_and_then}
use Rattle.std.specs.List.{list_all, prefix_len}
use Rattle.std.specs.Char.{is_ascii_digit}
use Rattle.std.proofs.lemmas.Bool.{and_parts, leb-true, eqb-true}
use Rattle.std.proofs.lemmas.List.{get_or-take}
use Rattle.std.proofs.lemmas.List.Sums.{prefix_len_is}
use Rattle.base_library.proofs.Passes.{passes_within}
use Rattle.tsl_text.specs.Lines.{is_blank}
use Rattle.tsl_text.specs.Numbers.{number_in, opposite, signed_number_in}

-- a digit is no blank
digit_in_word : (byte : ℕ) → is_ascii_digit byte ≡ true → not (is_blank byte) ≡ true
digit_in_word byte h =
    by_tests (eqb byte 32) (eqb byte 9) (eqb byte 13) (eqb byte 10) (eqb-true byte 32) (eqb-true byte 9) (eqb-true byte 13) (eqb-true byte 10)
  where
    above : 48 ≤ byte
    above = leb-true 48 byte (and_parts (leb 48 byte) (leb byte 57) h).0

    by_tests : (space tab return feed : Bool) → (space ≡ true → byte ≡ 32) → (tab ≡ true → byte ≡ 9) → (return ≡ true → byte ≡ 13) →
        (feed ≡ true → byte ≡ 10) → not (space || (tab || (return || feed))) ≡ true
    by_tests true tab return feed p q r s = absurd (omega (arith, above, p refl))
    by_tests false true return feed p q r s = absurd (omega (arith, above, q refl))
    by_tests false false true feed p q r s = absurd (omega (arith, above, r refl))
    by_tests false false false true p q r s = absurd (omega (arith, above, s refl))
    by_tests false false false false p q r s = refl

-- digits up to a blank are the whole word
pub digits_are_word : (text : List ℕ) (len : ℕ) → len ≤ length text → list_all is_ascii_digit (take len text) ≡ true →
    is_blank (get_or text len 0) ≡ true →
    len ≡ prefix_len (λ byte. not (is_blank byte)) text
digits_are_word text len within digits ends =
    sym (prefix_len_is (λ byte. not (is_blank byte)) text len 0 within each (λ h. ap not ends))
  where
    each : (k : ℕ) → k < len → not (is_blank (get_or text k 0)) ≡ true
    each k h =
        let here : k < length (take len text) = omega (arith, length-take len text) in
        digit_in_word (get_or text k 0) (sym (ap is_ascii_digit (get_or-take len text k 0 h))
        ∙ passes_within is_ascii_digit (take len text) k 0 digits here)

-- behind a sign
pub negative_means : (digits : List ℕ) (len value : ℕ) (number : ℤ) → number_in (take len digits) ≡ Some value → opposite value ≡ Some number →
    signed_number_in (take (len + 1) (45 ∷ digits)) ≡ Some number
negative_means digits len value number is minus =
    let next : suc len ≡ len + 1 = omega arith in
    sym (ap (λ k. signed_number_in (take k (45 ∷ digits))) next) ∙ (ap (option_and_then opposite) is ∙ minus)
