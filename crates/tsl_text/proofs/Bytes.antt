-- What the tests of a byte tell, and how a front of bytes is found again.
use Rattle.std.proofs.Common.{◌≡◌, ℕ, ◌+◌, true, false, cond, eqb, List, [], ◌∷◌, ◌++◌, length, drop, refl, ap, arith}
use Rattle.std.specs.Char.{is_ascii_digit}
use Rattle.std.specs.List.{list_all, prefix_len}
use Rattle.std.proofs.lemmas.Bool.{and_parts, cond-true, cond-false, eqb-true, not-false}
use Rattle.std.proofs.lemmas.Bool.Decides.{nat_tests}
use Rattle.tsl_text.specs.Lines.{is_blank, is_line_byte}
use Rattle.tsl_text.specs.Names.{is_name_start}
use Rattle.tsl_text.specs.Places.{IsLineEnd}
use Rattle.tsl_text.proofs.Fronts.{IsStop, stop_after_prefix}

pub name_start-no_blank : (byte : ℕ) → is_name_start byte ≡ true → is_blank byte ≡ false
name_start-no_blank byte h = grind (arith, nat_tests)

pub name_start-no_slash : (byte : ℕ) → is_name_start byte ≡ true → eqb byte 47 ≡ false
name_start-no_slash byte h = grind (arith, nat_tests)

pub digit-no_blank : (byte : ℕ) → is_ascii_digit byte ≡ true → is_blank byte ≡ false
digit-no_blank byte h = grind (arith, nat_tests)

pub digit-no_slash : (byte : ℕ) → is_ascii_digit byte ≡ true → eqb byte 47 ≡ false
digit-no_slash byte h = grind (arith, nat_tests)

pub digit-no_name_start : (byte : ℕ) → is_ascii_digit byte ≡ true → is_name_start byte ≡ false
digit-no_name_start byte h = grind (arith, nat_tests)

-- a line that ends is as long as it can be
pub prefix_len-line : (line after : List ℕ) → list_all is_line_byte line ≡ true → IsLineEnd after →
    prefix_len is_line_byte (line ++ after) ≡ length line
prefix_len-line [] [] h end = refl
prefix_len-line [] (byte ∷ after) h end = cond-false (is_line_byte byte) _ 0 (ap is_line_byte end)
prefix_len-line (byte ∷ line) after h end =
    let parts = and_parts (is_line_byte byte) (list_all is_line_byte line) h in
    let more = prefix_len-line line after parts.1 end in
    let here : cond (is_line_byte byte) (1 + prefix_len is_line_byte (line ++ after)) 0 ≡ 1 + prefix_len is_line_byte (line ++ after) =
    cond-true (is_line_byte byte) _ 0 parts.0 in
    omega arith

-- what follows the longest front without a line feed ends a line
pub line_end-prefix : (bytes : List ℕ) → IsLineEnd (drop (prefix_len is_line_byte bytes) bytes)
line_end-prefix bytes = by (drop (prefix_len is_line_byte bytes) bytes) (stop_after_prefix is_line_byte bytes)
  where
    by : (rest : List ℕ) → IsStop is_line_byte rest → IsLineEnd rest
    by [] stop = tt
    by (byte ∷ rest) stop = eqb-true byte 10 (not-false (eqb byte 10) stop)
