-- The number of a text that passed a range.
use Rattle.std.proofs.Common.{◌≡◌, ◌<◌, ◌≤◌, ◌^◌, ◌==◌, ℕ, Bool, cond, true, false, refl, sym, ap, subst, arith, List, [], ◌∷◌, drop}
use Rattle.std.proofs.Common.{Option, Some, None}
use Rattle.std.specs.Prelude.{pos, unwrap_or}
use Rattle.std.specs.Str.Parse.{IsNumeral, digits_value, starts_with_minus, without_leading_plus}
use Rattle.std.proofs.lemmas.Bool.{ne_eqb}
use Rattle.std.proofs.lemmas.Int.{ints}
use Rattle.std.proofs.lemmas.Str.Parse.{digit_from_value}
use Rattle.clap.specs.Lexer.{without_minus}
use Rattle.clap.specs.Values.{IsSignedIn, IsUnsignedIn}
use Rattle.clap.specs.Walk.{Text}
use Rattle.clap.specs.ValueTests.{is_numeral}
use Rattle.clap.specs.declared.builder.value_parser.ValueParser.TheVariants as vp
use Rattle.clap.proofs.ValueTestLemmas.{Accepts-accepts}
use Rattle.clap.proofs.WalkLemmas.{both}
use Rattle.command_words.specs.Arguments.{written_number}

-- there is a number, and it lies in the range
abbrev pub IsIn : ℕ → ℕ → Option ℕ → Type 0
IsIn least most number = (n : ℕ) × (number ≡ Some n) × (least ≤ n) × (n ≤ most)

no_plus : (ds : List ℕ) → IsNumeral 10 ds → without_leading_plus ds ≡ ds
no_plus [] h = refl
no_plus (d ∷ ds) h =
    let plus : (d == 43) ≡ false = ne_eqb _ _ (λ e. omega (arith, digit_from_value d h.1.0)) in
    ap (λ (b : Bool). drop (cond b 1 0) (d ∷ ds)) plus

without_minus-cond : (t : List ℕ) → without_minus t ≡ cond (starts_with_minus t) (drop 1 t) t
without_minus-cond [] = refl
without_minus-cond (x ∷ xs) = go (x == 45)
  where
    go : (b : Bool) → unwrap_or (cond b (Some xs) None) (x ∷ xs) ≡ cond b xs (x ∷ xs)
    go true = refl
    go false = refl

-- a text that passed a range without a negative number is a plain numeral in it, once a minus is taken off
pub unsigned_in : (low high : ℕ) (t : Text) → high < 2 ^ 63 → IsSignedIn (pos low) (pos high) t → IsUnsignedIn low high (without_minus t)
unsigned_in low high t small passed = subst (λ (u : Text). IsUnsignedIn low high u) (sym (without_minus-cond t))
    (go (starts_with_minus t) refl)
  where
    go : (b : Bool) → starts_with_minus t ≡ b → IsUnsignedIn low high (cond b (drop 1 t) t)
    go true minus =
        let low_ok = rw minus at passed.2 in
        let numeral : IsNumeral 10 (drop 1 t) = rw minus at passed.0 in
        let same = no_plus (drop 1 t) numeral in
        rw same (numeral, omega (arith, ints), omega (arith, ints), omega (arith, ints))
    go false minus =
        let low_ok = rw minus at passed.2 in
        let high_ok = rw minus at passed.3 in
        let numeral : IsNumeral 10 (without_leading_plus t) = rw minus at passed.0 in
        (numeral, omega (arith, ints), omega (arith, ints), omega (arith, ints))

-- and so it has a number in the range
pub number_from : (low high : ℕ) (t : Text) → IsUnsignedIn low high t → IsIn low high (written_number t)
number_from low high t h =
    let numeral : is_numeral (without_leading_plus t) ≡ true = (both _ _ (Accepts-accepts false (vp.Unsigned low high) t h)).0 in
    (digits_value 10 (without_leading_plus t), rw numeral refl, h.2, h.3)
