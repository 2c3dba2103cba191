-- The words of numbers, and the words of the lists that they make.
use Rattle.std.proofs.Common.{◌≡◌, ℕ, suc, ◌+◌, ◌<◌, ◌^◌, Bool, true, false, not, cond, eqb, leb, ℤ, pos, negsuc, List, []}
use Rattle.std.proofs.Common.{◌∷◌, ◌++◌, map, flat_map, length, codes, decimal, Some, None, refl, sym, ap, subst, ◌∙◌, arith, append_assoc}
use Rattle.std.specs.Prelude.{option_map, option_and_then}
use Rattle.std.specs.Char.{is_ascii_digit}
use Rattle.std.specs.List.{list_all, AllByRecursion}
use Rattle.std.proofs.lemmas.Bool.{and_parts, and_from, leb-true, ne_eqb, true≢false}
use Rattle.std.proofs.lemmas.Fmt.{decimal_nonempty}
use Rattle.std.proofs.lemmas.List.Folds.{list_all-append}
use Rattle.base_library.specs.Options.{all_there}
use Rattle.base_library.proofs.Passes.{list_all_weaker}
use Rattle.tsl_text.specs.Lines.{is_blank, has_bytes, is_line_byte, words}
use Rattle.tsl_text.specs.Numbers.{number_in, has_leading_zero, opposite, signed_number_in}
use Rattle.tsl_text.specs.Written.{is_line}
use Rattle.tsl_text.proofs.Bytes.{digit-no_blank}
use Rattle.tsl_text.proofs.NumberLaws.{decimal_digits, decimal_is_read}
use Rattle.tsl_text.proofs.FieldLaws.{IsWordEnd, is_word, words_word}
use Rattle.clause_core.specs.Literals.{Lit, signed_number_of}
use Rattle.refutation_check.specs.DataLines.{is_comment}
use Rattle.refutation_text.specs.Written.{literal_word, ended_list}

-- a word of a line that means a number
pub record Means (word : List ℕ) (n : ℤ) : Type 0 where
  pub some : has_bytes word ≡ true
  pub whole : is_word word ≡ true
  pub begins : is_comment word ≡ false
  pub value : signed_number_in word ≡ Some n

-- ---- numbers

no_blanks : (ds : List ℕ) → list_all is_ascii_digit ds ≡ true → is_word ds ≡ true
no_blanks ds h = list_all_weaker is_ascii_digit (λ b. not (is_blank b)) (λ b d. ap not (digit-no_blank b d)) ds h

pub number_is : (n : ℕ) → n < 10 ^ 18 → number_in (decimal n) ≡ Some n
number_is n below = by_zero (has_leading_zero (decimal n)) (decimal_is_read n below)
  where
    by_zero : (b : Bool) → cond b None (number_in (decimal n)) ≡ Some n → number_in (decimal n) ≡ Some n
    by_zero true h = absurd cc
    by_zero false h = h

digit_apart : (b c : ℕ) → c < 48 → is_ascii_digit b ≡ true → eqb b c ≡ false
digit_apart b c small h = let above = leb-true 48 b (and_parts (leb 48 b) (leb b 57) h).0 in ne_eqb b c
    (λ e. omega (arith, above, small, e))

no_comment : (ds : List ℕ) → list_all is_ascii_digit ds ≡ true → is_comment ds ≡ false
no_comment [] h = refl
no_comment (d ∷ ds) h =
    let digit = (and_parts (is_ascii_digit d) (list_all is_ascii_digit ds) h).0 in
    let below = leb-true d 57 (and_parts (leb 48 d) (leb d 57) digit).1 in
    ne_eqb d 99 (λ e. omega (arith, below, e))

some_bytes : (ds : List ℕ) → 0 < length ds → has_bytes ds ≡ true
some_bytes [] some = absurd (omega arith)
some_bytes (d ∷ ds) some = refl

positive_means : (ds : List ℕ) (n : ℕ) → list_all is_ascii_digit ds ≡ true → 0 < length ds → number_in ds ≡ Some n →
    signed_number_in ds ≡ Some (pos n)
positive_means [] n digits some is = absurd (omega (arith, some))
positive_means (d ∷ ds) n digits some is =
    ap (λ t. cond t (option_and_then opposite (number_in ds)) (option_map pos (number_in (d ∷ ds))))
    (digit_apart d 45 (omega arith) (and_parts (is_ascii_digit d) (list_all is_ascii_digit ds) digits).0)
    ∙ ap (option_map pos) is

pub decimal_means : (n : ℕ) → n < 10 ^ 18 → Means (decimal n) (pos n)
decimal_means n below =
    let small : n < 2 ^ 64 = omega (arith, below) in
    let digits = decimal_digits n small in
    let some = decimal_nonempty n small in
    record {
      some = some_bytes (decimal n) some;
      whole = no_blanks (decimal n) digits;
      begins = no_comment (decimal n) digits;
      value = positive_means (decimal n) n digits some (number_is n below);
    }

pub zero_means : Means (codes "0") (pos 0)
zero_means = record { some = refl; whole = refl; begins = refl; value = refl }

negative_means : (n : ℕ) → n + 1 < 10 ^ 18 → Means (45 ∷ decimal (n + 1)) (negsuc n)
negative_means n below =
    let small : n + 1 < 2 ^ 64 = omega (arith, below) in
    let next : n + 1 ≡ suc n = omega arith in
    record {
      some = refl;
      whole = no_blanks (decimal (n + 1)) (decimal_digits (n + 1) small);
      begins = refl;
      value = ap (option_and_then opposite) (number_is (n + 1) below) ∙ ap opposite next;
    }

pub literal_means : (l : Lit) → l.index + 1 < 10 ^ 18 → Means (literal_word l) (signed_number_of l)
literal_means l below = by_sign l.positive
  where
    next : l.index + 1 ≡ suc l.index
    next = omega arith

    by_sign : (p : Bool) → Means (cond p [] (codes "-") ++ decimal (l.index + 1)) (cond p (pos (suc l.index)) (negsuc l.index))
    by_sign true = subst (λ n. Means (decimal (l.index + 1)) (pos n)) next (decimal_means (l.index + 1) below)
    by_sign false = negative_means l.index below

-- ---- lists

-- each member is written as a word that means its number
abbrev pub EachMeans : {X : Type 0} → (X → List ℕ) → (X → ℤ) → List X → Type 0
EachMeans word value members = AllByRecursion (λ m. Means (word m) (value m)) members

-- a word, a space, and the rest of a list
first_word : (word list end rest : List ℕ) → (((word ++ 32 ∷ []) ++ list) ++ end) ++ rest ≡ word ++ 32 ∷ ((list ++ end) ++ rest)
first_word word list end rest = simp append_assoc refl

pub list_words : {X : Type 0} (word : X → List ℕ) (value : X → ℤ) (members : List X) (rest : List ℕ) → EachMeans word value members →
    IsWordEnd rest → words (ended_list word members ++ rest) ≡ map word members ++ (codes "0" ∷ words rest)
list_words word value [] rest each end = words_word (codes "0") rest refl refl end
list_words word value (m ∷ ms) rest each end =
    ap words (first_word (word m) (flat_map (λ x. word x ++ codes " ") ms) (codes "0") rest)
    ∙ (words_word (word m) (32 ∷ (ended_list word ms ++ rest)) each.0.some each.0.whole refl
    ∙ ap (λ ws. word m ∷ ws) (list_words word value ms rest each.1 end))

pub list_values : {X : Type 0} (word : X → List ℕ) (value : X → ℤ) (members : List X) (rest : List (List ℕ)) (ns : List ℤ) →
    EachMeans word value members → all_there (map signed_number_in rest) ≡ Some ns →
    all_there (map signed_number_in (map word members ++ (codes "0" ∷ rest))) ≡ Some (map value members ++ (pos 0 ∷ ns))
list_values word value [] rest ns each is = ap (option_map (λ xs. pos 0 ∷ xs)) is
list_values word value (m ∷ ms) rest ns each is =
    ap (λ o. all_there (o ∷ map signed_number_in (map word ms ++ (codes "0" ∷ rest)))) each.0.value
    ∙ ap (option_map (λ xs. value m ∷ xs)) (list_values word value ms rest ns each.1 is)

-- no line feed stands in a word
in_line : (b : ℕ) → not (is_blank b) ≡ true → is_line_byte b ≡ true
in_line b h = ap not (ne_eqb b 10 (λ e. true≢false (sym h ∙ ap (λ c. not (is_blank c)) e)))

pub word_is_line : (word : List ℕ) → is_word word ≡ true → is_line word ≡ true
word_is_line word h = list_all_weaker (λ b. not (is_blank b)) is_line_byte in_line word h

pub list_is_line : {X : Type 0} (word : X → List ℕ) (value : X → ℤ) (members : List X) (rest : List ℕ) → EachMeans word value members →
    is_line rest ≡ true → is_line (ended_list word members ++ rest) ≡ true
list_is_line word value [] rest each h = h
list_is_line word value (m ∷ ms) rest each h =
    ap is_line (first_word (word m) (flat_map (λ x. word x ++ codes " ") ms) (codes "0") rest)
    ∙ (list_all-append is_line_byte (word m) (32 ∷ (ended_list word ms ++ rest))
    ∙ and_from (is_line (word m)) (is_line (32 ∷ (ended_list word ms ++ rest))) (word_is_line (word m) each.0.whole)
    (list_is_line word value ms rest each.1 h))

-- a line that begins with such a word is no comment
pub front_no_comment : (word rest : List ℕ) → has_bytes word ≡ true → is_comment word ≡ false → is_comment (word ++ rest) ≡ false
front_no_comment [] rest some h = absurd cc
front_no_comment (b ∷ bs) rest some h = h

pub list_no_comment : {X : Type 0} (word : X → List ℕ) (value : X → ℤ) (members : List X) (rest : List ℕ) → EachMeans word value members →
    is_comment (ended_list word members ++ rest) ≡ false
list_no_comment word value [] rest each = refl
list_no_comment word value (m ∷ ms) rest each =
    ap is_comment (first_word (word m) (flat_map (λ x. word x ++ codes " ") ms) (codes "0") rest)
    ∙ front_no_comment (word m) (32 ∷ (ended_list word ms ++ rest)) each.0.some each.0.begins
