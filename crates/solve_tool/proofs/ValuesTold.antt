-- The values that the text of an assignment tells.
use Rattle.std.proofs.Common.{◌≡◌, ℕ, suc, ◌+◌, ◌<◌, ◌^◌, ◌%◌, Bool, true, false, cond, eqb, ℤ, pos, List, [], ◌∷◌, ◌++◌}
use Rattle.std.proofs.Common.{map, flat_map, length, codes, refl, sym, ap, ◌∙◌, arith, append_assoc, append-nil}
use Rattle.std.specs.Prelude.{filter_map}
use Rattle.std.specs.List.{AllByRecursion, cons_option}
use Rattle.std.proofs.lemmas.Bool.{and_from}
use Rattle.std.proofs.lemmas.List.Elements.{filter_map-append}
use Rattle.std.proofs.lemmas.List.Folds.{list_all-append}
use Rattle.tsl_text.specs.Lines.{has_bytes, is_line_byte, words}
use Rattle.tsl_text.specs.Numbers.{signed_number_in}
use Rattle.tsl_text.specs.Written.{is_line}
use Rattle.tsl_text.proofs.FieldLaws.{IsWordEnd, is_word, words_word}
use Rattle.tsl_text.proofs.LineLaws.{lines_feed}
use Rattle.clause_core.specs.Literals.{Lit, signed_number_of}
use Rattle.refutation_text.specs.Written.{literal_word}
use Rattle.refutation_text.proofs.Words.{Means, literal_means, word_is_line}
use Rattle.solve_tool.specs.Values.{value_lines, satisfiable_text, values_of_words, values_of_line, told_values, told_literals}

-- words, a space before each
abbrev spaced : List (List ℕ) → List ℕ
spaced ws = flat_map (λ w. 32 ∷ w) ws

record IsWord (w : List ℕ) : Type 0 where
  some : has_bytes w ≡ true
  whole : is_word w ≡ true

abbrev AreWords : List (List ℕ) → Type 0
AreWords ws = AllByRecursion IsWord ws

spaced_end : (ws : List (List ℕ)) → IsWordEnd (spaced ws)
spaced_end [] = tt
spaced_end (w ∷ ws) = refl

spaced_words : (ws : List (List ℕ)) → AreWords ws → words (spaced ws) ≡ ws
spaced_words [] each = refl
spaced_words (w ∷ ws) each =
    words_word w (spaced ws) each.0.some each.0.whole (spaced_end ws) ∙ ap (λ rest. w ∷ rest) (spaced_words ws each.1)

spaced_line : (ws : List (List ℕ)) → AreWords ws → is_line (spaced ws) ≡ true
spaced_line [] each = refl
spaced_line (w ∷ ws) each =
    list_all-append is_line_byte w (spaced ws)
    ∙ and_from (is_line w) (is_line (spaced ws)) (word_is_line w each.0.whole) (spaced_line ws each.1)

-- a line of values
abbrev value_line : List (List ℕ) → List ℕ
value_line ws = 118 ∷ spaced ws

line_tells : (ws : List (List ℕ)) → AreWords ws → values_of_line (value_line ws) ≡ filter_map signed_number_in ws
line_tells ws each =
    ap values_of_words (words_word (118 ∷ []) (spaced ws) refl refl (spaced_end ws) ∙ ap (λ rest. (118 ∷ []) ∷ rest) (spaced_words ws each))

-- the first line of a text
first_told : (line rest : List ℕ) → is_line line ≡ true → told_values (line ++ 10 ∷ rest) ≡ values_of_line line ++ told_values rest
first_told line rest h = ap (flat_map values_of_line) (lines_feed line rest h)

push_words : (ws : List (List ℕ)) (w : List ℕ) → AreWords ws → IsWord w → AreWords (ws ++ w ∷ [])
push_words [] w each here = (here, tt)
push_words (v ∷ vs) w each here = (each.0, push_words vs w each.1 here)

spaced_push : (ws : List (List ℕ)) (w : List ℕ) → spaced (ws ++ w ∷ []) ≡ spaced ws ++ 32 ∷ w
spaced_push [] w = ap (λ xs. 32 ∷ xs) (append-nil w)
spaced_push (v ∷ vs) w = ap (λ xs. 32 ∷ (v ++ xs)) (spaced_push vs w) ∙ ap (λ xs. 32 ∷ xs) (sym (append_assoc v (spaced vs) (32 ∷ w)))

abbrev numbers_from : ℕ → List Bool → List ℤ
numbers_from place truths = map signed_number_of (told_literals place truths) ++ pos 0 ∷ []

-- the text behind a line of values that has these words so far
told_behind : (ws : List (List ℕ)) (place : ℕ) (truths : List Bool) → AreWords ws → place + length truths < 10 ^ 18 →
    told_values (value_line ws ++ value_lines place truths) ≡ filter_map signed_number_in ws ++ numbers_from place truths
told_behind ws place [] each few =
    first_told (value_line ws) (codes "v 0\n") (spaced_line ws each) ∙ ap (λ ns. ns ++ pos 0 ∷ []) (line_tells ws each)
told_behind ws place (t ∷ ts) each few =
    by_place (eqb (place % 8) 0)
    (told_behind (word ∷ []) (suc place) ts (is_literal, tt) (omega (arith, few)))
    (told_behind (ws ++ word ∷ []) (suc place) ts (push_words ws word each is_literal) (omega (arith, few)))
  where
    l : Lit
    l = record { index = place; positive = t }

    word : List ℕ
    word = literal_word l

    means : Means word (signed_number_of l)
    means = literal_means l (omega (arith, few))

    is_literal : IsWord word
    is_literal = record { some = means.some; whole = means.whole }

    rest : List ℕ
    rest = value_lines (suc place) ts

    one : filter_map signed_number_in (word ∷ []) ≡ signed_number_of l ∷ []
    one = ap (λ o. cons_option o []) means.value

    by_place : (b : Bool) → told_values (value_line (word ∷ []) ++ rest) ≡ filter_map signed_number_in (word ∷ []) ++ numbers_from (suc place) ts →
        told_values (value_line (ws ++ word ∷ []) ++ rest) ≡ filter_map signed_number_in (ws ++ word ∷ []) ++ numbers_from (suc place) ts →
        told_values (value_line ws ++ (((cond b (codes "\nv") [] ++ codes " ") ++ word) ++ rest))
        ≡ filter_map signed_number_in ws ++ (signed_number_of l ∷ numbers_from (suc place) ts)
    by_place true new further =
        let text : ((codes "\nv" ++ codes " ") ++ word) ++ rest ≡ 10 ∷ (value_line (word ∷ []) ++ rest) =
        ap (λ xs. 10 ∷ 118 ∷ 32 ∷ (xs ++ rest)) (sym (append-nil word)) in
        ap (λ xs. told_values (value_line ws ++ xs)) text
        ∙ (first_told (value_line ws) (value_line (word ∷ []) ++ rest) (spaced_line ws each)
        ∙ (ap (λ ns. ns ++ told_values (value_line (word ∷ []) ++ rest)) (line_tells ws each)
        ∙ ap (λ ns. filter_map signed_number_in ws ++ ns) (new ∙ ap (λ ns. ns ++ numbers_from (suc place) ts) one)))
    by_place false new further =
        let text : value_line ws ++ ((codes " " ++ word) ++ rest) ≡ value_line (ws ++ word ∷ []) ++ rest =
        ap (λ xs. 118 ∷ xs) (sym (append_assoc (spaced ws) (32 ∷ word) rest) ∙ ap (λ xs. xs ++ rest) (sym (spaced_push ws word))) in
        ap told_values text
        ∙ (further
        ∙ (ap (λ ns. ns ++ numbers_from (suc place) ts)
        (filter_map-append signed_number_in ws (word ∷ []) ∙ ap (λ ns. filter_map signed_number_in ws ++ ns) one)
        ∙ append_assoc (filter_map signed_number_in ws) (signed_number_of l ∷ []) (numbers_from (suc place) ts)))

pub values_are_told : (truths : List Bool) → length truths < 10 ^ 18 →
    told_values (satisfiable_text truths) ≡ map signed_number_of (told_literals 0 truths) ++ pos 0 ∷ []
values_are_told [] few = refl
values_are_told (t ∷ ts) few =
    let l : Lit = record { index = 0; positive = t } in
    let means = literal_means l (omega arith) in
    let text : satisfiable_text (t ∷ ts) ≡ codes "s SATISFIABLE" ++ 10 ∷ (value_line (literal_word l ∷ []) ++ value_lines 1 ts) =
    ap (λ xs. codes "s SATISFIABLE\nv " ++ (xs ++ value_lines 1 ts)) (sym (append-nil (literal_word l))) in
    ap told_values text
    ∙ (first_told (codes "s SATISFIABLE") (value_line (literal_word l ∷ []) ++ value_lines 1 ts) refl
    ∙ (told_behind (literal_word l ∷ []) 1 ts (record { some = means.some; whole = means.whole }, tt) (omega (arith, few))
    ∙ ap (λ o. cons_option o [] ++ numbers_from 1 ts) means.value))
