-- Lines of automata and what they say are each other's.
use Rattle.std.proofs.Common.{◌≡◌, ◌∙◌, ℕ, ◌<◌, Bool, true, false, ◌&&◌, ltb, List, [], ◌∷◌, ◌++◌, length, map}
use Rattle.std.proofs.Common.{Option, Some, None, refl, sym, ap, append_assoc, append-nil, codes, inl, inr}
use Rattle.std.specs.Prelude.{option_map, flat_map, decimal, if◌then◌else◌}
use Rattle.std.specs.List.{list_all, AllByRecursion}
use Rattle.std.proofs.lemmas.Bool.{and_from, lt-ltb}
use Rattle.std.proofs.Math.Bool.{and-true}
use Rattle.line_formats.specs.Format.{Value, fits, print, value_of_line}
use Rattle.line_formats.proofs.FormatLaws.{line_read, line_written}
use Rattle.automaton_text.specs.HoaText.{number_bound, is_quotable, joined, mark_text, states_text, state_text, quoted_text, bits_text}
use Rattle.automaton_text.specs.internal.Marks.{mark_value}
use Rattle.automaton_text.specs.HoaLines.{PartValue, leaves, states_line, state_line, edge_line, mark, is_marked, quoted_name}
use Rattle.automaton_text.specs.HoaLines.{bits_line, line_text, quoted_names, Numbers, number_leaves, literal_line}
use Rattle.automaton_text.specs.HoaLines.{Literals, literal_leaves, LiteralValue, next_literal, label_line, LiteralTree}
use Rattle.automaton_text.specs.HoaLines.{literal_of, literals_of, literals_in}
use Rattle.automaton_text.proofs.LabelBits.{text_of_literal}
use Rattle.automaton_text.proofs.LiteralLines.{literal_law, as_value, value_is}

-- ---- labels

print_literal : (v : LiteralValue) → print Numbers number_leaves literal_line v ≡ text_of_literal (literal_of v)
print_literal (inl v) = ap (λ xs. codes "!" ++ xs) (append-nil (decimal v.0))
print_literal (inr v) = append-nil (decimal v.0)

print_more : (vs : List (LiteralValue × Unit {0})) →
    flat_map (print Literals literal_leaves next_literal) vs
    ≡ flat_map (λ m. codes "&" ++ m) (map text_of_literal (map (λ (m : LiteralValue × Unit {0}). literal_of m.0) vs))
print_more [] = refl
print_more (v ∷ vs) =
    λ i. (codes "&" ++ (append-nil (print Numbers number_leaves literal_line v.0) ∙ print_literal v.0) i) ++ print_more vs i

print_label : (v : Value Literals label_line) →
    print Literals literal_leaves label_line v ≡ joined (map text_of_literal (literals_of v))
print_label (inl v) = refl
print_label (inr v) =
    λ i. print_literal v.0 i
    ++ (append-nil (flat_map (print Literals literal_leaves next_literal) v.1.0) ∙ print_more v.1.0) i

pub label_written : (bytes : List ℕ) (ls : List LiteralTree) → literals_in bytes ≡ Some ls → bytes ≡ joined (map text_of_literal ls)
label_written bytes ls h = by (value_of_line Literals literal_leaves label_line bytes) refl h where
  by : (o : Option (Value Literals label_line)) → value_of_line Literals literal_leaves label_line bytes ≡ o →
      option_map literals_of o ≡ Some ls → bytes ≡ joined (map text_of_literal ls)
  by None e k = absurd cc
  by (Some v) e k =
      let same : literals_of v ≡ ls = cc in
      (line_written Literals literal_leaves literal_law label_line bytes v e).0 ∙ print_label v
      ∙ ap (λ xs. joined (map text_of_literal xs)) same

value_fits : (l : LiteralTree) → l.bit < number_bound → fits Numbers number_leaves literal_line (as_value l) ≡ true
value_fits l short = by l.wanted where
  by : (w : Bool) → fits Numbers number_leaves literal_line (if w then inr (l.bit, tt) else inl (l.bit, tt)) ≡ true
  by true = and_from (ltb l.bit number_bound) true (lt-ltb l.bit number_bound short) refl
  by false = and_from (ltb l.bit number_bound) true (lt-ltb l.bit number_bound short) refl

abbrev as_values : List LiteralTree → List (LiteralValue × Unit {0})
as_values ls = map (λ l. (as_value l, tt)) ls

values_are : (ls : List LiteralTree) → map (λ (m : LiteralValue × Unit {0}). literal_of m.0) (as_values ls) ≡ ls
values_are [] = refl
values_are (l ∷ ls) = λ i. value_is l i ∷ values_are ls i

values_fit : (ls : List LiteralTree) → AllByRecursion (λ l. l.bit < number_bound) ls →
    list_all (fits Literals literal_leaves next_literal) (as_values ls) ≡ true
values_fit [] all = refl
values_fit (l ∷ ls) all =
    and_from (fits Literals literal_leaves next_literal (as_value l, tt)) (list_all (fits Literals literal_leaves next_literal) (as_values ls))
    (and_from (fits Numbers number_leaves literal_line (as_value l)) true (value_fits l all.0) refl) (values_fit ls all.1)

pub label_read : (ls : List LiteralTree) → AllByRecursion (λ l. l.bit < number_bound) ls →
    literals_in (joined (map text_of_literal ls)) ≡ Some ls
label_read [] all = refl
label_read (l ∷ ls) all =
    let fit : fits Literals literal_leaves label_line (inr (as_value l, (as_values ls, tt))) ≡ true =
    and_from (fits Numbers number_leaves literal_line (as_value l))
    (list_all (fits Literals literal_leaves next_literal) (as_values ls) && true) (value_fits l all.0)
    (and_from (list_all (fits Literals literal_leaves next_literal) (as_values ls)) true (values_fit ls all.1) refl) in
    let are : literals_of (inr (as_value l, (as_values ls, tt))) ≡ l ∷ ls = λ i. value_is l i ∷ values_are ls i in
    ap (λ xs. literals_in (joined (map text_of_literal xs))) (sym are)
    ∙ ap literals_in (sym (print_label (inr (as_value l, (as_values ls, tt)))))
    ∙ ap (option_map literals_of)
    (line_read Literals literal_leaves literal_law label_line refl (inr (as_value l, (as_values ls, tt))) fit)
    ∙ ap Some are

-- ---- lines of one number

pub states_print : (n : ℕ) → line_text states_line (n, tt) ≡ states_text n
states_print n = ap (λ xs. codes "States: " ++ xs) (append-nil (decimal n))

pub state_print : (n : ℕ) → line_text state_line (n, tt) ≡ state_text n
state_print n = ap (λ xs. codes "State: " ++ xs) (append-nil (decimal n))

-- ---- the line of the bits

abbrev pub as_quoted : List (List ℕ) → List (List ℕ × Unit {0})
as_quoted names = map (λ n. (n, tt)) names

pub names_are : (names : List (List ℕ)) → map (λ (n : List ℕ × Unit {0}). n.0) (as_quoted names) ≡ names
names_are [] = refl
names_are (n ∷ names) = ap (λ xs. n ∷ xs) (names_are names)

print_quoted : (vs : List (List ℕ × Unit {0})) →
    flat_map (print PartValue leaves quoted_name) vs ≡ flat_map quoted_text (map (λ (n : List ℕ × Unit {0}). n.0) vs)
print_quoted [] = refl
print_quoted (v ∷ vs) = ap (λ xs. quoted_text v.0 ++ xs) (print_quoted vs)

-- names between quotes fit where none has a quote
pub quoted_fit : (vs : List (List ℕ × Unit {0})) →
    list_all (fits PartValue leaves quoted_name) vs ≡ list_all is_quotable (map (λ (n : List ℕ × Unit {0}). n.0) vs)
quoted_fit [] = refl
quoted_fit (v ∷ vs) = λ i. (and-true (is_quotable v.0 && true) ∙ and-true (is_quotable v.0)) i && quoted_fit vs i

pub bits_print : (v : Value PartValue bits_line) → v.0 ≡ length (quoted_names v.1) → line_text bits_line v ≡ bits_text (quoted_names v.1)
bits_print v count =
    ap (λ xs. codes "AP: " ++ (decimal v.0 ++ xs)) (append-nil (flat_map (print PartValue leaves quoted_name) v.1.0) ∙ print_quoted v.1.0)
    ∙ ap (λ n. codes "AP: " ++ (decimal n ++ flat_map quoted_text (quoted_names v.1))) count

-- ---- the line of an edge

pub mark_is : (r : Bool) → is_marked (mark_value r) ≡ r
mark_is true = refl
mark_is false = refl

pub mark_print : (v : Value PartValue mark) → line_text mark v ≡ mark_text (is_marked v)
mark_print (inl v) = refl
mark_print (inr v) = refl

pub edge_print : (label : List ℕ) (to : ℕ) (m : Value PartValue mark) →
    line_text edge_line (label, (to, m)) ≡ codes "[" ++ label ++ codes "] " ++ decimal to ++ mark_text (is_marked m)
edge_print label to m =
    ap (λ xs. codes "[" ++ (label ++ (codes "] " ++ (decimal to ++ xs)))) (mark_print m)
    ∙ flat (codes "[") label (codes "] ") (decimal to) (mark_text (is_marked m))
  where
    flat : (a b c d e : List ℕ) → a ++ (b ++ (c ++ (d ++ e))) ≡ a ++ b ++ c ++ d ++ e
    flat a b c d e = sym (simp append_assoc refl)
