-- Labels, part by part.
use Rattle.std.proofs.Common.{◌≡◌, ◌∙◌, ℕ, suc, Bool, true, false, ◌&&◌, eqb, leb, List, [], ◌∷◌, ◌++◌, length, Option, Some, None}
use Rattle.std.proofs.Common.{refl, sym, ap, append_assoc, append-nil, arith, codes, inl, inr}
use Rattle.std.specs.Prelude.{option_map, if◌then◌else◌}
use Rattle.std.proofs.lemmas.List.{map-append}
use Rattle.std.proofs.lemmas.Bool.{and_parts, eq-eqb, eqb-true, false_from_ne_true, leb-true}
use Rattle.std.proofs.lemmas.Option.{none-some}
use Rattle.std.proofs.Math.Bool.{or-false}
use Rattle.line_formats.specs.Format.{fixed, leaf, nothing, has, one_byte, strip, at_end, mapped, chosen, then_read, with_first, read, value_of_line}
use Rattle.line_formats.specs.Leaves.{first_number}
use Rattle.line_formats.proofs.FormatLaws.{IsLeaf, sound, first, again, print_is_line, strip_sound, many_more, many_none, many_end}
use Rattle.line_formats.proofs.LeafLaws.{number_is_leaf}
use Rattle.automaton_text.specs.HoaLines.{One, Numbers, number_leaves, literal_line, literal, Literals, literal_leaves, LiteralValue}
use Rattle.automaton_text.specs.HoaLines.{next_literal, more_literals, LiteralTree, literal_of, further_literals, literals_of, literals_in}
use Rattle.automaton_text.specs.HoaView.{literal_tree, literal_trees, literal_value}
use Rattle.automaton_text.specs.declared.literals.Literal.{Literal}

pub number_law : (i : One) → IsLeaf (number_leaves i)
number_law i = number_is_leaf

pub literal_is_leaf : IsLeaf literal
literal_is_leaf = record {
  sound = sound Numbers number_leaves number_law literal_line;
  first = first Numbers number_leaves number_law literal_line refl;
  again = again Numbers number_leaves number_law literal_line refl;
  no_feed = print_is_line Numbers number_leaves number_law literal_line refl;
}

pub literal_law : (i : One) → IsLeaf (literal_leaves i)
literal_law i = literal_is_leaf

-- the only byte of a set of one
pub only_byte : (n b : ℕ) → has (one_byte n) b ≡ true → b ≡ n
only_byte n b e =
    let parts = and_parts (leb n b) (leb b n) (sym (or-false (leb n b && leb b n)) ∙ e) in
    omega (arith, leb-true n b parts.0, leb-true b n parts.1)

-- a byte that does not stand first
pub not_first : (n b : ℕ) (bs : List ℕ) → strip (n ∷ []) (b ∷ bs) ≡ None → has (one_byte n) b ≡ false
not_first n b bs h =
    false_from_ne_true (has (one_byte n) b)
    (λ e. let found = ap (λ t. if t then Some bs else None) (eq-eqb n b (sym (only_byte n b e))) in absurd (none-some bs (sym h ∙ found)))

-- ---- one literal

abbrev then_end : Option (ℕ × List ℕ) → Option ((ℕ × Unit {0}) × List ℕ)
then_end o = then_read o (λ bs. Some (tt, bs))

negative : (bytes rest : List ℕ) → strip (codes "!") bytes ≡ Some rest →
    read Numbers number_leaves literal_line bytes ≡ mapped inl (then_end (first_number rest))
negative bytes rest h = ap (read Numbers number_leaves literal_line) (strip_sound (codes "!") bytes rest h)

positive : (bytes : List ℕ) → strip (codes "!") bytes ≡ None →
    read Numbers number_leaves literal_line bytes ≡ mapped inr (then_end (first_number bytes))
positive [] h = refl
positive (b ∷ bs) h =
    ap (λ t. chosen t (read Numbers number_leaves (fixed (codes "!") (leaf tt nothing)) (b ∷ bs)) (then_end (first_number (b ∷ bs))))
    (not_first 33 b bs h)

pub negative_some : (bytes rest after : List ℕ) (n : ℕ) → strip (codes "!") bytes ≡ Some rest → first_number rest ≡ Some (n, after) →
    read Numbers number_leaves literal_line bytes ≡ Some (inl (n, tt), after)
negative_some bytes rest after n h k = negative bytes rest h ∙ ap (λ o. mapped inl (then_end o)) k

pub negative_none : (bytes rest : List ℕ) → strip (codes "!") bytes ≡ Some rest → first_number rest ≡ None →
    read Numbers number_leaves literal_line bytes ≡ None
negative_none bytes rest h k = negative bytes rest h ∙ ap (λ o. mapped inl (then_end o)) k

pub positive_some : (bytes after : List ℕ) (n : ℕ) → strip (codes "!") bytes ≡ None → first_number bytes ≡ Some (n, after) →
    read Numbers number_leaves literal_line bytes ≡ Some (inr (n, tt), after)
positive_some bytes after n h k = positive bytes h ∙ ap (λ o. mapped inr (then_end o)) k

pub positive_none : (bytes : List ℕ) → strip (codes "!") bytes ≡ None → first_number bytes ≡ None →
    read Numbers number_leaves literal_line bytes ≡ None
positive_none bytes h k = positive bytes h ∙ ap (λ o. mapped inr (then_end o)) k

abbrev pub as_value : LiteralTree → LiteralValue
as_value l = if l.wanted then inr (l.bit, tt) else inl (l.bit, tt)

pub value_is : (l : LiteralTree) → literal_of (as_value l) ≡ l
value_is l = by l.wanted where
  by : (w : Bool) → literal_of (if w then inr (l.bit, tt) else inl (l.bit, tt)) ≡ record { bit = l.bit; wanted = w }
  by true = refl
  by false = refl

-- ---- the whole label

abbrev rest_of_label : List ℕ → Option (List (LiteralValue × Unit {0}) × Unit {0})
rest_of_label bytes = value_of_line Literals literal_leaves more_literals bytes

pub no_literals : (bytes rest : List ℕ) → strip (codes "t") bytes ≡ Some rest → eqb (length rest) 0 ≡ true → literals_in bytes ≡ Some []
no_literals bytes [] h none = ap literals_in (strip_sound (codes "t") bytes [] h)
no_literals bytes (b ∷ bs) h none = absurd (omega (arith, eqb-true (suc (length bs)) 0 none))

pub wrong_empty : (bytes rest : List ℕ) → strip (codes "t") bytes ≡ Some rest → eqb (length rest) 0 ≡ false → literals_in bytes ≡ None
wrong_empty bytes [] h some = absurd cc
wrong_empty bytes (b ∷ bs) h some = ap literals_in (strip_sound (codes "t") bytes (b ∷ bs) h)

no_t : (bytes : List ℕ) → strip (codes "t") bytes ≡ None →
    literals_in bytes
    ≡ option_map literals_of (at_end (mapped inr (then_read (literal.read bytes) (read Literals literal_leaves more_literals))))
no_t [] h = refl
no_t (b ∷ bs) h =
    ap (λ t. option_map literals_of (at_end (chosen t (read Literals literal_leaves (fixed (codes "t") nothing) (b ∷ bs))
    (then_read (literal.read (b ∷ bs)) (read Literals literal_leaves more_literals)))))
    (not_first 116 b bs h)

pub some_literals : (bytes rest : List ℕ) (l : Literal) → strip (codes "t") bytes ≡ None →
    read Numbers number_leaves literal_line bytes ≡ Some (literal_value l, rest) →
    literals_in bytes ≡ option_map (λ v. literal_tree l ∷ further_literals v) (value_of_line Literals literal_leaves more_literals rest)
some_literals bytes rest l h k =
    no_t bytes h
    ∙ ap (λ o. option_map literals_of (at_end (mapped inr (then_read o (read Literals literal_leaves more_literals))))) k
    ∙ by (read Literals literal_leaves more_literals rest)
    ∙ ap (λ t. option_map (λ v. t ∷ further_literals v) (value_of_line Literals literal_leaves more_literals rest))
    (value_is (literal_tree l))
  where
    by : (o : Option ((List (LiteralValue × Unit {0}) × Unit {0}) × List ℕ)) →
        option_map literals_of (at_end (mapped inr (with_first (literal_value l) o)))
        ≡ option_map (λ v. literal_of (literal_value l) ∷ further_literals v) (at_end o)
    by None = refl
    by (Some (v, [])) = refl
    by (Some (v, b ∷ bs)) = refl

pub wrong_first : (bytes : List ℕ) → strip (codes "t") bytes ≡ None → read Numbers number_leaves literal_line bytes ≡ None →
    literals_in bytes ≡ None
wrong_first bytes h k =
    no_t bytes h ∙ ap (λ o. option_map literals_of (at_end (mapped inr (then_read o (read Literals literal_leaves more_literals))))) k

-- ---- literals to the end

-- these literals before those that are left
abbrev pub with_front : List LiteralTree → Option (List (LiteralValue × Unit {0}) × Unit {0}) → Option (List LiteralTree)
with_front ls o = option_map (λ v. ls ++ further_literals v) o

pub one_more : (old new : List Literal) (l : Literal) (bytes rest : List ℕ) (whole : Option (List LiteralTree)) → new ≡ old ++ l ∷ [] →
    read Literals literal_leaves next_literal bytes ≡ Some ((literal_value l, tt), rest) →
    with_front (literal_trees old) (value_of_line Literals literal_leaves more_literals bytes) ≡ whole →
    with_front (literal_trees new) (value_of_line Literals literal_leaves more_literals rest) ≡ whole
one_more old new l bytes rest whole grown h so_far =
    ap (λ ls. with_front (literal_trees ls) (rest_of_label rest)) grown
    ∙ by (rest_of_label rest)
    ∙ ap (with_front (literal_trees old))
    (sym (many_more Literals literal_leaves literal_law next_literal refl refl bytes rest (literal_value l, tt) h))
    ∙ so_far
  where
    by : (o : Option (List (LiteralValue × Unit {0}) × Unit {0})) →
        with_front (literal_trees (old ++ l ∷ [])) o ≡ with_front (literal_trees old) (option_map (λ v. ((literal_value l, tt) ∷ v.0, v.1)) o)
    by None = refl
    by (Some v) =
        ap (λ xs. Some (xs ++ further_literals v)) (map-append literal_tree old (l ∷ []))
        ∙ ap Some (append_assoc (literal_trees old) (literal_tree l ∷ []) (further_literals v))
        ∙ ap (λ t. Some (literal_trees old ++ t ∷ further_literals v)) (sym (value_is (literal_tree l)))

pub none_more : (ls : List LiteralTree) (bytes : List ℕ) (whole : Option (List LiteralTree)) → eqb (length bytes) 0 ≡ false →
    read Literals literal_leaves next_literal bytes ≡ None →
    with_front ls (value_of_line Literals literal_leaves more_literals bytes) ≡ whole → whole ≡ None
none_more ls [] whole some h so_far = absurd cc
none_more ls (b ∷ bs) whole some h so_far =
    sym so_far ∙ ap (with_front ls) (many_none Literals literal_leaves literal_law next_literal b bs h)

pub all_read : (ls : List LiteralTree) (bytes : List ℕ) (whole : Option (List LiteralTree)) → eqb (length bytes) 0 ≡ true →
    with_front ls (value_of_line Literals literal_leaves more_literals bytes) ≡ whole → whole ≡ Some ls
all_read ls [] whole none so_far =
    sym so_far ∙ ap (with_front ls) (many_end Literals literal_leaves literal_law next_literal) ∙ ap Some (append-nil ls)
all_read ls (b ∷ bs) whole none so_far = absurd (omega (arith, eqb-true (suc (length bs)) 0 none))
