-- Lines of letters, part by part.
use Rattle.std.proofs.Common.{◌≡◌, ℕ, suc, Bool, true, false, ◌&&◌, ◌||◌, eqb, leb, List, [], ◌∷◌, ◌++◌, length, map, Option, Some, None}
use Rattle.std.proofs.Common.{refl, sym, ap, ◌∙◌, append_assoc, append-nil, arith, codes}
use Rattle.std.proofs.Common.{inl, inr}
use Rattle.std.specs.Prelude.{option_and_then, option_map}
use Rattle.std.proofs.lemmas.List.{map-append}
use Rattle.std.proofs.lemmas.Bool.{eqb-true, leb-true}
use Rattle.line_formats.specs.Format.{Value, strip, at_end, mapped, chosen, read}
use Rattle.line_formats.proofs.FormatLaws.{IsLeaf, strip_sound, many_more, many_none, many_end}
use Rattle.line_formats.proofs.LeafLaws.{number_is_leaf}
use Rattle.lasso_text.specs.LetterText.{Part, Numbers, leaves, spaced, numbers, letter_line, back_line, line, line_value, as_members}
use Rattle.lasso_text.specs.LetterText.{State, rise, when, letter_step, back_step, next, step, step_from}
use Rattle.lasso_text.specs.LoopView.{letter_view}
use Rattle.lasso_text.specs.declared.letter_loop.Letter.{Letter}

pub law : (i : Part) → IsLeaf (leaves i)
law i = number_is_leaf

-- ---- numbers to the end of a line

abbrev pub Members : Type 0
Members = List (ℕ × Unit {0}) × Unit {0}

-- these numbers before those that are left
abbrev pub with_front : List ℕ → Option Members → Option Members
with_front ns o = option_map (λ v. (as_members ns ++ v.0, v.1)) o

pub front_nil : (o : Option Members) → with_front [] o ≡ o
front_nil None = refl
front_nil (Some v) = refl

front_more : (ns : List ℕ) (n : ℕ) (o : Option Members) →
    with_front (ns ++ n ∷ []) o ≡ with_front ns (option_map (λ v. ((n, tt) ∷ v.0, v.1)) o)
front_more ns n None = refl
front_more ns n (Some v) =
    ap (λ xs. Some (xs, v.1))
    (ap (λ xs. xs ++ v.0) (map-append (λ k. (k, tt)) ns (n ∷ [])) ∙ append_assoc (as_members ns) ((n, tt) ∷ []) v.0)

pub one_more : (ns more : List ℕ) (n : ℕ) (bytes rest : List ℕ) (whole : Option Members) → more ≡ ns ++ n ∷ [] →
    read Numbers leaves spaced bytes ≡ Some ((n, tt), rest) → with_front ns (line_value numbers bytes) ≡ whole →
    with_front more (line_value numbers rest) ≡ whole
one_more ns more n bytes rest whole grown h so_far =
    ap (λ xs. with_front xs (line_value numbers rest)) grown ∙ front_more ns n (line_value numbers rest)
    ∙ ap (with_front ns) (sym (many_more Numbers leaves law spaced refl refl bytes rest (n, tt) h)) ∙ so_far

pub none_more : (ns bytes : List ℕ) (whole : Option Members) → eqb (length bytes) 0 ≡ false → read Numbers leaves spaced bytes ≡ None →
    with_front ns (line_value numbers bytes) ≡ whole → whole ≡ None
none_more ns [] whole some h so_far = absurd cc
none_more ns (b ∷ bs) whole some h so_far = sym so_far ∙ ap (with_front ns) (many_none Numbers leaves law spaced b bs h)

pub all_read : (ns bytes : List ℕ) (whole : Option Members) → eqb (length bytes) 0 ≡ true →
    with_front ns (line_value numbers bytes) ≡ whole → whole ≡ Some (as_members ns, tt)
all_read ns [] whole none so_far =
    sym so_far ∙ ap (with_front ns) (many_end Numbers leaves law spaced) ∙ ap (λ xs. Some (xs, tt)) (append-nil (as_members ns))
all_read ns (b ∷ bs) whole none so_far = absurd (omega (arith, eqb-true (suc (length bs)) 0 none))

-- ---- which of the two lines it is

end_mapped : {A B : Type 0} (make : A → B) (o : Option (A × List ℕ)) → at_end (mapped make o) ≡ option_map make (at_end o)
end_mapped make None = refl
end_mapped make (Some (a, [])) = refl
end_mapped make (Some (a, b ∷ bs)) = refl

letter_next : (s : State) (o : Option (Value Numbers letter_line)) →
    option_and_then (next s) (option_map inl o) ≡ option_and_then (letter_step s) o
letter_next s None = refl
letter_next s (Some v) = refl

back_next : (s : State) (o : Option (Value Numbers back_line)) →
    option_and_then (next s) (option_map inr o) ≡ option_and_then (back_step s) o
back_next s None = refl
back_next s (Some v) = refl

-- a line that begins as a letter's
pub step_letter : (s : State) (bytes rest : List ℕ) → s.back ≡ None → strip (codes "letter") bytes ≡ Some rest →
    step s bytes ≡ option_and_then (letter_step s) (line_value numbers rest)
step_letter s bytes rest open' h =
    let split = strip_sound (codes "letter") bytes rest h in
    ap (λ o. step_from o s bytes) open'
    ∙ ap (λ zs. option_and_then (next s) (line_value line zs)) split
    ∙ ap (option_and_then (next s)) (end_mapped inl (read Numbers leaves numbers rest))
    ∙ letter_next s (line_value numbers rest)

-- another line
pub step_back : (s : State) (bytes : List ℕ) → s.back ≡ None → strip (codes "letter") bytes ≡ None →
    step s bytes ≡ option_and_then (back_step s) (line_value back_line bytes)
step_back s [] open' h = ap (λ o. step_from o s []) open'
step_back s (b ∷ bs) open' h = ap (λ o. step_from o s (b ∷ bs)) open' ∙ by (has_l b) refl where
  has_l : ℕ → Bool
  has_l b = (leb 108 b && leb b 108) || false

  is_l : (b : ℕ) → has_l b ≡ true → b ≡ 108
  is_l b e = range (leb 108 b) (leb b 108) refl refl e where
    range : (p q : Bool) → leb 108 b ≡ p → leb b 108 ≡ q → ((p && q) || false) ≡ true → b ≡ 108
    range true true f g e = omega (arith, leb-true 108 b f, leb-true b 108 g)
    range true false f g e = absurd cc
    range false q f g e = absurd cc

  by : (t : Bool) → has_l b ≡ t →
      option_and_then (next s)
      (at_end (chosen t (read Numbers leaves letter_line (b ∷ bs)) (read Numbers leaves back_line (b ∷ bs))))
      ≡ option_and_then (back_step s) (line_value back_line (b ∷ bs))
  by true e =
      ap (λ o. option_and_then (next s) (at_end (mapped inl (option_and_then (read Numbers leaves numbers) o)))) h
      ∙ sym (ap (λ c. option_and_then (back_step s) (line_value back_line (c ∷ bs))) (is_l b e))
  by false e =
      ap (option_and_then (next s)) (end_mapped inr (read Numbers leaves back_line (b ∷ bs))) ∙ back_next s (line_value back_line (b ∷ bs))

pub step_ended : (s : State) (bytes : List ℕ) (back : ℕ) → s.back ≡ Some back → step s bytes ≡ None
step_ended s bytes back h = ap (λ o. step_from o s bytes) h

pub same_numbers : (ns : List ℕ) → map (λ (n : ℕ × Unit {0}). n.0) (as_members ns) ≡ ns
same_numbers [] = refl
same_numbers (n ∷ ns) = ap (λ xs. n ∷ xs) (same_numbers ns)

-- ---- a letter that is read

pub letter_wrong : (s : State) (bytes ns : List ℕ) (test : Bool) → line_value numbers bytes ≡ Some (as_members ns, tt) →
    test ≡ rise s.bits 0 ns → test ≡ false → option_and_then (letter_step s) (line_value numbers bytes) ≡ None
letter_wrong s bytes ns test read told h =
    ap (option_and_then (letter_step s)) read
    ∙ ap (λ xs. when (rise s.bits 0 xs) (record s { letters = s.letters ++ xs ∷ [] })) (same_numbers ns)
    ∙ ap (λ b. when b (record s { letters = s.letters ++ ns ∷ [] })) (sym told ∙ h)

pub letter_added : (s : State) (bytes ns : List ℕ) (test : Bool) → line_value numbers bytes ≡ Some (as_members ns, tt) →
    test ≡ rise s.bits 0 ns → test ≡ true → (letters : List (List ℕ)) → letters ≡ s.letters ++ ns ∷ [] →
    option_and_then (letter_step s) (line_value numbers bytes) ≡ Some (record s { letters = letters })
letter_added s bytes ns test read told h letters grown =
    ap (option_and_then (letter_step s)) read
    ∙ ap (λ xs. when (rise s.bits 0 xs) (record s { letters = s.letters ++ xs ∷ [] })) (same_numbers ns)
    ∙ ap (λ b. when b (record s { letters = s.letters ++ ns ∷ [] })) (sym told ∙ h)
    ∙ ap (λ xs. Some (record s { letters = xs })) (sym grown)

pub pushed : (old new : List Letter) (l : Letter) (ns : List ℕ) → new ≡ old ++ l ∷ [] → l.propositions ≡ ns →
    map letter_view new ≡ map letter_view old ++ ns ∷ []
pushed old new l ns grown is =
    ap (map letter_view) grown ∙ map-append letter_view old (l ∷ []) ∙ ap (λ xs. map letter_view old ++ xs ∷ []) is
