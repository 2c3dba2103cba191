-- What reading a loop of letters answers: the loop that is written so, or exactly the first wrong line.
use Rattle.std.proofs.Common.{◌≡◌, ℕ, suc, ◌^◌, ◌<◌, Bool, true, false, ◌&&◌, leb, ltb, List, [], ◌∷◌, ◌++◌, length, map, Option, Some}
use Rattle.std.proofs.Common.{None, Result, Ok, Err, refl, sym, ap, subst, ◌∙◌, append_assoc, append-nil, arith, inl, inr}
use Rattle.std.specs.Prelude.{option_and_then, is_some, if◌then◌else◌}
use Rattle.std.specs.List.{list_all}
use Rattle.std.proofs.lemmas.Bool.{and_parts, and_from, ltb-true, lt-ltb}
use Rattle.std.proofs.lemmas.List.{map-append}
use Rattle.base_library.proofs.Passes.{list_all_joined, list_all_push}
use Rattle.tsl_text.specs.Lines.{lines_from}
use Rattle.tsl_text.specs.Written.{is_line, text_of_lines}
use Rattle.tsl_text.proofs.LineLaws.{ended_made}
use Rattle.line_formats.specs.Format.{Value, fits, print}
use Rattle.line_formats.specs.Machine.{read_from, steps, with_last_feed, IsText, IsFirstWrong}
use Rattle.line_formats.proofs.FormatLaws.{and_then_some, line_read, line_written, print_is_line}
use Rattle.line_formats.proofs.MachineLaws.{steps_append, read_is_text, text_is_read, fault_is_first, says_written, holds_after}
use Rattle.lasso_text.specs.LetterText.{Numbers, leaves, spaced, letter_line, back_line, line, line_value, as_members, true_numbers}
use Rattle.lasso_text.specs.LetterText.{letter_text, back_text, LoopTree, IsLoop, loop_lines, loop_text, rise, State, fresh, when, next}
use Rattle.lasso_text.specs.LetterText.{step, step_from, whole}
use Rattle.lasso_text.specs.FirstWrongLine.{said_of}
use Rattle.lasso_text.specs.LoopView.{letter_view, reader_state}
use Rattle.lasso_text.specs.declared.letter_loop.Letter.{Letter}
use Rattle.lasso_text.specs.declared.reader.LettersReader.{LettersReader}
use Rattle.lasso_text.proofs.LetterLines.{law, same_numbers}

-- ---- one line

same_members : (v : List (ℕ × Unit {0})) → as_members (true_numbers v) ≡ v
same_members [] = refl
same_members (n ∷ v) = ap (λ xs. n ∷ xs) (same_members v)

when_some : (b : Bool) (s t : State) → when b s ≡ Some t → (b ≡ true) × (s ≡ t)
when_some true s t h = (refl, cc)
when_some false s t h = absurd cc

when_true : (b : Bool) (s : State) → b ≡ true → when b s ≡ Some s
when_true b s h = ap (λ t. when t s) h

-- what a line that may stand there is, and what it adds
data Added (s t : State) (bytes : List ℕ) : Type 0 where
  letter : (ns : List ℕ) → s.back ≡ None → bytes ≡ letter_text ns → rise s.bits 0 ns ≡ true →
      record s { letters = s.letters ++ ns ∷ [] } ≡ t → Added s t bytes
  last : (back : ℕ) → s.back ≡ None → bytes ≡ back_text back → back < length s.letters → record s { back = Some back } ≡ t →
      Added s t bytes

added : (s t : State) (bytes : List ℕ) → step s bytes ≡ Some t → Added s t bytes
added s t bytes h = by_back s.back refl h where
  by_value : s.back ≡ None → (v : Value Numbers line) → line_value line bytes ≡ Some v → next s v ≡ Some t → Added s t bytes
  by_value none (inl v) e k =
      let w = when_some (rise s.bits 0 (true_numbers v.0)) (record s { letters = s.letters ++ true_numbers v.0 ∷ [] }) t k in
      let is = line_written Numbers leaves law line bytes (inl v) e in
      letter (true_numbers v.0) none (is.0 ∙ ap (λ xs. letter_bytes (xs, tt)) (sym (same_members v.0))) w.0 w.1
    where
      letter_bytes : Value Numbers letter_line → List ℕ
      letter_bytes v = print Numbers leaves letter_line v
  by_value none (inr v) e k =
      let w = when_some (ltb v.0 (length s.letters)) (record s { back = Some v.0 }) t k in
      let is = line_written Numbers leaves law line bytes (inr v) e in
      last v.0 none is.0 (ltb-true v.0 (length s.letters) w.0) w.1

  by_back : (o : Option ℕ) → s.back ≡ o → step_from o s bytes ≡ Some t → Added s t bytes
  by_back (Some b) e k = absurd cc
  by_back None e k =
      let found = and_then_some (line_value line bytes) (next s) t k in by_value e found.0 found.1 found.2

-- ---- what the lines so far are

abbrev back_lines : Option ℕ → List (List ℕ)
back_lines None = []
back_lines (Some back) = back_text back ∷ []

abbrev written : State → List (List ℕ)
written s = map letter_text s.letters ++ back_lines s.back

abbrev IsBelow : Option ℕ → ℕ → Type 0
IsBelow None n = Unit {0}
IsBelow (Some back) n = back < n

abbrev Holds : ℕ → State → Type 0
Holds bits s = (s.bits ≡ bits) × (list_all (rise bits 0) s.letters ≡ true) × IsBelow s.back (length s.letters)

module _ (bits : ℕ) where
  kept : (s t : State) (l : List ℕ) → Holds bits s → step s l ≡ Some t → Holds bits t
  kept s t l h e = by (added s t l e) where
    by : Added s t l → Holds bits t
    by (letter ns none is up same) =
        subst (Holds bits) same (
          h.0,
          list_all_push (rise bits 0) s.letters ns h.1 (ap (λ n. rise n 0 ns) (sym h.0) ∙ up),
          subst (λ o. IsBelow o (length (s.letters ++ ns ∷ []))) (sym none) tt,
        )
    by (last back none is below same) = subst (Holds bits) same (h.0, h.1, below)

  one : (s t : State) (l : List ℕ) → Holds bits s → step s l ≡ Some t → written t ≡ written s ++ l ∷ []
  one s t l h e = by (added s t l e) where
    by : Added s t l → written t ≡ written s ++ l ∷ []
    by (letter ns none is up same) =
        ap written (sym same)
        ∙ (λ i. map-append letter_text s.letters (ns ∷ []) i ++ back_lines (none i))
        ∙ append-nil (map letter_text s.letters ++ letter_text ns ∷ [])
        ∙ (λ i. map letter_text s.letters ++ sym is i ∷ [])
        ∙ ap (λ zs. zs ++ l ∷ [])
        (sym (append-nil (map letter_text s.letters)) ∙ ap (λ o. map letter_text s.letters ++ back_lines o) (sym none))
    by (last back none is below same) =
        ap written (sym same)
        ∙ (λ i. map letter_text s.letters ++ sym is i ∷ [])
        ∙ ap (λ zs. zs ++ l ∷ [])
        (sym (append-nil (map letter_text s.letters)) ∙ ap (λ o. map letter_text s.letters ++ back_lines o) (sym none))

-- ---- what is read

-- lines that the steps take to the end are those of a loop, and this is what they say
pub of_loop : (bits : ℕ) (ls : List (List ℕ)) (t : State) → IsText step whole (fresh bits) ls t →
    (loop : LoopTree) × IsLoop bits loop × (ls ≡ loop_lines loop) × (t ≡ said_of bits loop)
of_loop bits ls t is =
    let held = holds_after step whole (fresh bits) (Holds bits) (kept bits) ls t (refl, refl, tt) is.says in
    let all = says_written step whole written (Holds bits) (kept bits) (one bits) ls (fresh bits) t (refl, refl, tt) is.says in
    by t.back refl held all is.done
  where
    by : (o : Option ℕ) → t.back ≡ o → Holds bits t → written t ≡ ls → whole t ≡ true →
        (loop : LoopTree) × IsLoop bits loop × (ls ≡ loop_lines loop) × (t ≡ said_of bits loop)
    by None e held all done = absurd (cc (e, done))
    by (Some back) e held all done = (
      record { letters = t.letters; back = back },
      (held.1, subst (λ o. IsBelow o (length t.letters)) e held.2),
      sym all ∙ ap (λ o. map letter_text t.letters ++ back_lines o) e,
      λ i. record { bits = held.0 i; letters = t.letters; back = e i },
    )

told : (bits : ℕ) (text : List ℕ) (t : State) (back : ℕ) → read_from step whole (fresh bits) 1 (lines_from 1 text) ≡ Ok t →
    ((other : ℕ) → t.back ≡ Some other → other ≡ back) →
    IsLoop bits (record { letters = t.letters; back = back }) × (text ≡ loop_text (record { letters = t.letters; back = back }))
told bits text t back h only =
    let found = read_is_text step whole text (fresh bits) t h in
    let of = of_loop bits found.0 t found.2 in
    let last : of.0.back ≡ back = only of.0.back (ap (λ (s : State). s.back) of.3) in
    let same : of.0 ≡ record { letters = t.letters; back = back } = λ i. record { letters = ap (λ (s : State). s.letters) (sym of.3) i; back = last i } in
    (subst (IsLoop bits) same of.1, found.1 ∙ ap text_of_lines of.2 ∙ ap loop_text same)

-- the same, as the code has it
pub loop_read : (bits : ℕ) (text : List ℕ) (first : State) (reader : LettersReader) → first ≡ fresh bits →
    read_from step whole first 1 (lines_from 1 text) ≡ Ok (reader_state reader) → (letters : List Letter) → letters ≡ reader.letters.items →
    IsLoop bits (record { letters = map letter_view letters; back = reader.back })
    × (text ≡ loop_text (record { letters = map letter_view letters; back = reader.back }))
loop_read bits text first reader is h letters e =
    let P : List Letter → Type 0 = λ ls. IsLoop bits (record { letters = map letter_view ls; back = reader.back })
    × (text ≡ loop_text (record { letters = map letter_view ls; back = reader.back })) in
    subst P (sym e)
    (told bits text (reader_state reader) reader.back
    (subst (λ s. read_from step whole s 1 (lines_from 1 text) ≡ Ok (reader_state reader)) is h)
    (only reader.ended))
  where
    only : (ended : Bool) (other : ℕ) → (if ended then Some reader.back else None) ≡ Some other → other ≡ reader.back
    only true other k = cc
    only false other k = absurd cc

-- ---- what is written

letter_steps : (s : State) (ns : List ℕ) → s.back ≡ None → list_all (fits Numbers leaves spaced) (as_members ns) ≡ true →
    rise s.bits 0 ns ≡ true → step s (letter_text ns) ≡ Some (record s { letters = s.letters ++ ns ∷ [] })
letter_steps s ns none good up =
    ap (λ o. step_from o s (letter_text ns)) none
    ∙ ap (option_and_then (next s))
    (line_read Numbers leaves law line refl (inl (as_members ns, tt))
    (and_from (list_all (fits Numbers leaves spaced) (as_members ns)) true good refl))
    ∙ ap (λ xs. when (rise s.bits 0 xs) (record s { letters = s.letters ++ xs ∷ [] })) (same_numbers ns)
    ∙ when_true (rise s.bits 0 ns) (record s { letters = s.letters ++ ns ∷ [] }) up

back_steps : (s : State) (back : ℕ) → s.back ≡ None → back < 10 ^ 18 → back < length s.letters →
    step s (back_text back) ≡ Some (record s { back = Some back })
back_steps s back none short below =
    ap (λ o. step_from o s (back_text back)) none
    ∙ ap (option_and_then (next s))
    (line_read Numbers leaves law line refl (inr (back, tt)) (and_from (ltb back (10 ^ 18)) true (lt-ltb back (10 ^ 18) short) refl))
    ∙ when_true (ltb back (length s.letters)) (record s { back = Some back }) (lt-ltb back (length s.letters) below)

-- numbers below a bound that rise can be written
rise_fits : (bits least : ℕ) → bits < 2 ^ 32 → (ns : List ℕ) → rise bits least ns ≡ true →
    list_all (fits Numbers leaves spaced) (as_members ns) ≡ true
rise_fits bits least few [] h = refl
rise_fits bits least few (n ∷ ns) h =
    let parts = and_parts (leb least n && ltb n bits) (rise bits (suc n) ns) h in
    let below = ltb-true n bits (and_parts (leb least n) (ltb n bits) parts.0).1 in
    and_from (ltb n (10 ^ 18) && true) (list_all (fits Numbers leaves spaced) (as_members ns))
    (and_from (ltb n (10 ^ 18)) true (lt-ltb n (10 ^ 18) (omega (arith, below, few))) refl) (rise_fits bits (suc n) few ns parts.1)

letters_step : (bits : ℕ) → bits < 2 ^ 32 → (so_far letters : List (List ℕ)) → list_all (rise bits 0) letters ≡ true →
    (steps step (record { bits = bits; letters = so_far; back = None }) (map letter_text letters)
    ≡ Some (record { bits = bits; letters = so_far ++ letters; back = None }))
    × (list_all is_line (map letter_text letters) ≡ true)
letters_step bits few so_far [] h = (ap (λ xs. Some (record { bits = bits; letters = xs; back = None })) (sym (append-nil so_far)), refl)
letters_step bits few so_far (ns ∷ letters) h =
    let parts = and_parts (rise bits 0 ns) (list_all (rise bits 0) letters) h in
    let good = rise_fits bits 0 few ns parts.0 in
    let rest = letters_step bits few (so_far ++ ns ∷ []) letters parts.1 in (
      ap (option_and_then (λ t. steps step t (map letter_text letters)))
          (letter_steps (record { bits = bits; letters = so_far; back = None }) ns refl good parts.0)
          ∙ rest.0 ∙ ap (λ xs. Some (record { bits = bits; letters = xs; back = None })) (append_assoc so_far (ns ∷ []) letters),
      and_from (is_line (letter_text ns)) (list_all is_line (map letter_text letters))
          (print_is_line Numbers leaves law letter_line refl (as_members ns, tt)
          (and_from (list_all (fits Numbers leaves spaced) (as_members ns)) true good refl))
          rest.1,
    )

back_is_line : (back : ℕ) → back < 10 ^ 18 → is_line (back_text back) ≡ true
back_is_line back short =
    print_is_line Numbers leaves law back_line refl (back, tt) (and_from (ltb back (10 ^ 18)) true (lt-ltb back (10 ^ 18) short) refl)

pub is_short_text : (bits : ℕ) (loop : LoopTree) → bits < 2 ^ 32 → loop.back < 10 ^ 18 → IsLoop bits loop →
    IsText step whole (fresh bits) (loop_lines loop) (said_of bits loop)
is_short_text bits loop few short is =
    let steps_all = letters_step bits few [] loop.letters is.0 in
    let going : State = record { bits = bits; letters = loop.letters; back = None } in
    record {
      lines = list_all_joined is_line (map letter_text loop.letters) (back_text loop.back ∷ []) steps_all.1
          (and_from (is_line (back_text loop.back)) true (back_is_line loop.back short) refl);
      says = steps_append step whole (fresh bits) going (map letter_text loop.letters) (back_text loop.back ∷ []) steps_all.0
          ∙ ap (option_and_then (λ t. Some t)) (back_steps going loop.back refl short is.1);
      done = refl;
    }

pub is_text : (bits : ℕ) (loop : LoopTree) → bits < 2 ^ 32 → length loop.letters < 2 ^ 32 → IsLoop bits loop →
    IsText step whole (fresh bits) (loop_lines loop) (said_of bits loop)
is_text bits loop few short is = let below = is.1 in is_short_text bits loop few (omega (arith, below, short)) is

pub never_wrong : (bits : ℕ) (loop : LoopTree) (number : ℕ) → bits < 2 ^ 32 → length loop.letters < 2 ^ 32 → IsLoop bits loop →
    IsFirstWrong step whole (fresh bits) (with_last_feed (loop_text loop)) number → ⊥
never_wrong bits loop number few short is wrong =
    let ended : with_last_feed (loop_text loop) ≡ loop_text loop =
    ap (λ b. if b then loop_text loop else loop_text loop ++ 10 ∷ []) (ended_made (loop_lines loop)) in
    wrong.none (loop_lines loop) (said_of bits loop) (is_text bits loop few short is) ended

pub one_loop : (bits : ℕ) (a b : LoopTree) → bits < 2 ^ 32 → length a.letters < 2 ^ 32 → length b.letters < 2 ^ 32 → IsLoop bits a →
    IsLoop bits b → loop_text a ≡ loop_text b → a ≡ b
one_loop bits a b few short small is other e =
    let left = text_is_read step whole (loop_lines a) (fresh bits) (state_of a.letters a.back) (is_text bits a few short is) in
    let right = text_is_read step whole (loop_lines b) (fresh bits) (state_of b.letters b.back) (is_text bits b few small other) in
    let same = same_ok (read_from step whole (fresh bits) 1 (lines_from 1 (loop_text b))) _ _
    (ap (λ text. read_from step whole (fresh bits) 1 (lines_from 1 text)) (sym e) ∙ left) right in
    fields a.letters b.letters a.back b.back same
  where
    same_ok : (r : Result State ℕ) (s t : State) → r ≡ Ok s → r ≡ Ok t → s ≡ t
    same_ok r s t h k = cc

    state_of : List (List ℕ) → ℕ → State
    state_of xs n = record { bits = bits; letters = xs; back = Some n }

    loop_of : List (List ℕ) → ℕ → LoopTree
    loop_of xs n = record { letters = xs; back = n }

    fields : (xs ys : List (List ℕ)) (m n : ℕ) → state_of xs m ≡ state_of ys n → loop_of xs m ≡ loop_of ys n
    fields xs ys m n h =
        let fronts : xs ≡ ys = ap (λ (s : State). s.letters) h in
        let backs : Some m ≡ Some n = ap (λ (s : State). s.back) h in
        let last : m ≡ n = cc in
        λ i. record { letters = fronts i; back = last i }

-- ---- the first wrong line

ends : (bits : ℕ) (s : State) → Holds bits s → (ls : List (List ℕ)) × (t : State) × IsText step whole s ls t
ends bits s h = by s.letters s.back refl refl where
  back_alone : list_all is_line (back_text 0 ∷ []) ≡ true
  back_alone = and_from (is_line (back_text 0)) true (back_is_line 0 (omega arith)) refl

  going : State → State
  going s = record s { letters = s.letters ++ [] ∷ [] }

  by : (letters : List (List ℕ)) (o : Option ℕ) → s.letters ≡ letters → s.back ≡ o →
      (ls : List (List ℕ)) × (t : State) × IsText step whole s ls t
  by letters (Some b) e f = ([], s, record { lines = refl; says = refl; done = ap is_some f })
  by [] None e f =
      let some : 0 < length (s.letters ++ [] ∷ []) = subst (λ xs. 0 < length (xs ++ [] ∷ [])) (sym e) (omega arith) in (
        letter_text [] ∷ back_text 0 ∷ [],
        record s { letters = s.letters ++ [] ∷ []; back = Some 0 },
        record {
          lines = back_alone;
          says = ap (option_and_then (λ t. steps step t (back_text 0 ∷ []))) (letter_steps s [] f refl refl)
              ∙ ap (option_and_then (λ t. Some t)) (back_steps (going s) 0 f (omega arith) some);
          done = refl;
        },
      )
  by (ns ∷ letters) None e f =
      let some : 0 < length s.letters = subst (λ xs. 0 < length xs) (sym e) (omega arith) in (
        back_text 0 ∷ [],
        record s { back = Some 0 },
        record {
          lines = back_alone;
          says = ap (option_and_then (λ t. Some t)) (back_steps s 0 f (omega arith) some);
          done = refl;
        },
      )

pub first_wrong_line : (bits : ℕ) (text : List ℕ) (number : ℕ) → read_from step whole (fresh bits) 1 (lines_from 1 text) ≡ Err number →
    IsFirstWrong step whole (fresh bits) text number
first_wrong_line bits text number h =
    fault_is_first step whole (fresh bits) (Holds bits)
    (record { first = (refl, refl, tt); kept = kept bits; ends = ends bits }) text number h
