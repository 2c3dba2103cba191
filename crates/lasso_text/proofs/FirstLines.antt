-- The first wrong line is the first with which no text of a loop goes on.
use Rattle.std.proofs.Common.{◌≡◌, ℕ, ◌+◌, ◌^◌, ◌<◌, ◌≤◌, true, List, [], ◌∷◌, ◌++◌, length, map, take, drop, refl, sym, ap, subst, ◌∙◌}
use Rattle.std.proofs.Common.{append_assoc, append-nil, length-append, length-take, take-append-drop, arith, ◌⊎◌, inl, inr}
use Rattle.std.specs.List.{list_all}
use Rattle.std.proofs.lemmas.Bool.{and_parts, and_from, cases_lt}
use Rattle.std.proofs.lemmas.List.{length-map, map-append}
use Rattle.base_library.proofs.Lists.{tails}
use Rattle.base_library.proofs.Passes.{list_all_joined}
use Rattle.tsl_text.specs.Lines.{is_line_byte}
use Rattle.tsl_text.specs.Written.{is_line, text_of_lines}
use Rattle.tsl_text.proofs.Fronts.{one_run}
use Rattle.line_formats.specs.Machine.{IsText, IsFirstWrong}
use Rattle.line_formats.proofs.MachineLaws.{lines_begin, all_front, text_append}
use Rattle.lasso_text.specs.LetterText.{letter_text, back_text, LoopTree, IsLoop, loop_lines, loop_text, rise, State, fresh, step, whole}
use Rattle.lasso_text.specs.FirstWrongLine.{said_of, IsFirstWrongLine}
use Rattle.lasso_text.proofs.LoopLaws.{of_loop, is_short_text}

-- ---- lines

lines_within : (ls : List (List ℕ)) → length ls ≤ length (text_of_lines ls)
lines_within [] = omega arith
lines_within (l ∷ ls) =
    let more : length (text_of_lines (l ∷ ls)) ≡ (length l + 1) + length (text_of_lines ls) =
    length-append (l ++ 10 ∷ []) (text_of_lines ls) ∙ ap (λ n. n + length (text_of_lines ls)) (length-append l (10 ∷ [])) in
    let rest = lines_within ls in
    omega (arith, more, rest)

feed_end : (line ls u : List ℕ) → ((line ++ 10 ∷ []) ++ ls) ++ u ≡ line ++ 10 ∷ (ls ++ u)
feed_end line ls u = ap (λ zs. zs ++ u) (append_assoc line (10 ∷ []) ls) ∙ append_assoc line (10 ∷ ls) u

-- texts that are one begin with the same lines
same_lines : (ls ms : List (List ℕ)) (u w : List ℕ) → list_all is_line ls ≡ true → list_all is_line ms ≡ true → length ls ≡ length ms →
    text_of_lines ls ++ u ≡ text_of_lines ms ++ w → ls ≡ ms
same_lines [] [] u w h k n e = refl
same_lines [] (m ∷ ms) u w h k n e = absurd (omega (arith, n))
same_lines (l ∷ ls) [] u w h k n e = absurd (omega (arith, n))
same_lines (l ∷ ls) (m ∷ ms) u w h k n e =
    let left = and_parts (is_line l) (list_all is_line ls) h in
    let right = and_parts (is_line m) (list_all is_line ms) k in
    let run = one_run is_line_byte l m (10 ∷ (text_of_lines ls ++ u)) (10 ∷ (text_of_lines ms ++ w)) left.0 right.0 refl refl
    (sym (feed_end l (text_of_lines ls) u) ∙ e ∙ feed_end m (text_of_lines ms) w) in
    let rest = same_lines ls ms u w left.1 right.1 (omega (arith, n)) (tails 10 10 (text_of_lines ls ++ u) (text_of_lines ms ++ w) run.1) in
    λ i. run.0 i ∷ rest i

-- ---- loops whose texts begin with some lines

-- By the steps these lines can be gone on from. Where the number of the last line is too long to be read, another loop with fewer
-- letters begins so too.
read_on : (bits : ℕ) (loop : LoopTree) (ms : List (List ℕ)) (rest : List ℕ) → bits < 2 ^ 32 → 1 ≤ length ms → length ms ≤ 10 ^ 18 →
    list_all is_line ms ≡ true → IsLoop bits loop → loop_text loop ≡ text_of_lines ms ++ rest →
    (more : List (List ℕ)) × (t : State) × IsText step whole (fresh bits) (ms ++ more) t
read_on bits loop ms rest few some short lines is e = by (cases_lt loop.back (10 ^ 18)) where
  by : (loop.back < 10 ^ 18) ⊎ (10 ^ 18 ≤ loop.back) → (more : List (List ℕ)) × (t : State) × IsText step whole (fresh bits) (ms ++ more) t
  by (inl below) =
      let t = is_short_text bits loop few below is in
      let more = lines_begin ms (loop_lines loop) rest lines t.lines e in
      (more.0, said_of bits loop, subst (λ ls. IsText step whole (fresh bits) ls (said_of bits loop)) more.1 t)
  by (inr above) =
      let front = take (length ms) loop.letters in
      let behind = drop (length ms) loop.letters in
      let cut : LoopTree = record { letters = front; back = 0 } in
      let whole_is : front ++ behind ≡ loop.letters = take-append-drop (length ms) loop.letters in
      let below = is.1 in
      let size : length front ≡ length ms = length-take (length ms) loop.letters ∙ omega (arith, above, short, below) in
      let up : list_all (rise bits 0) front ≡ true = all_front (rise bits 0) front behind (ap (list_all (rise bits 0)) whole_is ∙ is.0) in
      let t = is_short_text bits cut few (omega arith) (up, omega (arith, size, some)) in
      let last = back_text loop.back ∷ [] in
      let parts : loop_lines loop ≡ map letter_text front ++ (map letter_text behind ++ last) =
      ap (λ xs. map letter_text xs ++ last) (sym whole_is) ∙ ap (λ xs. xs ++ last) (map-append letter_text front behind)
      ∙ append_assoc (map letter_text front) (map letter_text behind) last in
      let same : map letter_text front ≡ ms =
      same_lines (map letter_text front) ms (text_of_lines (map letter_text behind ++ last)) rest
      (all_front is_line (map letter_text front) (back_text 0 ∷ []) t.lines) lines (length-map front letter_text ∙ size)
      (sym (text_append (map letter_text front) (map letter_text behind ++ last)) ∙ ap text_of_lines (sym parts) ∙ e) in
      (back_text 0 ∷ [], said_of bits cut, subst (λ ls. IsText step whole (fresh bits) (ls ++ back_text 0 ∷ []) (said_of bits cut)) same t)

-- ---- the first wrong line

pub first_of_loops : (bits : ℕ) (text : List ℕ) (line : ℕ) → bits < 2 ^ 32 → length text < 10 ^ 18 →
    IsFirstWrong step whole (fresh bits) text line → IsFirstWrongLine bits text line
first_of_loops bits text line few short w =
    let of = of_loop bits (w.before ++ w.ending) w.end w.goes_on in
    let fine = all_front is_line w.before w.ending w.goes_on.lines in
    record {
      before = w.before;
      after = w.after;
      split = w.split;
      are_lines = fine;
      number = w.number;
      goes_on = (of.0, of.1, text_of_lines w.ending, ap text_of_lines (sym of.2) ∙ text_append w.before w.ending);
      here = λ next rest e is b.
          let ms = w.before ++ next ∷ [] in
          let size : length ms ≡ length w.before + 1 = length-append w.before (next ∷ []) in
          let within = lines_within w.before in
          let all : length text ≡ length (text_of_lines w.before) + length w.after =
          ap length w.split ∙ length-append (text_of_lines w.before) w.after in
          let lines : list_all is_line ms ≡ true = list_all_joined is_line w.before (next ∷ []) fine (and_from (is_line next) true is refl) in
          let text_is : text_of_lines ms ≡ text_of_lines w.before ++ (next ++ 10 ∷ []) =
          text_append w.before (next ∷ []) ∙ ap (λ zs. text_of_lines w.before ++ zs) (append-nil (next ++ 10 ∷ [])) in
          let found = read_on bits b.0 ms b.2 few (omega (arith, size)) (omega (arith, size, within, all, short)) lines b.1
          (b.3 ∙ ap (λ zs. zs ++ b.2) (sym text_is)) in
          w.here next rest found.0 found.1 e is
          (subst (λ ls. IsText step whole (fresh bits) ls found.1) (append_assoc w.before (next ∷ []) found.0) found.2);
      none = λ loop is e.
          let size : length (loop_lines loop) ≡ length loop.letters + 1 =
          length-append (map letter_text loop.letters) (back_text loop.back ∷ []) ∙ ap (λ n. n + 1) (length-map loop.letters letter_text) in
          let within = lines_within (loop_lines loop) in
          let same : length text ≡ length (loop_text loop) = ap length e in
          let below = is.1 in
          w.none (loop_lines loop) (said_of bits loop) (is_short_text bits loop few (omega (arith, size, within, same, below, short)) is) e;
    }
