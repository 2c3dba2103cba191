-- Where the line between a formula and its log stands in the text of a refutation.
use Rattle.std.proofs.Common.{◌≡◌, ℕ, ◌+◌, ◌≤◌, true, List, []}
use Rattle.std.proofs.Common.{◌∷◌, ◌++◌, map, length, All, drop, take, codes, refl, sym, ap, ◌∙◌, None, arith, append_assoc, append-nil}
use Rattle.std.proofs.Common.{length-append, inr, subst, IsTrue}
use Rattle.std.specs.List.{prefix_len, list_all}
use Rattle.std.proofs.lemmas.Bool.{and_parts, and_from, false≢true}
use Rattle.std.proofs.lemmas.List.{drop_at, take_at}
use Rattle.std.proofs.lemmas.List.Elements.{All-head, All-tail}
use Rattle.tsl_text.specs.Lines.{is_line_byte, words}
use Rattle.tsl_text.specs.Places.{IsBetweenFeeds}
use Rattle.tsl_text.specs.Written.{is_line, text_of_lines}
use Rattle.tsl_text.proofs.Bytes.{prefix_len-line}
use Rattle.tsl_text.proofs.PlaceLaws.{len_at, later_line}
use Rattle.clause_core.specs.Literals.{Lit}
use Rattle.refutation_check.specs.declared.steps.Step.{Step}
use Rattle.refutation_check.specs.Checking.{log_refusal}
use Rattle.cnf_reader.specs.CnfText.{cnf_answer, is_cnf}
use Rattle.refutation_check.specs.DataLines.{is_comment}
use Rattle.refutation_check.specs.LogText.{log_answer}
use Rattle.refutation_text.specs.Written.{literal_word, clause_line, header_line, cnf_text, log_text, refutation_text, IsClauseOver}
use Rattle.refutation_text.specs.Written.{IsWithinLimits, comment_text}
use Rattle.refutation_text.specs.Parted.{SpellsRefutation}
use Rattle.refutation_text.specs.Written.{IsReadable}
use Rattle.refutation_text.proofs.CnfRead.{clause_is_line, clause_words, header_is_line, formula_lines, cnf_is_read_behind}
use Rattle.refutation_text.proofs.LogRead.{log_is_read}

-- lines that are written end with a line feed
lines_end : (l : List ℕ) (ls : List (List ℕ)) → (front : List ℕ) × (text_of_lines (l ∷ ls) ≡ front ++ 10 ∷ [])
lines_end l [] = (l, append-nil (l ++ 10 ∷ []))
lines_end l (m ∷ ms) =
    let rest = lines_end m ms in
    ((l ++ 10 ∷ []) ++ rest.0, ap (λ t. (l ++ 10 ∷ []) ++ t) rest.1 ∙ sym (append_assoc (l ++ 10 ∷ []) rest.0 (10 ∷ [])))

-- lines of which none is the piece
abbrev HasOthers : List ℕ → List (List ℕ) → Type 0
HasOthers piece [] = Unit {0}
HasOthers piece (l ∷ ls) = (is_line l ≡ true) × ((l ≡ piece → ⊥) × HasOthers piece ls)

-- a piece that stands behind these first bytes stands behind the lines after them
behind_lines : (front : List ℕ) (ls : List (List ℕ)) (rest piece : List ℕ) (text : List ℕ) (at : ℕ) → text ≡ front ++
    (text_of_lines ls ++ rest) →
    HasOthers piece ls → IsBetweenFeeds text piece at → length front ≤ at → length front + length (text_of_lines ls) ≤ at
behind_lines front [] rest piece text at split others h from = omega (arith, from)
behind_lines front (l ∷ ls) rest piece text at split others h from =
    let line : text_of_lines (l ∷ ls) ++ rest ≡ l ++ 10 ∷ (text_of_lines ls ++ rest) =
    regroup l (text_of_lines ls) rest in
    let whole : text ≡ front ++ (l ++ 10 ∷ (text_of_lines ls ++ rest)) = split ∙ ap (λ t. front ++ t) line in
    let left : drop (length front) text ≡ l ++ 10 ∷ (text_of_lines ls ++ rest) =
    ap (drop (length front)) whole ∙ drop_at front (l ++ 10 ∷ (text_of_lines ls ++ rest)) (length front) refl in
    let len : len_at text (length front) ≡ length l =
    ap (prefix_len is_line_byte) left ∙ prefix_len-line l (10 ∷ (text_of_lines ls ++ rest)) others.0 refl in
    let here : take (len_at text (length front)) (drop (length front) text) ≡ l =
    (λ i. take (len i) (left i)) ∙ take_at l (10 ∷ (text_of_lines ls ++ rest)) (length l) refl in
    let inside : length front ≤ length text = omega (arith, ap length whole ∙ length-append front (l ++ 10 ∷ (text_of_lines ls ++ rest))) in
    let later = later_line text piece (length front) at inside (λ e. others.1.0 (sym here ∙ e)) h from in
    let longer : length (front ++ (l ++ 10 ∷ [])) ≡ length front + (length l + 1) =
    length-append front (l ++ 10 ∷ []) ∙ ap (λ n. length front + n) (length-append l (10 ∷ [])) in
    let more : length (text_of_lines (l ∷ ls)) ≡ (length l + 1) + length (text_of_lines ls) =
    length-append (l ++ 10 ∷ []) (text_of_lines ls) ∙ ap (λ n. n + length (text_of_lines ls)) (length-append l (10 ∷ [])) in
    let next = behind_lines (front ++ (l ++ 10 ∷ [])) ls rest piece text at (whole ∙ shift front l (text_of_lines ls ++ rest)) others.1.1 h
    (omega (arith, later, longer, len)) in
    omega (arith, next, longer, more)
  where
    regroup : (a b c : List ℕ) → ((a ++ 10 ∷ []) ++ b) ++ c ≡ a ++ 10 ∷ (b ++ c)
    regroup a b c = simp append_assoc refl

    shift : (a b c : List ℕ) → a ++ (b ++ 10 ∷ c) ≡ (a ++ (b ++ 10 ∷ [])) ++ c
    shift a b c = sym (simp append_assoc refl)

-- the line of a clause has a number as its only word or more words than one
clause_other : (variables : ℕ) (clause : List Lit) → variables ≤ 2147483647 → IsClauseOver variables clause →
    clause_line clause ≡ codes "lrat" → ⊥
clause_other variables clause few h e = by_words clause (sym (clause_words variables clause few h.over) ∙ ap words e)
  where
    by_words : (ls : List Lit) → map literal_word ls ++ codes "0" ∷ [] ≡ codes "lrat" ∷ [] → ⊥
    by_words [] k = absurd cc
    by_words (l ∷ []) k = absurd (omega (arith, ap length k))
    by_words (l ∷ m ∷ ms) k = absurd (omega (arith, ap length k))

clauses_other : (variables : ℕ) (clauses : List (List Lit)) → variables ≤ 2147483647 → All (IsClauseOver variables) clauses →
    HasOthers (codes "lrat") (map clause_line clauses)
clauses_other variables [] few all = tt
clauses_other variables (c ∷ cs) few all =
    let here = All-head (IsClauseOver variables) c cs all in (
      clause_is_line variables c few here.over,
      (clause_other variables c few here, clauses_other variables cs few (All-tail (IsClauseOver variables) c cs all)),
    )

header_other : (variables count : ℕ) → header_line variables count ≡ codes "lrat" → ⊥
header_other variables count e = absurd cc

-- a comment has another first byte
comments_other : (front : List (List ℕ)) (ls : List (List ℕ)) → list_all is_line front ≡ true → list_all is_comment front ≡ true →
    HasOthers (codes "lrat") ls → HasOthers (codes "lrat") (front ++ ls)
comments_other [] ls are comments others = others
comments_other (l ∷ front) ls are comments others =
    let lines' = and_parts (is_line l) (list_all is_line front) are in
    let comments' = and_parts (is_comment l) (list_all is_comment front) comments in
    (lines'.0, (λ e. false≢true (ap is_comment (sym e) ∙ comments'.0), comments_other front ls lines'.1 comments'.1 others))

-- ---- the whole text

-- behind lines of which none is the piece, the piece stands first at their end
module _ (l : List ℕ) (ls : List (List ℕ)) (log : List ℕ) where
  abbrev whole : List ℕ
  whole = text_of_lines (l ∷ ls) ++ (codes "lrat\n" ++ log)

  line_stands : IsBetweenFeeds whole (codes "lrat") (length (text_of_lines (l ∷ ls)))
  line_stands = record {
    before = text_of_lines (l ∷ ls);
    after = 10 ∷ log;
    split = refl;
    place = refl;
    begins = inr (lines_end l ls);
    ends = refl;
    whole = refl;
  }

  line_first : (other : ℕ) → HasOthers (codes "lrat") (l ∷ ls) → IsBetweenFeeds whole (codes "lrat") other →
      length (text_of_lines (l ∷ ls)) ≤ other
  line_first other others h =
      let behind = behind_lines [] (l ∷ ls) (codes "lrat\n" ++ log) (codes "lrat") whole other refl others h (omega arith) in
      omega (arith, behind)

-- the text of a refutation, behind comments
module _ (front : List (List ℕ)) (are : list_all is_line front ≡ true) (comments : list_all is_comment front ≡ true) where
  pub refutation_behind : (variables : ℕ) (clauses : List (List Lit)) (steps : List Step) → IsWithinLimits variables clauses →
      All IsReadable steps → log_refusal variables clauses steps ≡ None →
      SpellsRefutation (text_of_lines (front ++ formula_lines variables clauses) ++ (codes "lrat\n" ++ log_text steps)) variables clauses
  refutation_behind variables clauses steps limits readable accepted =
      by_front front (cnf_is_read_behind front variables clauses are comments limits)
      (comments_other front (formula_lines variables clauses) are comments (
        header_is_line variables (length clauses) (omega (arith, few)) (omega (arith, within)),
        (header_other variables (length clauses), clauses_other variables clauses (omega (arith, few)) limits.each),
      ))
    where
      few : variables ≤ 1048576
      few = limits.few_variables

      within : length clauses ≤ 2000000
      within = limits.few_clauses

      log : List ℕ
      log = log_text steps

      spelled : (l : List ℕ) (ls : List (List ℕ)) → cnf_answer (text_of_lines (l ∷ ls)) ≡ is_cnf variables clauses →
          HasOthers (codes "lrat") (l ∷ ls) → SpellsRefutation (text_of_lines (l ∷ ls) ++ (codes "lrat\n" ++ log)) variables clauses
      spelled l ls read others =
          let cnf : List ℕ = text_of_lines (l ∷ ls) in
          let front_is : take (length cnf) (cnf ++ (codes "lrat\n" ++ log)) ≡ cnf = take_at cnf (codes "lrat\n" ++ log) (length cnf) refl in
          let behind : drop (length cnf + 5) (cnf ++ (codes "lrat\n" ++ log)) ≡ log =
          ap (drop (length cnf + 5)) (sym (append_assoc cnf (codes "lrat\n") log))
          ∙ drop_at (cnf ++ codes "lrat\n") log (length cnf + 5) (length-append cnf (codes "lrat\n")) in
          record {
            at = length cnf;
            line = line_stands l ls log;
            first = λ other h. line_first l ls log other others h;
            formula = ap cnf_answer front_is ∙ read;
            steps = steps;
            log = ap log_answer behind ∙ log_is_read steps readable;
            accepted = accepted;
          }

      by_front : (before : List (List ℕ)) → cnf_answer (text_of_lines (before ++ formula_lines variables clauses)) ≡ is_cnf variables clauses →
          HasOthers (codes "lrat") (before ++ formula_lines variables clauses) →
          SpellsRefutation (text_of_lines (before ++ formula_lines variables clauses) ++ (codes "lrat\n" ++ log)) variables clauses
      by_front [] read others = spelled (header_line variables (length clauses)) (map clause_line clauses) read others
      by_front (l ∷ before) read others = spelled l (before ++ formula_lines variables clauses) read others

pub refutation_spelled : (variables : ℕ) (clauses : List (List Lit)) (steps : List Step) → IsWithinLimits variables clauses →
    All IsReadable steps → log_refusal variables clauses steps ≡ None →
    SpellsRefutation (refutation_text variables clauses steps) variables clauses
refutation_spelled variables clauses steps limits readable accepted =
    subst (λ text. SpellsRefutation text variables clauses) (sym (append_assoc (cnf_text variables clauses) (codes "lrat\n") (log_text steps)))
    (refutation_behind [] refl refl variables clauses steps limits readable accepted)

-- behind one comment
pub commented_spelled : (comment : List ℕ) (variables : ℕ) (clauses : List (List Lit)) (steps : List Step) → IsTrue (is_line comment) →
    IsWithinLimits variables clauses → All IsReadable steps → log_refusal variables clauses steps ≡ None →
    SpellsRefutation (comment_text comment ++ refutation_text variables clauses steps) variables clauses
commented_spelled comment variables clauses steps line limits readable accepted =
    subst (λ text. SpellsRefutation text variables clauses)
    (regroup (comment_text comment) (cnf_text variables clauses) (codes "lrat\n") (log_text steps))
    (refutation_behind ((codes "c " ++ comment) ∷ []) (and_from (is_line (codes "c " ++ comment)) true line refl) refl variables clauses steps
    limits readable accepted)
  where
    regroup : (a b c d : List ℕ) → (a ++ b) ++ (c ++ d) ≡ a ++ ((b ++ c) ++ d)
    regroup a b c d = append_assoc a b (c ++ d) ∙ ap (λ t. a ++ t) (sym (append_assoc b c d))
