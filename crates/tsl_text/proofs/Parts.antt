-- How a text divides: at most one way, and as the loop over it finds.
use Rattle.std.proofs.Common.{◌≡◌, ℕ, zero, suc, ◌+◌, ◌-◌, ◌<◌, ◌≤◌, List, [], ◌∷◌, ◌++◌, length, take, drop, map, Option, Some, None, Result, Ok, Err, refl, sym, ◌∙◌, ap, subst, inl, inr, ⊎_elim, arith, length-append, length-drop, append-nil}
use Rattle.std.specs.List.{All, AllPairs, AllByRecursion}
use Rattle.std.proofs.lemmas.Bool.{cases_lt}
use Rattle.std.proofs.lemmas.List.{drop_at, drop-drop, drop_all, take_at}
use Rattle.std.proofs.lemmas.List.Elements.{All-from_recursion}
use Rattle.std.proofs.lemmas.List.Kept.{AllPairs-cons}
use Rattle.tsl_text.specs.Division.{
  Part,
  blank,
  comment,
  lexeme,
  bytes_of,
  Stands,
  Divides,
  tokens_from,
  lexemes_of,
  AreTokens,
  BeginsNothing,
  IsUnclosed,
  HasBadByte,
  HasOpenComment,
  IsAnswer,
  IsTokenOf,
  StandsBefore,
}
use Rattle.tsl_text.specs.internal.Front.{piece_of, gap_before, after_comment}
use Rattle.tsl_text.specs.Lexeme.{Lexeme, IsTokenText, lexeme_from, lexeme_of, token_text}
use Rattle.tsl_text.specs.declared.TextError.{TextError}
use Rattle.tsl_text.specs.declared.TextError.TheVariants.{Byte, NoMemory}
use Rattle.tsl_text.specs.declared.TextError.TheVariants as fault
use Rattle.tsl_text.specs.declared.Token.{Token}
use Rattle.tsl_text.specs.declared.TokenKind.{TokenKind}
use Rattle.tsl_text.specs.declared.front.Piece.{Piece}
use Rattle.tsl_text.specs.declared.front.Piece.TheVariants.{Gap, Longest, OpenComment, Nothing}
use Rattle.tsl_text.proofs.Comments.{closing_front}
use Rattle.tsl_text.proofs.Pieces.{
  IsSpelled,
  HasPart,
  Sound,
  sound,
  piece_for,
  piece_len,
  len_there,
  piece_there,
  found_gap,
  found_token,
  found_open,
  found_nothing,
  part_not_empty,
  token_not_empty,
  one_part,
}

-- ---- one division

-- no part stands at the front: what computes there is none
abbrev Stops : Piece → Type 0
Stops (Gap len) = ⊥
Stops (Longest kind len) = ⊥
Stops piece = Unit {0}

goes_on : (part : Part) → Stops (piece_for part) → ⊥
goes_on (blank byte) h = h
goes_on (comment text) h = h
goes_on (lexeme kind text) h = h

stuck : (bytes : List ℕ) → Stops (piece_of bytes) → (part : Part) (after : List ℕ) → bytes ≡ bytes_of part ++ after →
    Stands part after → ⊥
stuck bytes stops part after e h = goes_on part (subst Stops (ap piece_of e ∙ piece_there part after h) stops)

-- Two divisions up to where no part stands are one.
divided : (a b : List Part) (text r s : List ℕ) → Divides text a r → Divides text b s → Stops (piece_of r) → Stops (piece_of s) →
    (a ≡ b) × (r ≡ s)
divided [] [] text r s d e h k = (refl, sym d ∙ e)
divided [] (q ∷ b) text r s d e h k = absurd (stuck r h q e.0 (sym d ∙ e.1) e.2)
divided (p ∷ a) [] text r s d e h k = absurd (stuck s k p d.0 (sym e ∙ d.1) d.2)
divided (p ∷ a) (q ∷ b) text r s d e h k =
    let heads = one_part p q d.0 e.0 d.2 e.2 (sym d.1 ∙ e.1) in
    let tails = divided a b d.0 r s d.3 (subst (λ t. Divides t b s) (sym heads.1) e.3) h k in
    ((λ i. heads.0 i ∷ tails.0 i), tails.1)

-- A text has one division.
pub one_division : (text : List ℕ) (a b : List Part) → Divides text a [] → Divides text b [] → a ≡ b
one_division text a b d e = (divided a b text [] [] d e tt tt).0

-- ---- one answer

-- where nothing begins, nothing is found
bad_piece : (bytes : List ℕ) → BeginsNothing bytes → piece_of bytes ≡ Nothing
bad_piece bytes bad = by (piece_of bytes) (sound bytes)
  where
    none : (part : Part) (after : List ℕ) → bytes ≡ bytes_of part ++ after → IsSpelled part after → ⊥
    none (blank byte) after e h = bad.no_blank byte h (after, e)
    none (comment text) after e (inl (line, end)) = bad.no_line_comment (line.0 ++ after, e ∙ ap (λ t. t ++ after) line.1)
    none (comment text) after e (inr block) = bad.no_block_comment (block.0 ++ after, e ∙ ap (λ t. t ++ after) block.1)
    none (lexeme kind text) after e h = bad.no_token kind text h (after, e)

    by : (piece : Piece) → Sound bytes piece → piece ≡ Nothing
    by (Gap len) h = absurd (none h.part h.after h.split h.stands)
    by (Longest kind len) h = absurd (none h.part h.after h.split h.stands)
    by OpenComment h = absurd (bad.no_block_comment (h.body, h.opens))
    by Nothing h = refl

-- and a comment that is not closed is found to be open
open_piece : (bytes : List ℕ) → IsUnclosed bytes → piece_of bytes ≡ OpenComment
open_piece bytes h = ap piece_of h.opens ∙ by (after_comment 0 h.body) refl
  where
    by : (o : Option (List ℕ)) → after_comment 0 h.body ≡ o → gap_before h.body o ≡ OpenComment
    by None e = refl
    by (Some after) e = let front = closing_front h.body after e in absurd (h.not_closed front.0 front.2 (after, front.1))

-- the fault where such a piece stands at this offset
abbrev fault_of : ℕ → Piece → Result (List Token) TextError
fault_of at OpenComment = Err (fault.OpenComment at)
fault_of at piece = Err (Byte at)

-- the answer for these parts, where this is left and stands at this offset
abbrev told : ℕ → List Part → List ℕ → Piece → Result (List Token) TextError
told at parts [] piece = Ok (tokens_from 0 parts)
told at parts (byte ∷ rest) piece = fault_of at piece

-- an answer tells the place where the parts stop
record StopsAt (text : List ℕ) (answer : Result (List Token) TextError) : Type 0 where
  parts : List Part
  rest : List ℕ
  divides : Divides text parts rest
  stops : Stops (piece_of rest)
  is : answer ≡ told (length text - length rest) parts rest (piece_of rest)

stops_early : (text : List ℕ) (at : ℕ) (parts : List Part) (rest : List ℕ) (piece : Piece) → Divides text parts rest →
    at + length rest ≡ length text → 0 < length rest → piece_of rest ≡ piece → Stops piece → StopsAt text (fault_of at piece)
stops_early text at parts [] piece divides place some found stops = absurd (omega arith)
stops_early text at parts (byte ∷ rest) piece divides place some found stops =
    let offset : at ≡ length text - length (byte ∷ rest) = omega arith in
    record {
      parts = parts;
      rest = byte ∷ rest;
      divides = divides;
      stops = subst Stops (sym found) stops;
      is = λ i. fault_of (offset i) (sym found i);
    }

stop : (text : List ℕ) (answer : Result (List Token) TextError) → IsAnswer text answer → StopsAt text answer
stop text (Ok tokens) h = record { parts = h.parts; rest = []; divides = h.divides; stops = tt; is = ap Ok h.places }
stop text (Err (Byte at)) h = stops_early text at h.parts h.rest Nothing h.divides h.place h.bad.byte (bad_piece h.rest h.bad) tt
stop text (Err (fault.OpenComment at)) h =
    stops_early text at h.parts h.rest OpenComment h.divides h.place (omega (arith, ap length h.unclosed.opens))
    (open_piece h.rest h.unclosed) tt
stop text (Err NoMemory) h = absurd h

-- A text has one answer.
pub one_answer : (text : List ℕ) (a b : Result (List Token) TextError) → IsAnswer text a → IsAnswer text b → a ≡ b
one_answer text a b h k =
    let x = stop text a h in
    let y = stop text b k in
    let same = divided x.parts y.parts text x.rest y.rest x.divides y.divides x.stops y.stops in
    x.is ∙ (λ i. told (length text - length (same.1 i)) (same.0 i) (same.1 i) (piece_of (same.1 i))) ∙ sym y.is

-- ---- the loop over a text

-- what the next part leaves
leaves : (text : List ℕ) (at : ℕ) (part : Part) (after : List ℕ) → drop at text ≡ bytes_of part ++ after →
    drop (at + length (bytes_of part)) text ≡ after
leaves text at part after split =
    sym (drop-drop (length (bytes_of part)) at text) ∙ ap (drop (length (bytes_of part))) split
    ∙ drop_at (bytes_of part) after (length (bytes_of part)) refl

-- where the parts end, if the first stands at this offset
abbrev end_of : ℕ → List Part → ℕ
end_of at [] = at
end_of at (part ∷ parts) = end_of (at + length (bytes_of part)) parts

end_of-divides : (parts : List Part) (at : ℕ) (text rest : List ℕ) → Divides text parts rest →
    end_of at parts + length rest ≡ at + length text
end_of-divides [] at text rest d = omega (arith, ap length d)
end_of-divides (part ∷ parts) at text rest d =
    omega (arith, end_of-divides parts (at + length (bytes_of part)) d.0 rest d.3, ap length d.1 ∙ length-append (bytes_of part) d.0)

divides-push : (parts : List Part) (text mid : List ℕ) → Divides text parts mid → (part : Part) (rest : List ℕ) →
    mid ≡ bytes_of part ++ rest → Stands part rest → Divides text (parts ++ part ∷ []) rest
divides-push [] text mid d part rest e h = (rest, d ∙ e, h, refl)
divides-push (first ∷ parts) text mid d part rest e h = (d.0, d.1, d.2, divides-push parts d.0 mid d.3 part rest e h)

-- the token of a piece that stands here, if it is one
abbrev pub tokens_at : ℕ → Piece → List Token
tokens_at at (Longest kind len) = record { kind = kind; start = at; end = at + len } ∷ []
tokens_at at piece = []

tokens_from-push : (parts : List Part) (at : ℕ) (part : Part) →
    tokens_from at (parts ++ part ∷ []) ≡ tokens_from at parts ++ tokens_at (end_of at parts) (piece_for part)
tokens_from-push [] at (blank byte) = refl
tokens_from-push [] at (comment text) = refl
tokens_from-push [] at (lexeme kind text) = refl
tokens_from-push (blank byte ∷ parts) at part = tokens_from-push parts (at + 1) part
tokens_from-push (comment text ∷ parts) at part = tokens_from-push parts (at + length text) part
tokens_from-push (lexeme kind text ∷ parts) at part =
    ap (λ tokens. record { kind = kind; start = at; end = at + length text } ∷ tokens) (tokens_from-push parts (at + length text) part)

-- these are the tokens up to this offset, where a part ends
pub record TokensBefore (text : List ℕ) (at : ℕ) (tokens : List Token) : Type 0 where
  pub inside : at ≤ length text
  pub parts : List Part
  pub divides : Divides text parts (drop at text)
  pub places : tokens ≡ tokens_from 0 parts

pub before_none : (text : List ℕ) → TokensBefore text 0 []
before_none text = record { inside = omega arith; parts = []; divides = refl; places = refl }

module _ (text : List ℕ) (at : ℕ) (tokens : List Token) (before : TokensBefore text at tokens) where
  -- a part that stands here takes bytes, and adds its token
  next_part : (piece : Piece) → HasPart Stands (drop at text) piece →
      (0 < piece_len piece) × TokensBefore text (at + piece_len piece) (tokens ++ tokens_at at piece)
  next_part piece h =
      let len = len_there h.part ∙ ap piece_len h.is in
      let here : end_of 0 before.parts ≡ at =
      omega (arith, end_of-divides before.parts 0 text (drop at text) before.divides, length-drop at text, before.inside) in (
        omega (arith, len, part_not_empty h.part h.after h.stands),
        record {
          inside =
              omega (arith, before.inside, len, length-drop at text, ap length h.split ∙ length-append (bytes_of h.part) h.after);
          parts = before.parts ++ h.part ∷ [];
          divides = subst (Divides text (before.parts ++ h.part ∷ [])) (sym (leaves text at h.part h.after h.split)
              ∙ ap (λ n. drop (at + n) text) len)
              (divides-push before.parts text (drop at text) before.divides h.part h.after h.split h.stands);
          places = (λ i. before.places i ++ tokens_at (sym here i) (sym h.is i)) ∙ sym (tokens_from-push before.parts 0 h.part);
        },
      )

  -- a blank or a comment adds no token
  pub before_gap : (len : ℕ) → piece_of (drop at text) ≡ Gap len → (0 < len) × TokensBefore text (at + len) tokens
  before_gap len e =
      let next = next_part (Gap len) (found_gap (drop at text) len e) in
      (next.0, subst (TokensBefore text (at + len)) (append-nil tokens) next.1)

  pub before_token : (kind : TokenKind) (len : ℕ) → piece_of (drop at text) ≡ Longest kind len →
      (0 < len) × TokensBefore text (at + len) (tokens ++ record { kind = kind; start = at; end = at + len } ∷ [])
  before_token kind len e = next_part (Longest kind len) (found_token (drop at text) kind len e)

  -- where nothing begins is the bad byte
  pub bad_at : at < length text → piece_of (drop at text) ≡ Nothing → HasBadByte text at
  bad_at more e = record {
    parts = before.parts;
    rest = drop at text;
    divides = before.divides;
    place = omega (arith, length-drop at text);
    bad = found_nothing (drop at text) (omega (arith, length-drop at text)) e;
  }

  pub open_at : piece_of (drop at text) ≡ OpenComment → HasOpenComment text at
  open_at e = record {
    parts = before.parts;
    rest = drop at text;
    divides = before.divides;
    place = omega (arith, before.inside, length-drop at text);
    unclosed = found_open (drop at text) e;
  }

  -- at the end the tokens are all
  pub all_tokens : length text ≤ at → AreTokens text tokens
  all_tokens end = record {
    parts = before.parts;
    divides = subst (Divides text before.parts) (drop_all at text end) before.divides;
    places = before.places;
  }

-- the answer from a place on, with a bound on the parts that are left
answer_from : (bound : ℕ) (text : List ℕ) (at : ℕ) (tokens : List Token) → TokensBefore text at tokens → length text ≤ at + bound →
    (a : Result (List Token) TextError) × IsAnswer text a
answer_from zero text at tokens before left = (Ok tokens, all_tokens text at tokens before (omega arith))
answer_from (suc bound) text at tokens before left =
    ⊎_elim (λ more. by more (piece_of (drop at text)) refl (answer_from bound text))
    (λ end. (Ok tokens, all_tokens text at tokens before end)) (cases_lt at (length text))
  where
    by : at < length text → (piece : Piece) → piece_of (drop at text) ≡ piece →
        ((next : ℕ) (later : List Token) → TokensBefore text next later → length text ≤ next + bound →
        (a : Result (List Token) TextError) × IsAnswer text a) → (a : Result (List Token) TextError) × IsAnswer text a
    by more (Gap len) e go = let next = before_gap text at tokens before len e in go (at + len) tokens next.1 (omega arith)
    by more (Longest kind len) e go =
        let next = before_token text at tokens before kind len e in
        go (at + len) (tokens ++ record { kind = kind; start = at; end = at + len } ∷ []) next.1 (omega arith)
    by more OpenComment e go = (Err (fault.OpenComment at), open_at text at tokens before e)
    by more Nothing e go = (Err (Byte at), bad_at text at tokens before more e)

-- A text has an answer.
pub some_answer : (text : List ℕ) → (a : Result (List Token) TextError) × IsAnswer text a
some_answer text = answer_from (length text) text 0 [] (before_none text) (omega arith)

-- ---- what holds of each token

-- the tokens start at the offset or behind it
starts_from : (parts : List Part) (low at : ℕ) → low ≤ at → AllByRecursion (λ token. low ≤ token.start) (tokens_from at parts)
starts_from [] low at h = tt
starts_from (blank byte ∷ parts) low at h = starts_from parts low (at + 1) (omega arith)
starts_from (comment text ∷ parts) low at h = starts_from parts low (at + length text) (omega arith)
starts_from (lexeme kind text ∷ parts) low at h = (h, starts_from parts low (at + length text) (omega arith))

-- tokens that stand in the text, in order, and their lexemes
record Stand (text : List ℕ) (found : List Lexeme) (tokens : List Token) : Type 0 where
  each : AllByRecursion (IsTokenOf text) tokens
  in_order : AllPairs StandsBefore tokens
  lexemes : map (lexeme_of text) tokens ≡ found

stand : (parts : List Part) (text rest : List ℕ) (at : ℕ) → Divides (drop at text) parts rest →
    Stand text (lexemes_of parts) (tokens_from at parts)
stand [] text rest at d = record { each = tt; in_order = λ i j d before inside. absurd (omega arith); lexemes = refl }
stand (part ∷ parts) text rest at d = by part (stand parts text rest) d
  where
    behind : (part : Part) (after : List ℕ) → drop at text ≡ bytes_of part ++ after → Divides after parts rest →
        Divides (drop (at + length (bytes_of part)) text) parts rest
    behind part after split more = subst (λ t. Divides t parts rest) (sym (leaves text at part after split)) more

    by : (part : Part) → ((at : ℕ) → Divides (drop at text) parts rest → Stand text (lexemes_of parts) (tokens_from at parts)) →
        Divides (drop at text) (part ∷ parts) rest → Stand text (lexemes_of (part ∷ parts)) (tokens_from at (part ∷ parts))
    by (blank byte) further d = further (at + 1) (behind (blank byte) d.0 d.1 d.3)
    by (comment bytes) further d = further (at + length bytes) (behind (comment bytes) d.0 d.1 d.3)
    by (lexeme kind bytes) further d =
        let here : Token = record { kind = kind; start = at; end = at + length bytes } in
        let next = at + length bytes in
        let more = further next (behind (lexeme kind bytes) d.0 d.1 d.3) in
        let len : at + length bytes - at ≡ length bytes = omega arith in
        let bytes_there : token_text text here ≡ bytes = (λ i. take (len i) (d.1 i)) ∙ take_at bytes d.0 (length bytes) refl in
        let some = token_not_empty kind bytes d.2.0 in
        record {
          each = (
            record {
              not_empty = omega arith;
              inside = omega (arith, length-drop at text, ap length d.1 ∙ length-append bytes d.0);
              spelled = subst (IsTokenText kind) (sym bytes_there) d.2.0;
            },
            more.each,
          );
          in_order = AllPairs-cons StandsBefore here (tokens_from next parts)
              (All-from_recursion (λ token. next ≤ token.start) (tokens_from next parts) (starts_from parts next next (omega arith)))
              more.in_order;
          lexemes = λ i. lexeme_from kind (bytes_there i) ∷ more.lexemes i;
        }

-- each token stands in the text and has bytes of its kind
pub each_token : (text : List ℕ) (tokens : List Token) → AreTokens text tokens → All (IsTokenOf text) tokens
each_token text tokens h =
    All-from_recursion (IsTokenOf text) tokens
    (subst (AllByRecursion (IsTokenOf text)) (sym h.places) (stand h.parts text [] 0 h.divides).each)

-- no token begins before an earlier one ends
pub in_order : (text : List ℕ) (tokens : List Token) → AreTokens text tokens → AllPairs StandsBefore tokens
in_order text tokens h = subst (AllPairs StandsBefore) (sym h.places) (stand h.parts text [] 0 h.divides).in_order

-- the tokens without their places are those of the division
pub lexemes : (text : List ℕ) (parts : List Part) → Divides text parts [] → map (lexeme_of text) (tokens_from 0 parts) ≡ lexemes_of parts
lexemes text parts d = (stand parts text [] 0 d).lexemes
