-- What stands at the front of a text is what the definitions say.
use Rattle.std.proofs.Common.{◌≡◌, ℕ, ◌+◌, ◌-◌, ◌<◌, ◌≤◌, Bool, true, false, cond, List, [], ◌∷◌, ◌++◌, length, take, drop, Option, Some, None, refl, sym, ◌∙◌, ap, subst, inl, inr, ⊎_elim, arith, rules, lit<, length-append, length-take-le, take-append-drop}
use Rattle.std.specs.Char.{is_ascii_digit}
use Rattle.std.specs.List.{list_all, prefix_len, AllByRecursion}
use Rattle.std.proofs.lemmas.Bool.{and_parts, and_from, eqb-true, cond-true, cond-false}
use Rattle.std.proofs.lemmas.List.Sums.{prefix_len-le-length}
use Rattle.tsl_text.specs.Lines.{is_blank, is_line_byte}
use Rattle.tsl_text.specs.Division.{Part, blank, comment, lexeme, bytes_of, Stands, BeginsNothing, IsUnclosed}
use Rattle.tsl_text.specs.internal.Front.{piece_of, symbols, first_symbol, begins_with, comment_of, gap_before, after_comment}
use Rattle.tsl_text.specs.Names.{is_name_start, is_name_byte}
use Rattle.tsl_text.specs.Lexeme.{IsTokenText}
use Rattle.tsl_text.specs.declared.TokenKind.{TokenKind}
use Rattle.tsl_text.specs.declared.TokenKind.TheVariants.{Name, Number, BothArrow, LeftArrow}
use Rattle.tsl_text.specs.declared.front.Piece.{Piece}
use Rattle.tsl_text.specs.declared.front.Piece.TheVariants.{Gap, Longest, OpenComment, Nothing}
use Rattle.base_library.proofs.Passes.{prefix_len-front, list_all-prefix}
use Rattle.base_library.proofs.Lists.{same_fronts}
use Rattle.tsl_text.proofs.Bytes.{
  name_start-no_blank,
  name_start-no_slash,
  digit-no_blank,
  digit-no_slash,
  digit-no_name_start,
  prefix_len-line,
  line_end-prefix,
}
use Rattle.tsl_text.proofs.Comments.{after_comment-closing, closing_front}

-- ---- what stands there is found

-- a token at the front is no longer than the one that is found
pub record Finds (kind : TokenKind) (text more : List ℕ) : Type 0 where
  pub found : TokenKind
  pub len : ℕ
  pub piece : piece_of (text ++ more) ≡ Longest found len
  pub long : length text ≤ len
  pub same : len ≡ length text → found ≡ kind

-- a symbol that no other begins with
finds_symbol : (kind : TokenKind) (text symbol more : List ℕ) → text ≡ symbol → piece_of (symbol ++ more) ≡ Longest kind (length symbol) →
    Finds kind text more
finds_symbol kind text symbol more e found = record {
  found = kind;
  len = length symbol;
  piece = ap (λ t. piece_of (t ++ more)) e ∙ found;
  long = omega (arith, ap length e);
  same = λ _. refl;
}

-- `<-` may go on to `<->`
finds_left : (text more : List ℕ) (b : Bool) → text ≡ 60 ∷ 45 ∷ [] → begins_with (62 ∷ []) more ≡ b → Finds LeftArrow text more
finds_left text more true e h = record {
  found = BothArrow;
  len = 3;
  piece = ap (λ t. piece_of (t ++ more)) e ∙ cond-true (begins_with (62 ∷ []) more) (Longest BothArrow 3) (Longest LeftArrow 2) h;
  long = omega (arith, ap length e);
  same = λ k. absurd (omega (arith, ap length e));
}
finds_left text more false e h =
    finds_symbol LeftArrow text (60 ∷ 45 ∷ []) more e
    (cond-false (begins_with (62 ∷ []) more) (Longest BothArrow 3) (Longest LeftArrow 2) h)

at_blank : (byte : ℕ) (rest : List ℕ) → is_blank byte ≡ true → piece_of (byte ∷ rest) ≡ Gap 1
at_blank byte rest h = rw h refl

-- a run of bytes that pass a test, behind a first one
finds_run : (kind : TokenKind) (test : ℕ → Bool) (byte : ℕ) (rest more : List ℕ) → list_all test rest ≡ true →
    piece_of (byte ∷ (rest ++ more)) ≡ Longest kind (1 + prefix_len test (rest ++ more)) → Finds kind (byte ∷ rest) more
finds_run kind test byte rest more passes found = record {
  found = kind;
  len = 1 + prefix_len test (rest ++ more);
  piece = found;
  long = omega (arith, prefix_len-front test rest more passes);
  same = λ _. refl;
}

pub finds : (kind : TokenKind) (text more : List ℕ) → IsTokenText kind text → Finds kind text more
finds Name [] more h = absurd (cc)
finds Name (byte ∷ rest) more h =
    let parts = and_parts (is_name_start byte) (list_all is_name_byte rest) h in
    finds_run Name is_name_byte byte rest more parts.1
    (rw (name_start-no_blank byte parts.0, name_start-no_slash byte parts.0, parts.0) refl)
finds Number [] more h = absurd (cc)
finds Number (byte ∷ rest) more h =
    let parts = and_parts (is_ascii_digit byte) (list_all is_ascii_digit rest) h in
    finds_run Number is_ascii_digit byte rest more parts.1
    (rw (digit-no_blank byte parts.0, digit-no_slash byte parts.0, digit-no_name_start byte parts.0, parts.0) refl)
finds LeftArrow text more h = finds_left text more (begins_with (62 ∷ []) more) h refl
finds kind text more h = finds_symbol kind text _ more h refl

-- a token is not empty
pub token_not_empty : (kind : TokenKind) (text : List ℕ) → IsTokenText kind text → 0 < length text
token_not_empty kind [] h = let at = finds kind [] [] h in let piece = at.piece in absurd cc
token_not_empty kind (byte ∷ rest) h = omega arith

-- ---- what is found stands there

-- the piece for a part
abbrev pub piece_for : Part → Piece
piece_for (blank byte) = Gap 1
piece_for (comment text) = Gap (length text)
piece_for (lexeme kind text) = Longest kind (length text)

-- the part may stand there, but for a longer token
abbrev pub IsSpelled : Part → List ℕ → Type 0
IsSpelled (lexeme kind text) after = IsTokenText kind text
IsSpelled part after = Stands part after

-- a part at the front that is such a piece
pub record HasPart (S : Part → List ℕ → Type 0) (bytes : List ℕ) (piece : Piece) : Type 0 where
  pub part : Part
  pub after : List ℕ
  pub split : bytes ≡ bytes_of part ++ after
  pub is : piece_for part ≡ piece
  pub stands : S part after

abbrev pub Sound : List ℕ → Piece → Type 0
Sound bytes OpenComment = IsUnclosed bytes
Sound bytes Nothing = Unit {0}
Sound bytes piece = HasPart IsSpelled bytes piece

pick : (bytes : List ℕ) (b : Bool) (x y : Piece) → (b ≡ true → Sound bytes x) → (b ≡ false → Sound bytes y) → Sound bytes (cond b x y)
pick bytes true x y passed failed = passed refl
pick bytes false x y passed failed = failed refl

begins_sound : (front bytes : List ℕ) → begins_with front bytes ≡ true → (rest : List ℕ) × (bytes ≡ front ++ rest)
begins_sound [] bytes h = (bytes, refl)
begins_sound (a ∷ front) [] h = absurd cc
begins_sound (a ∷ front) (b ∷ bytes) h =
    let parts = and_parts _ (begins_with front bytes) h in
    let more = begins_sound front bytes parts.1 in
    (more.0, λ i. eqb-true b a parts.0 i ∷ more.1 i)

symbol_sound : (table : List (TokenKind × List ℕ)) → AllByRecursion (λ symbol. IsTokenText symbol.0 symbol.1) table → (bytes : List ℕ) →
    Sound bytes (first_symbol table bytes)
symbol_sound [] each bytes = tt
symbol_sound (symbol ∷ table) each bytes =
    pick bytes (begins_with symbol.1 bytes) _ _ (λ h.
    let front = begins_sound symbol.1 bytes h in
    record { part = lexeme symbol.0 symbol.1; after = front.0; split = front.1; is = refl; stands = each.0 })
    (λ _. symbol_sound table each.1 bytes)

each_symbol : AllByRecursion (λ symbol. IsTokenText symbol.0 symbol.1) symbols
each_symbol = search rules

-- the longest front that passes a test, behind a first byte
run_sound : (kind : TokenKind) (test : ℕ → Bool) (first : ℕ) (rest : List ℕ) → IsTokenText kind (first ∷ take (prefix_len test rest) rest) →
    HasPart IsSpelled (first ∷ rest) (Longest kind (1 + prefix_len test rest))
run_sound kind test first rest h =
    let n = prefix_len test rest in
    let within = length-take-le n rest (prefix_len-le-length test rest) in
    let len : length (first ∷ take n rest) ≡ 1 + n = omega arith in
    record {
      part = lexeme kind (first ∷ take n rest);
      after = drop n rest;
      split = ap (λ t. first ∷ t) (sym (take-append-drop n rest));
      is = ap (Longest kind) len;
      stands = h;
    }

line_sound : (first second : ℕ) (rest : List ℕ) → first ≡ 47 → second ≡ 47 →
    HasPart IsSpelled (first ∷ second ∷ rest) (Gap (2 + prefix_len is_line_byte rest))
line_sound first second rest one two =
    let n = prefix_len is_line_byte rest in
    let within = length-take-le n rest (prefix_len-le-length is_line_byte rest) in
    let len : length (47 ∷ 47 ∷ take n rest) ≡ 2 + n = omega arith in
    record {
      part = comment (47 ∷ 47 ∷ take n rest);
      after = drop n rest;
      split = λ i. one i ∷ two i ∷ sym (take-append-drop n rest) i;
      is = ap Gap len;
      stands = inl ((take n rest, refl, list_all-prefix is_line_byte rest), line_end-prefix rest);
    }

block_sound : (first second : ℕ) (rest : List ℕ) → first ≡ 47 → second ≡ 42 → (o : Option (List ℕ)) → after_comment 0 rest ≡ o →
    Sound (first ∷ second ∷ rest) (gap_before rest o)
block_sound first second rest one two None e = record {
  body = rest;
  opens = λ i. one i ∷ two i ∷ rest;
  not_closed = λ closing closes front.
      let found = after_comment-closing closes 0 front.0 in
      let same = ap (after_comment 0) front.1 in
      absurd cc;
}
block_sound first second rest one two (Some after) e =
    let front = closing_front rest after e in
    let lengths = ap length front.1 ∙ length-append front.0 after in
    let len : length (47 ∷ 42 ∷ front.0) ≡ 2 + (length rest - length after) = omega arith in
    record {
      part = comment (47 ∷ 42 ∷ front.0);
      after = after;
      split = λ i. one i ∷ two i ∷ front.1 i;
      is = ap Gap len;
      stands = inr (front.0, refl, front.2);
    }

comment_sound : (first : ℕ) (rest : List ℕ) → first ≡ 47 → Sound (first ∷ rest) (comment_of rest)
comment_sound first [] one = tt
comment_sound first (second ∷ rest) one =
    let bytes = first ∷ second ∷ rest in
    pick bytes _ _ _ (λ h. line_sound first second rest one (eqb-true second 47 h)) (λ _.
    pick bytes _ _ _ (λ h. block_sound first second rest one (eqb-true second 42 h) (after_comment 0 rest) refl) (λ _. tt))

pub sound : (bytes : List ℕ) → Sound bytes (piece_of bytes)
sound [] = tt
sound (first ∷ rest) =
    let bytes = first ∷ rest in
    pick bytes (is_blank first) _ _ (λ h. record { part = blank first; after = rest; split = refl; is = refl; stands = h }) (λ _.
    pick bytes _ _ _ (λ h. comment_sound first rest (eqb-true first 47 h)) (λ _.
    pick bytes (is_name_start first) _ _
    (λ h. run_sound Name is_name_byte first rest (and_from (is_name_start first) _ h (list_all-prefix is_name_byte rest))) (λ _.
    pick bytes (is_ascii_digit first) _ _
    (λ h. run_sound Number is_ascii_digit first rest (and_from (is_ascii_digit first) _ h (list_all-prefix is_ascii_digit rest))) (λ _.
    symbol_sound symbols each_symbol bytes))))

-- the token that is found is the longest
pub stands_there : (part : Part) (after : List ℕ) → piece_of (bytes_of part ++ after) ≡ piece_for part → IsSpelled part after →
    Stands part after
stands_there (blank byte) after e h = h
stands_there (comment text) after e h = h
stands_there (lexeme kind text) after e h = (
  h,
  λ other longer more same k.
      let at = finds other longer more k in
      let piece : Longest at.found at.len ≡ Longest kind (length text) = sym at.piece ∙ ap piece_of (sym same) ∙ e in
      let lens : at.len ≡ length text = cc in
      omega (arith, at.long),
)

-- what was found, as an equation says it
pub found_part : (bytes : List ℕ) (piece : Piece) → piece_of bytes ≡ piece → HasPart IsSpelled bytes piece → HasPart Stands bytes piece
found_part bytes piece e h = record {
  part = h.part;
  after = h.after;
  split = h.split;
  is = h.is;
  stands = stands_there h.part h.after (ap piece_of (sym h.split) ∙ e ∙ sym h.is) h.stands;
}

pub found_gap : (bytes : List ℕ) (len : ℕ) → piece_of bytes ≡ Gap len → HasPart Stands bytes (Gap len)
found_gap bytes len e = found_part bytes (Gap len) e (subst (Sound bytes) e (sound bytes))

pub found_token : (bytes : List ℕ) (kind : TokenKind) (len : ℕ) → piece_of bytes ≡ Longest kind len →
    HasPart Stands bytes (Longest kind len)
found_token bytes kind len e = found_part bytes (Longest kind len) e (subst (Sound bytes) e (sound bytes))

pub found_open : (bytes : List ℕ) → piece_of bytes ≡ OpenComment → IsUnclosed bytes
found_open bytes e = subst (Sound bytes) e (sound bytes)

-- the same of a token, with its parts
pub record HasLongest (bytes : List ℕ) (kind : TokenKind) (len : ℕ) : Type 0 where
  pub text : List ℕ
  pub after : List ℕ
  pub split : bytes ≡ text ++ after
  pub count : length text ≡ len
  pub stands : Stands (lexeme kind text) after

pub found_longest : (bytes : List ℕ) (kind : TokenKind) (len : ℕ) → piece_of bytes ≡ Longest kind len → HasLongest bytes kind len
found_longest bytes kind len e = let token = found_token bytes kind len e in by token.part token.after token.split token.is token.stands
  where
    by : (part : Part) (after : List ℕ) → bytes ≡ bytes_of part ++ after → piece_for part ≡ Longest kind len → Stands part after →
        HasLongest bytes kind len
    by (blank byte) after split is stands = absurd cc
    by (comment text) after split is stands = absurd cc
    by (lexeme other text) after split is stands =
        let same : other ≡ kind = cc in
        record { text = text; after = after; split = split; count = cc; stands = subst (λ k. Stands (lexeme k text) after) same stands }

gap_not_nothing : (text : List ℕ) (o : Option (List ℕ)) → gap_before text o ≡ Nothing → ⊥
gap_not_nothing text None e = absurd cc
gap_not_nothing text (Some after) e = absurd cc

-- where nothing is found, nothing begins
pub found_nothing : (bytes : List ℕ) → 0 < length bytes → piece_of bytes ≡ Nothing → BeginsNothing bytes
found_nothing bytes some e = record {
  byte = some;
  no_blank = λ byte h front. let here = at_blank byte front.0 h in let same = ap piece_of front.1 in absurd cc;
  no_line_comment = λ front. let same = ap piece_of front.1 in absurd cc;
  no_block_comment = λ front. gap_not_nothing front.0 (after_comment 0 front.0) (sym (ap piece_of front.1) ∙ e);
  no_token = λ kind token h front.
      let at = finds kind token front.0 h in
      let piece = at.piece in
      let same = ap piece_of front.1 in
      absurd cc;
}

-- ---- one part stands there

-- the part that stands at the front is found
pub piece_there : (part : Part) (after : List ℕ) → Stands part after → piece_of (bytes_of part ++ after) ≡ piece_for part
piece_there (blank byte) after h = at_blank byte after h
piece_there (comment text) after (inl ((body, is, whole), end)) =
    let len : 2 + prefix_len is_line_byte (body ++ after) ≡ length text =
    omega (arith, prefix_len-line body after whole end, ap length is) in
    ap (λ t. piece_of (t ++ after)) is ∙ ap Gap len
piece_there (comment text) after (inr (closing, is, closes)) =
    let len : 2 + (length (closing ++ after) - length after) ≡ length text = omega (arith, length-append closing after, ap length is) in
    ap (λ t. piece_of (t ++ after)) is ∙ ap (gap_before (closing ++ after)) (after_comment-closing closes 0 after) ∙ ap Gap len
piece_there (lexeme kind text) after h =
    let at = finds kind text after h.0 in
    let token = found_longest (text ++ after) at.found at.len at.piece in
    let within = h.1 at.found token.text token.after token.split token.stands.0 in
    let len : at.len ≡ length text = omega (arith, at.long, token.count, within) in
    at.piece ∙ (λ i. Longest (at.same len i) (len i))

comment_two : (text after : List ℕ) → Stands (comment text) after → 2 ≤ length text
comment_two text after h = ⊎_elim (λ line. omega (arith, ap length line.0.1)) (λ block. omega (arith, ap length block.1)) h

-- the part is not empty
pub part_not_empty : (part : Part) (after : List ℕ) → Stands part after → 0 < length (bytes_of part)
part_not_empty (blank byte) after h = lit< tt
part_not_empty (comment text) after h = omega (arith, comment_two text after h)
part_not_empty (lexeme kind text) after h = token_not_empty kind text h.0

-- the bytes of a piece, and the part that it is of these bytes
abbrev pub piece_len : Piece → ℕ
piece_len (Gap len) = len
piece_len (Longest kind len) = len
piece_len piece = 0

pub len_there : (part : Part) → length (bytes_of part) ≡ piece_len (piece_for part)
len_there (blank byte) = refl
len_there (comment text) = refl
len_there (lexeme kind text) = refl

same_part : (p q : Part) (a b : List ℕ) → Stands p a → Stands q b → piece_for p ≡ piece_for q → bytes_of p ≡ bytes_of q → p ≡ q
same_part (blank x) (blank y) a b h k e same = cc
same_part (comment s) (comment t) a b h k e same = cc
same_part (lexeme kind s) (lexeme other t) a b h k e same = cc
same_part (blank x) (comment t) a b h k e same = absurd (omega (arith, comment_two t b k, ap length same))
same_part (comment s) (blank y) a b h k e same = absurd (omega (arith, comment_two s a h, ap length same))
same_part p q a b h k e same = absurd cc

-- One part stands at the front of a text.
pub one_part : (p q : Part) (a b : List ℕ) → Stands p a → Stands q b → bytes_of p ++ a ≡ bytes_of q ++ b → (p ≡ q) × (a ≡ b)
one_part p q a b h k e =
    let pieces = sym (piece_there p a h) ∙ ap piece_of e ∙ piece_there q b k in
    let fronts = same_fronts (bytes_of p) (bytes_of q) a b (len_there p ∙ ap piece_len pieces ∙ sym (len_there q)) e in
    (same_part p q a b h k pieces fronts.0, fronts.1)
