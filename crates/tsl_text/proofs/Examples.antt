-- The definitions on texts that were worked by hand: what they accept, and what they refuse.
use Rattle.std.proofs.Common.{◌≡◌, ℕ, List, [], ◌∷◌, ◌++◌, length, Some, refl, inl, inr, arith, lit<}
use Rattle.std.specs.Prelude.{codes}
use Rattle.tsl_text.specs.Division.{
  Part,
  comment,
  lexeme,
  Stands,
  Divides,
  tokens_from,
  lexemes_of,
  ClosesComment,
  close,
  skip,
  nest,
  HasBadByte,
  HasOpenComment,
}
use Rattle.tsl_text.specs.internal.Front.{piece_of, after_comment}
use Rattle.tsl_text.specs.Lexeme.{IsTokenText, name, symbol}
use Rattle.tsl_text.specs.Places.{IsBetweenFeeds, IsLineEnd, IsColumn}
use Rattle.tsl_text.specs.declared.TokenKind.{TokenKind}
use Rattle.tsl_text.specs.declared.TokenKind.TheVariants.{Name, Number, BothArrow, LeftArrow}
use Rattle.tsl_text.specs.declared.front.Piece.TheVariants.{Nothing}
use Rattle.tsl_text.proofs.Comments.{after_comment-closing}
use Rattle.tsl_text.proofs.Pieces.{finds, stands_there, found_nothing, found_open}

-- ---- tokens

-- `a'b` and `_` are names, `007` is a number, `<->` an arrow
name_quote : IsTokenText Name (codes "a'b")
name_quote = refl

name_underscore : IsTokenText Name (codes "_")
name_underscore = refl

number_zeros : IsTokenText Number (codes "007")
number_zeros = refl

both_arrow : IsTokenText BothArrow (codes "<->")
both_arrow = refl

-- `1a` and `'a` are no names, `1a` is no number
name_digit : IsTokenText Name (codes "1a") → ⊥
name_digit h = absurd cc

name_starts_quote : IsTokenText Name (codes "'a") → ⊥
name_starts_quote h = absurd cc

number_letter : IsTokenText Number (codes "1a") → ⊥
number_letter h = absurd cc

-- `<`, `|` and `&` are no tokens of any kind
no_token : (text : List ℕ) → piece_of (text ++ []) ≡ Nothing → (kind : TokenKind) → IsTokenText kind text → ⊥
no_token text nothing kind h = let at = finds kind text [] h in let piece = at.piece in absurd cc

less_alone : (kind : TokenKind) → IsTokenText kind (codes "<") → ⊥
less_alone = no_token (codes "<") refl

bar_alone : (kind : TokenKind) → IsTokenText kind (codes "|") → ⊥
bar_alone = no_token (codes "|") refl

and_alone : (kind : TokenKind) → IsTokenText kind (codes "&") → ⊥
and_alone = no_token (codes "&") refl

-- ---- comments

-- behind `/*`: `*/`, ` /* */ // */`, and `*/` again behind a star
closes_at_once : ClosesComment (codes "*/")
closes_at_once = close refl

closes_nested : ClosesComment (codes "/**/*/")
closes_nested = nest (codes "*/") (codes "*/") (close refl) (close refl) refl

closes_behind_star : ClosesComment (codes "**/")
closes_behind_star = skip 42 42 (codes "/") (
  (λ e. let a : ◌≡◌ {A = ℕ} 42 47 = cc in omega arith),
  (λ e. let a : ◌≡◌ {A = ℕ} 42 47 = cc in omega arith),
) (close refl) refl

-- `/*/` closes nothing, ` */ */` goes on behind what closes, `/* */` closes the inner one alone
not_closed : (text : List ℕ) → (after_comment 0 (text ++ []) ≡ Some [] → ⊥) → ClosesComment text → ⊥
not_closed text other closing = other (after_comment-closing closing 0 [])

slash_star_slash : ClosesComment (codes "/") → ⊥
slash_star_slash = not_closed (codes "/") (λ e. cc)

closed_twice : ClosesComment (codes " */ */") → ⊥
closed_twice = not_closed (codes " */ */") (λ e. cc)

inner_alone : ClosesComment (codes "/* */") → ⊥
inner_alone = not_closed (codes "/* */") (λ e. cc)

-- ---- divisions

-- `a<->b//x` is a name, one arrow, a name and a comment
arrow_parts : List Part
arrow_parts = lexeme Name (codes "a") ∷ lexeme BothArrow (codes "<->") ∷ lexeme Name (codes "b") ∷ comment (codes "//x") ∷ []

arrow_divides : Divides (codes "a<->b//x") arrow_parts []
unfolding arrow_parts
arrow_divides = (
  codes "<->b//x",
  refl,
  stands_there (lexeme Name (codes "a")) (codes "<->b//x") refl refl,
  (
    codes "b//x",
    refl,
    stands_there (lexeme BothArrow (codes "<->")) (codes "b//x") refl refl,
    (
      codes "//x",
      refl,
      stands_there (lexeme Name (codes "b")) (codes "//x") refl refl,
      (
        [],
        refl,
        inl ((codes "x", refl, refl), tt),
        refl,
      ),
    ),
  ),
)

arrow_tokens : tokens_from 0 arrow_parts ≡ record { kind = Name; start = 0; end = 1 } ∷ record {
  kind = BothArrow;
  start = 1;
  end =
      4;
} ∷ record { kind = Name; start = 4; end = 5 } ∷ []
unfolding arrow_parts
arrow_tokens = refl

arrow_lexemes : lexemes_of arrow_parts ≡ name (codes "a") ∷ symbol BothArrow ∷ name (codes "b") ∷ []
unfolding arrow_parts
arrow_lexemes = refl

-- `<-` does not stand before `>`, a comment does not end before the end of its line
shorter_arrow : Stands (lexeme LeftArrow (codes "<-")) (codes ">b") → ⊥
shorter_arrow h = omega (arith, h.1 BothArrow (codes "<->") (codes "b") refl refl)

part_of_a_line : Stands (comment (codes "//a")) (codes "b") → ⊥
part_of_a_line h = absurd (grind arith)

-- in `/**/*/` a comment is closed twice: the star at 4 is bad
closed_twice_fault : HasBadByte (codes "/**/*/") 4
closed_twice_fault = record {
  parts = comment (codes "/**/") ∷ [];
  rest = codes "*/";
  divides = (codes "*/", refl, inr (codes "*/", refl, close refl), refl);
  place = refl;
  bad = found_nothing (codes "*/") (lit< tt) refl;
}

-- in `a/*/**/` the outer comment is open, and begins at 1
open_fault : HasOpenComment (codes "a/*/**/") 1
open_fault = record {
  parts = lexeme Name (codes "a") ∷ [];
  rest = codes "/*/**/";
  divides = (codes "/*/**/", refl, stands_there (lexeme Name (codes "a")) (codes "/*/**/") refl refl, refl);
  place = refl;
  unclosed = found_open (codes "/*/**/") refl;
}

-- ---- lines

-- behind `a`, a line feed and `bc` is column 3, and no other
column_three : IsColumn (97 ∷ 10 ∷ 98 ∷ 99 ∷ []) 3
column_three = record { lines = 97 ∷ 10 ∷ []; line = 98 ∷ 99 ∷ []; split = refl; begins = inr (97 ∷ [], refl); whole = refl; count = refl }

-- `b` is a line of `a`, line feed, `b`; it begins at 2
last_line : IsBetweenFeeds (97 ∷ 10 ∷ 98 ∷ []) (98 ∷ []) 2
last_line = record { before = 97 ∷ 10 ∷ []; after = []; split = refl; place = refl; begins = inr (97 ∷ [], refl); ends = tt; whole = refl }

-- `a` is no line of `ab`, and `a`, line feed, `b` is no line at all
begins_only_at : (before after : List ℕ) → 97 ∷ 98 ∷ [] ≡ before ++ 97 ∷ after → length before ≡ 0 → IsLineEnd after → ⊥
begins_only_at [] [] split place ends = absurd cc
begins_only_at [] (byte ∷ after) split place ends = let second : byte ≡ 98 = cc in omega (arith, ends)
begins_only_at (byte ∷ before) after split place ends = omega arith

begins_only : IsBetweenFeeds (97 ∷ 98 ∷ []) (97 ∷ []) 0 → ⊥
begins_only h = begins_only_at h.before h.after h.split h.place h.ends

two_lines : (text : List ℕ) (at : ℕ) → IsBetweenFeeds text (97 ∷ 10 ∷ 98 ∷ []) at → ⊥
two_lines text at h = let never = h.whole in absurd cc
