-- A division of a text without comments that computes.
use Rattle.std.proofs.Common.{◌≡◌, ℕ, zero, suc, Bool, true, false, List, [], ◌∷◌, take, drop, Option, Some, None, refl, ap, sym, subst, ◌∙◌}
use Rattle.std.specs.Prelude.{option_map}
use Rattle.std.proofs.lemmas.List.{take_at, drop_at}
use Rattle.tsl_text.specs.declared.TokenKind.{TokenKind}
use Rattle.tsl_text.specs.declared.front.Piece.{Piece}
use Rattle.tsl_text.specs.declared.front.Piece.TheVariants.{Gap, Longest, OpenComment, Nothing}
use Rattle.tsl_text.specs.internal.Front.{piece_of}
use Rattle.tsl_text.specs.Lines.{is_blank}
use Rattle.tsl_text.specs.Division.{Part, blank, lexeme, Divides}
use Rattle.tsl_text.proofs.Pieces.{found_longest}

-- the parts with the first one, which is a blank or the token that is found there
abbrev after_part : Bool → ℕ → List ℕ → Piece → (List ℕ → Option (List Part)) → Option (List Part)
after_part true byte rest piece parts = option_map (λ ps. blank byte ∷ ps) (parts rest)
after_part false byte rest (Longest kind len) parts =
    option_map (λ ps. lexeme kind (take len (byte ∷ rest)) ∷ ps) (parts (drop len (byte ∷ rest)))
after_part false byte rest _ parts = None

-- the parts of a text, where there are at most so many and none is a comment
abbrev pub parts_within : ℕ → List ℕ → Option (List Part)
parts_within most [] = Some []
parts_within zero (byte ∷ rest) = None
parts_within (suc most) (byte ∷ rest) = after_part (is_blank byte) byte rest (piece_of (byte ∷ rest)) (parts_within most)

with_blank : (byte : ℕ) (rest : List ℕ) (found : Option (List Part)) (parts : List Part) → is_blank byte ≡ true →
    ((ps : List Part) → found ≡ Some ps → Divides rest ps []) → option_map (λ ps. blank byte ∷ ps) found ≡ Some parts →
    Divides (byte ∷ rest) parts []
with_blank byte rest None parts is divides e = cc
with_blank byte rest (Some ps) parts is divides e =
    let same : blank byte ∷ ps ≡ parts = cc in
    subst (λ (qs : List Part). Divides (byte ∷ rest) qs []) same (rest, refl, is, divides ps refl)

with_token : (text : List ℕ) (kind : TokenKind) (len : ℕ) (found : Option (List Part)) (parts : List Part) →
    piece_of text ≡ Longest kind len → ((ps : List Part) → found ≡ Some ps → Divides (drop len text) ps []) →
    option_map (λ ps. lexeme kind (take len text) ∷ ps) found ≡ Some parts → Divides text parts []
with_token text kind len None parts is divides e = cc
with_token text kind len (Some ps) parts is divides e =
    let token = found_longest text kind len is in
    let front : take len text ≡ token.text = ap (take len) token.split ∙ take_at token.text token.after len token.count in
    let left : drop len text ≡ token.after = ap (drop len) token.split ∙ drop_at token.text token.after len token.count in
    let same : lexeme kind token.text ∷ ps ≡ parts = ap (λ t. lexeme kind t ∷ ps) (sym front) ∙ cc in
    subst (λ (qs : List Part). Divides text qs []) same
    (token.after, token.split, token.stands, subst (λ (t : List ℕ). Divides t ps []) left (divides ps refl))

-- the text divides so
pub divided : (most : ℕ) (text : List ℕ) (parts : List Part) → parts_within most text ≡ Some parts → Divides text parts []
divided most [] parts e =
    let same : [] ≡ parts = cc in
    subst (λ (qs : List Part). Divides [] qs []) same refl
divided zero (byte ∷ rest) parts e = cc
divided (suc most) (byte ∷ rest) parts e =
    by (is_blank byte) refl (piece_of (byte ∷ rest)) refl (λ text ps. divided most text ps) e
  where
    by : (is : Bool) → is_blank byte ≡ is → (piece : Piece) → piece_of (byte ∷ rest) ≡ piece →
        ((text : List ℕ) (ps : List Part) → parts_within most text ≡ Some ps → Divides text ps []) →
        after_part is byte rest piece (parts_within most) ≡ Some parts → Divides (byte ∷ rest) parts []
    by true is piece found divides e = with_blank byte rest (parts_within most rest) parts is (divides rest) e
    by false is (Longest kind len) found divides e =
        with_token (byte ∷ rest) kind len (parts_within most (drop len (byte ∷ rest))) parts found (divides (drop len (byte ∷ rest))) e
    by false is (Gap len) found divides e = cc
    by false is OpenComment found divides e = cc
    by false is Nothing found divides e = cc
