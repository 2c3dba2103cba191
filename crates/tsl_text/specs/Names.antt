-- Names, and the words that are none. The reserved words and the letters of names are those of tsltools' specification
-- format, in this project's profile.
use Rattle.std.specs.Prelude.{ℕ, Bool, false, not, ◌&&◌, ◌||◌, ◌==◌, List, [], ◌∷◌, codes}
use Rattle.std.specs.List.{list_any, list_all}
use Rattle.std.specs.Str.{bytes_eq}
use Rattle.std.specs.Char.{is_ascii_alphabetic, is_ascii_alphanumeric}

-- a name may begin with the byte: an ASCII letter or `_`
abbrev pub is_name_start : ℕ → Bool
is_name_start byte = is_ascii_alphabetic byte || (byte == 95)

-- a name may go on with the byte: an ASCII letter, a digit, `_` or `'`
abbrev pub is_name_byte : ℕ → Bool
is_name_byte byte = is_ascii_alphanumeric byte || ((byte == 95) || (byte == 39))

-- an ASCII letter or `_`, and then letters, digits, `_` and `'`
abbrev pub is_name_text : List ℕ → Bool
is_name_text [] = false
is_name_text (first ∷ rest) = is_name_start first && list_all is_name_byte rest

-- the words of the grammar of specifications, which are names for the tokens and never names of a specification
abbrev pub reserved_words : List (List ℕ)
reserved_words = codes "assume" ∷ codes "guarantee" ∷ codes "always" ∷ codes "initially" ∷ codes "true" ∷ codes "false"
    ∷ codes "X" ∷ codes "F" ∷ codes "G" ∷ codes "U" ∷ codes "W" ∷ codes "R" ∷ codes "A" ∷ []

abbrev pub is_reserved : List ℕ → Bool
is_reserved text = list_any (bytes_eq text) reserved_words

-- whether a text may be a name of a specification
abbrev pub is_usable : List ℕ → Bool
is_usable text = is_name_text text && not (is_reserved text)
