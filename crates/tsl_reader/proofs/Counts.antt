-- A text has not more tokens than bytes, and not more names than tokens.
use Rattle.std.proofs.Common.{ℕ, ◌+◌, ◌≤◌, List, [], ◌∷◌, length, ap, arith, length-append}
use Rattle.base_library.proofs.Passes.{filter_within}
use Rattle.tsl_text.specs.declared.Token.{Token}
use Rattle.tsl_text.specs.Division.{Part, blank, comment, lexeme, Divides, tokens_from, AreTokens}
use Rattle.tsl_text.proofs.Pieces.{token_not_empty}
use Rattle.spec_syntax.specs.Syntax.{Terminal, Declaration}
use Rattle.name_resolution.specs.WellDeclared.{names_in}
use Rattle.spec_syntax.specs.Texts.{terminal_at}
use Rattle.tsl_reader.specs.Spells.{is_free, Derives}
use Rattle.tsl_reader.proofs.NamePlaces.{as_many_names}

parts_within : (text : List ℕ) (at : ℕ) (parts : List Part) → Divides text parts [] → length (tokens_from at parts) ≤ length text
parts_within text at [] h = omega arith
parts_within text at (blank byte ∷ parts) h = omega (arith, ap length h.1, parts_within h.0 (at + 1) parts h.3)
parts_within text at (comment c ∷ parts) h = omega (arith, ap length h.1, length-append c h.0, parts_within h.0 (at + length c) parts h.3)
parts_within text at (lexeme kind t ∷ parts) h =
    omega (arith, ap length h.1, length-append t h.0, token_not_empty kind t h.2.0, parts_within h.0 (at + length t) parts h.3)

pub tokens_within : (text : List ℕ) (tokens : List Token) → AreTokens text tokens → length tokens ≤ length text
tokens_within text tokens are = omega (arith, ap length are.places, parts_within text 0 are.parts are.divides)

-- there are not more names in a text than bytes
pub names_in_text : (text : List ℕ) (tokens : List Token) (own : List Terminal) (ds : List Declaration) → Derives text tokens own ds →
    length (names_in ds) ≤ length text
names_in_text text tokens own ds d =
    omega (
      arith,
      as_many_names text tokens own ds d,
      filter_within (λ t. is_free (terminal_at text t)) tokens,
      tokens_within text tokens d.tokens_are,
    )
