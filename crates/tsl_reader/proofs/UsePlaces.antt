-- Each name that stands in a text has its token, in the same order.
use Rattle.std.proofs.Common.{◌≡◌, ℕ, List, [], ◌∷◌, map, refl, ap, ◌∙◌, arith}
use Rattle.std.proofs.lemmas.Grind.{common_steps}
use Rattle.std.specs.Prelude.{Option, Some, None, cond}
use Rattle.tsl_text.specs.declared.Token.{Token}
use Rattle.tsl_text.specs.declared.TokenKind.{TokenKind}
use Rattle.tsl_text.specs.declared.TokenKind.TheVariants.{Name as NameKind}
use Rattle.tsl_text.specs.Lexeme.{lexeme_from, token_text}
use Rattle.spec_syntax.specs.declared.syntax.Word.{Word}
use Rattle.spec_syntax.specs.Syntax.{Terminal, word_of, free_unless, terminal_of, Declaration}
use Rattle.spec_syntax.specs.Texts.{terminals}
use Rattle.tsl_reader.specs.Spells.{deepest_level, Derives, is_free, name_tokens}
use Rattle.name_resolution.specs.WrittenNames.{free_names}
use Rattle.name_resolution.specs.WellDeclared.{heads_of, names_in}
use Rattle.name_resolution.proofs.WrittenTexts.{occurrences_texts}

-- the terminal of a token is a name with the token's bytes, or no name
one_token : (kind : TokenKind) (own : List ℕ) (xs : List Terminal) (names : List (List ℕ)) → free_names xs ≡ names →
    free_names (terminal_of (lexeme_from kind own) ∷ xs) ≡ cond (is_free (terminal_of (lexeme_from kind own))) (own ∷ names) names
one_token NameKind own xs names h = by (word_of own) where
  by : (found : Option Word) → free_names (free_unless own found ∷ xs) ≡ cond (is_free (free_unless own found)) (own ∷ names) names
  by None = ap (λ ts. own ∷ ts) h
  by (Some w) = h
one_token kind own xs names h = h

each_name : (text : List ℕ) (tokens : List Token) → free_names (terminals text tokens) ≡ map (token_text text) (name_tokens text tokens)
each_name text [] = refl
each_name text (t ∷ tokens) =
    let first = one_token t.kind (token_text text t) (terminals text tokens) _ (each_name text tokens) in
    grind (arith, common_steps)

-- the bytes of the tokens that are names are those of the names of what is read, in order
pub texts_of_names : (text : List ℕ) (tokens : List Token) (own : List Terminal) (ds : List Declaration) → Derives text tokens own ds →
    map (λ o. o.text) (names_in ds) ≡ map (token_text text) (name_tokens text tokens)
texts_of_names text tokens own ds d =
    occurrences_texts (heads_of ds) deepest_level (terminals text tokens) own ds d.derived ∙ each_name text tokens
