-- What a text derives by a grammar of tokens, and where it stops to be one of the grammar.
use Rattle.std.specs.Prelude.{◌≡◌, ℕ, List, [], ◌∷◌, ◌++◌, length, ◌⊎◌}
use Rattle.tsl_text.specs.declared.Token.{Token}
use Rattle.tsl_text.specs.Division.{AreTokens, HasBadByte, HasOpenComment}
use Rattle.table_syntax.specs.Syntax.{TextToken, text_tokens}
use Rattle.table_syntax.specs.declared.forms.TextFault.{TextFault}
use Rattle.table_syntax.specs.declared.forms.TextFault.TheVariants as fault

module _ {V : Type 0} (Is : List TextToken → V → Type 0) where
  -- the text has tokens that derive this
  pub record IsRead (text : List ℕ) (given : V) : Type 0 where
    pub tokens : List Token
    pub tokens_are : AreTokens text tokens
    pub derived : Is (text_tokens text tokens) given

  -- some text of the grammar begins with these terminals
  abbrev pub SomeTextBegins : List TextToken → Type 0
  SomeTextBegins front = (rest : List TextToken) × (given : V) × Is (front ++ rest) given

  -- no text of the grammar begins with these terminals
  abbrev pub NoTextBegins : List TextToken → Type 0
  NoTextBegins front = (rest : List TextToken) (given : V) → Is (front ++ rest) given → ⊥

  -- the terminals are no text of the grammar
  abbrev pub IsNoText : List TextToken → Type 0
  IsNoText xs = (given : V) → Is xs given → ⊥

  -- A token begins at this offset. Some text begins with the tokens before it, and none with those up to and with it.
  pub record HasWrongToken (text : List ℕ) (at : ℕ) : Type 0 where
    pub before : List Token
    pub token : Token
    pub after : List Token
    pub tokens_are : AreTokens text (before ++ token ∷ after)
    pub place : at ≡ token.start
    pub begins : SomeTextBegins (text_tokens text before)
    pub stops : NoTextBegins (text_tokens text (before ++ token ∷ []))

  -- The text ends at this offset. Some text begins with its tokens, and they are none.
  pub record EndsTooEarly (text : List ℕ) (at : ℕ) : Type 0 where
    pub tokens : List Token
    pub tokens_are : AreTokens text tokens
    pub place : at ≡ length text
    pub begins : SomeTextBegins (text_tokens text tokens)
    pub no_text : IsNoText (text_tokens text tokens)

  -- the first token, or the end, at which the text stops to be one of the grammar
  abbrev pub HasFormFault : List ℕ → ℕ → Type 0
  HasFormFault text at = HasWrongToken text at ⊎ EndsTooEarly text at

-- what a fault says of the text
abbrev pub HasTextFault : {V : Type 0} → (List TextToken → V → Type 0) → List ℕ → TextFault → Type 0
HasTextFault Is bytes (fault.Byte at) = HasBadByte bytes at
HasTextFault Is bytes (fault.OpenComment at) = HasOpenComment bytes at
HasTextFault Is bytes (fault.Form at) = HasFormFault Is bytes at
HasTextFault Is bytes fault.NoMemory = Unit {0}
