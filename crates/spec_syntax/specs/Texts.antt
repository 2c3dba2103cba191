-- Texts as terminals, and which terminals a text of the grammar begins with.
use Rattle.std.specs.Prelude.{ℕ, List, ◌++◌, map}
use Rattle.tsl_text.specs.declared.Token.{Token}
use Rattle.tsl_text.specs.Lexeme.{lexeme_of}
use Rattle.spec_syntax.specs.Syntax.{Terminal, terminal_of, SectionSyntax, Declaration}
use Rattle.spec_syntax.specs.Grammar.{AreSections, AreDeclarations}

abbrev pub terminal_at : List ℕ → Token → Terminal
terminal_at text token = terminal_of (lexeme_of text token)

-- the terminals of a text with these tokens
abbrev pub terminals : List ℕ → List Token → List Terminal
terminals text tokens = map (terminal_at text) tokens

-- some text of the grammar with these levels left begins with these terminals
abbrev pub SomeTextBegins : ℕ → List Terminal → Type 0
SomeTextBegins levels_left front = (rest : List Terminal) × (sections : List SectionSyntax) × AreSections levels_left (front ++ rest) sections

-- no text of the grammar with these levels left begins with these terminals
abbrev pub NoTextBegins : ℕ → List Terminal → Type 0
NoTextBegins levels_left front = (rest : List Terminal) (sections : List SectionSyntax) → AreSections levels_left (front ++ rest) sections → ⊥

-- the terminals are no text of the grammar with these levels left
abbrev pub IsNoText : ℕ → List Terminal → Type 0
IsNoText levels_left xs = (sections : List SectionSyntax) → AreSections levels_left xs sections → ⊥

-- the terminals are a text of sections and definitions, these ones
abbrev pub IsText : ℕ → List Terminal → List Declaration → Type 0
IsText levels_left xs declarations = (own : List Terminal) × AreDeclarations levels_left xs own declarations

-- some text of sections and definitions begins with these terminals
abbrev pub SomeDeclarationsBegin : ℕ → List Terminal → Type 0
SomeDeclarationsBegin levels_left front = (rest : List Terminal) × (declarations : List Declaration) × IsText levels_left (front ++ rest) declarations

-- none does
abbrev pub NoDeclarationsBegin : ℕ → List Terminal → Type 0
NoDeclarationsBegin levels_left front = (rest : List Terminal) (declarations : List Declaration) → IsText levels_left (front ++ rest) declarations → ⊥

-- the terminals are no text of sections and definitions
abbrev pub AreNoDeclarations : ℕ → List Terminal → Type 0
AreNoDeclarations levels_left xs = (declarations : List Declaration) → IsText levels_left xs declarations → ⊥
