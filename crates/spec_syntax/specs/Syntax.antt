-- What the grammar of specifications speaks of: terminals, and the trees that texts are derived from, in which
-- names are still bytes. A tree keeps the brackets of its text.
-- The words and the syntax are those of tsltools' specification format, in this project's profile.
use Rattle.std.specs.Prelude.{ℕ, List, [], ◌∷◌, codes, Option, Some, None, if◌then◌else◌}
use Rattle.std.specs.Str.{bytes_eq}
use Rattle.tsl_text.specs.declared.TokenKind.{TokenKind}
use Rattle.tsl_text.specs.declared.TokenKind.TheVariants.{Number}
use Rattle.tsl_text.specs.Lexeme.{Lexeme, name, number, symbol}
use Rattle.spec_syntax.specs.declared.syntax.Word.{Word}
use Rattle.spec_syntax.specs.declared.syntax.Word.TheVariants.{Assume, Guarantee, Always, Initially, True, False, X, F, G, U, W, R, A}
use Rattle.tsl_terms.specs.declared.operator.UnaryOperator.{UnaryOperator}
use Rattle.tsl_terms.specs.declared.operator.BinaryOperator.{BinaryOperator}
use Rattle.tsl_terms.specs.declared.operator.ManyOperator.{ManyOperator}
use Rattle.spec_syntax.specs.declared.syntax.Part.{Part}

-- what the grammar tells apart: a name that is not reserved, a reserved word, or a symbol or number
pub data Terminal : Type 0 where
  free : (text : List ℕ) → Terminal
  word : (word : Word) → Terminal
  mark : (kind : TokenKind) → Terminal

-- the reserved word with these bytes
abbrev pub word_of : List ℕ → Option Word
word_of text =
    if bytes_eq text (codes "assume") then Some Assume
    else (if bytes_eq text (codes "guarantee") then Some Guarantee
    else (if bytes_eq text (codes "always") then Some Always
    else (if bytes_eq text (codes "initially") then Some Initially
    else (if bytes_eq text (codes "true") then Some True
    else (if bytes_eq text (codes "false") then Some False
    else (if bytes_eq text (codes "X") then Some X
    else (if bytes_eq text (codes "F") then Some F
    else (if bytes_eq text (codes "G") then Some G
    else (if bytes_eq text (codes "U") then Some U
    else (if bytes_eq text (codes "W") then Some W
    else (if bytes_eq text (codes "R") then Some R
    else (if bytes_eq text (codes "A") then Some A
    else None))))))))))))

abbrev pub free_unless : List ℕ → Option Word → Terminal
free_unless text None = free text
free_unless text (Some w) = word w

abbrev pub terminal_of : Lexeme → Terminal
terminal_of (name text) = free_unless text (word_of text)
terminal_of (number text) = mark Number
terminal_of (symbol kind) = mark kind

-- a term: a name alone, or a name with arguments in brackets or behind it, which may be none
mutual
  pub data TermSyntax : Type 0 where
    alone : (name : List ℕ) → TermSyntax
    applied : (name : List ℕ) → (arguments : TermsSyntax) → TermSyntax
    -- a term in brackets
    grouped_term : TermSyntax → TermSyntax

  pub data TermsSyntax : Type 0 where
    no_terms : TermsSyntax
    more_terms : TermSyntax → TermsSyntax → TermsSyntax

mutual
  pub data FormulaSyntax : Type 0 where
    truth : FormulaSyntax
    falsehood : FormulaSyntax
    -- a name alone: the test of a Boolean signal
    bare : (name : List ℕ) → FormulaSyntax
    -- a predicate with its arguments
    tested : (name : List ℕ) → (arguments : TermsSyntax) → FormulaSyntax
    -- the signal takes the term
    updated : (name : List ℕ) → TermSyntax → FormulaSyntax
    -- a formula in brackets
    grouped : FormulaSyntax → FormulaSyntax
    under : UnaryOperator → FormulaSyntax → FormulaSyntax
    between : BinaryOperator → FormulaSyntax → FormulaSyntax → FormulaSyntax
    -- the operands of `&&`, or of `||`
    joined : ManyOperator → FormulasSyntax → FormulaSyntax

  pub data FormulasSyntax : Type 0 where
    no_formulas : FormulasSyntax
    more_formulas : FormulaSyntax → FormulasSyntax → FormulasSyntax

-- the list of these members
abbrev pub listed_terms : List TermSyntax → TermsSyntax
listed_terms [] = no_terms
listed_terms (t ∷ ts) = more_terms t (listed_terms ts)

abbrev pub listed_formulas : List FormulaSyntax → FormulasSyntax
listed_formulas [] = no_formulas
listed_formulas (f ∷ fs) = more_formulas f (listed_formulas fs)

-- the operands of `&&` or of `||` as one formula: one operand stands for itself
abbrev pub join : ManyOperator → FormulaSyntax → List FormulaSyntax → FormulaSyntax
join op f [] = f
join op f (g ∷ gs) = joined op (more_formulas f (listed_formulas (g ∷ gs)))

-- a section: to which list of formulas its formulas go
pub record SectionSyntax : Type 0 where
  pub part : Part
  pub formulas : List FormulaSyntax

-- a definition: the defined name, its parameters, and the formula that the name stands for
pub record Definition : Type 0 where
  pub name : List ℕ
  pub parameters : List (List ℕ)
  pub body : FormulaSyntax

-- what a text is made of: sections and definitions
pub data Declaration : Type 0 where
  the_section : SectionSyntax → Declaration
  the_definition : Definition → Declaration

-- the sections among declarations, in order
abbrev pub sections_among : List Declaration → List SectionSyntax
sections_among [] = []
sections_among (the_section s ∷ ds) = s ∷ sections_among ds
sections_among (the_definition d ∷ ds) = sections_among ds
