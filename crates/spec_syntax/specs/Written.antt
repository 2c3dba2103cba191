-- The terminals that a tree is written with.
use Rattle.std.specs.Prelude.{ℕ, List, [], ◌∷◌, ◌++◌, flat_map}
use Rattle.tsl_text.specs.declared.TokenKind.TheVariants.{OpenRound, CloseRound, OpenSquare, CloseSquare, Not, And, Or, Arrow, BothArrow, LeftArrow}
use Rattle.spec_syntax.specs.declared.syntax.Word.TheVariants.{True, False, X, F, G, U, W, R}
use Rattle.tsl_terms.specs.declared.operator.UnaryOperator.{UnaryOperator}
use Rattle.tsl_terms.specs.declared.operator.UnaryOperator.TheVariants.{Negation, Next, Finally, Globally}
use Rattle.tsl_terms.specs.declared.operator.BinaryOperator.{BinaryOperator}
use Rattle.tsl_terms.specs.declared.operator.BinaryOperator.TheVariants.{Implication, Equivalence, Until, WeakUntil, Release}
use Rattle.tsl_terms.specs.declared.operator.ManyOperator.{ManyOperator}
use Rattle.tsl_terms.specs.declared.operator.ManyOperator.TheVariants.{Conjunction, Disjunction}
use Rattle.spec_syntax.specs.Syntax.{Terminal, free, word, mark, TermSyntax, alone, applied, grouped_term, TermsSyntax, no_terms, more_terms, FormulaSyntax, truth, falsehood, bare, tested, updated, grouped, under, between, joined, FormulasSyntax, no_formulas, more_formulas}
use Rattle.spec_syntax.specs.Syntax.{SectionSyntax, Declaration, the_section, the_definition}
use Rattle.spec_syntax.specs.Grammar.{in_brackets}

-- the terminals of the operators
abbrev pub sign_under : UnaryOperator → Terminal
sign_under Negation = mark Not
sign_under Next = word X
sign_under Finally = word F
sign_under Globally = word G

abbrev pub sign_between : BinaryOperator → Terminal
sign_between Implication = mark Arrow
sign_between Equivalence = mark BothArrow
sign_between Until = word U
sign_between WeakUntil = word W
sign_between Release = word R

abbrev pub sign_many : ManyOperator → Terminal
sign_many Conjunction = mark And
sign_many Disjunction = mark Or

-- the terminals that a tree is derived from

abbrev mutual
  pub written_term : TermSyntax → List Terminal
  written_term (alone x) = free x ∷ []
  written_term (applied f arguments) = free f ∷ written_arguments arguments
  written_term (grouped_term t) = in_brackets (written_term t)

  -- behind a name: no argument is written as brackets
  pub written_arguments : TermsSyntax → List Terminal
  written_arguments no_terms = mark OpenRound ∷ mark CloseRound ∷ []
  written_arguments (more_terms t ts) = written_term t ++ written_terms ts

  pub written_terms : TermsSyntax → List Terminal
  written_terms no_terms = []
  written_terms (more_terms t ts) = written_term t ++ written_terms ts

abbrev mutual
  pub written : FormulaSyntax → List Terminal
  written truth = word True ∷ []
  written falsehood = word False ∷ []
  written (bare x) = free x ∷ []
  written (tested p arguments) = free p ∷ written_arguments arguments
  written (updated x t) = mark OpenSquare ∷ free x ∷ mark LeftArrow ∷ (written_term t ++ mark CloseSquare ∷ [])
  written (grouped a) = in_brackets (written a)
  written (under op a) = sign_under op ∷ written a
  written (between op a b) = written a ++ sign_between op ∷ written b
  written (joined op fs) = written_members op fs

  pub written_members : ManyOperator → FormulasSyntax → List Terminal
  written_members op no_formulas = []
  written_members op (more_formulas f fs) = written f ++ written_further op fs

  pub written_further : ManyOperator → FormulasSyntax → List Terminal
  written_further op no_formulas = []
  written_further op (more_formulas f fs) = sign_many op ∷ (written f ++ written_further op fs)

-- the names among terminals, in order
abbrev pub free_texts : List Terminal → List (List ℕ)
free_texts [] = []
free_texts (free x ∷ rest) = x ∷ free_texts rest
free_texts (word w ∷ rest) = free_texts rest
free_texts (mark m ∷ rest) = free_texts rest

-- the names of a section in the order of its text
abbrev pub section_texts : SectionSyntax → List (List ℕ)
section_texts s = flat_map (λ a. free_texts (written a)) s.formulas

-- and those of a definition: its own, its parameters, and then those of its body
abbrev pub declaration_texts : Declaration → List (List ℕ)
declaration_texts (the_section s) = section_texts s
declaration_texts (the_definition d) = d.name ∷ (d.parameters ++ free_texts (written d.body))
