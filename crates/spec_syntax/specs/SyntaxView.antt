-- What the code reads, without where it lies in memory.
use Rattle.std.specs.Prelude.{◌≡◌, List, map, Result, Ok, Err, Vec}
use Rattle.std.specs.Borrow.{Bor}
use Rattle.std.specs.declared.alloc.Global.{Global}
use Rattle.spec_syntax.specs.declared.fault.ReadFault.{ReadFault}
use Rattle.spec_syntax.specs.declared.fault.ReadFault.TheVariants.{Form, Deep, NoMemory}
use Rattle.spec_syntax.specs.declared.terminal.Terminal.{Terminal as LentTerminal}
use Rattle.spec_syntax.specs.declared.terminal.Terminal.TheVariants.{Free, Word as WordOf, Mark}
use Rattle.spec_syntax.specs.declared.trees.ReadTerm.{ReadTerm}
use Rattle.spec_syntax.specs.declared.trees.ReadTerm.TheVariants.{Alone, Applied, Grouped' as GroupedTerm'}
use Rattle.spec_syntax.specs.declared.trees.ReadTerms.{ReadTerms}
use Rattle.spec_syntax.specs.declared.trees.ReadTerms.TheVariants.{Empty as NoTerms, More' as MoreTerms'}
use Rattle.spec_syntax.specs.declared.trees.ReadFormula.{ReadFormula}
use Rattle.spec_syntax.specs.declared.trees.ReadFormula.TheVariants.{True, False, Bare, Tested, Updated, Grouped', Under', Between', Joined}
use Rattle.spec_syntax.specs.declared.trees.ReadFormulas.{ReadFormulas}
use Rattle.spec_syntax.specs.declared.trees.ReadFormulas.TheVariants.{Empty, More'}
use Rattle.spec_syntax.specs.declared.trees.ReadSection.{ReadSection}
use Rattle.spec_syntax.specs.declared.trees.ReadEquation.{ReadEquation}
use Rattle.spec_syntax.specs.declared.trees.ReadDeclaration.{ReadDeclaration}
use Rattle.spec_syntax.specs.declared.trees.ReadDeclaration.TheVariants.{Section, Definition as DefinitionOf}
use Rattle.spec_syntax.specs.Syntax.{Terminal, free, word, mark, TermSyntax, alone, applied, grouped_term, TermsSyntax, no_terms}
use Rattle.spec_syntax.specs.Syntax.{more_terms, FormulaSyntax, truth, falsehood, bare, tested, updated, grouped, under, between, joined}
use Rattle.spec_syntax.specs.Syntax.{FormulasSyntax, no_formulas, more_formulas, SectionSyntax}
use Rattle.spec_syntax.specs.Syntax.{Definition, Declaration, the_section, the_definition}
use Rattle.reader_combinators.specs.Readers.{Answer, Reader, form, deep}

abbrev pub terminal_view : LentTerminal → Terminal
terminal_view (Free text) = free text.now
terminal_view (WordOf w) = word w
terminal_view (Mark kind) = mark kind

abbrev pub terminals_view : List LentTerminal → List Terminal
terminals_view terminals = map terminal_view terminals

abbrev mutual
  pub term_syntax : ReadTerm → TermSyntax
  term_syntax (Alone name) = alone name.now
  term_syntax (Applied name arguments) = applied name.now (terms_syntax arguments)
  term_syntax (GroupedTerm' p t) = grouped_term (term_syntax t)

  pub terms_syntax : ReadTerms → TermsSyntax
  terms_syntax NoTerms = no_terms
  terms_syntax (MoreTerms' p head q rest) = more_terms (term_syntax head) (terms_syntax rest)

abbrev mutual
  pub formula_syntax : ReadFormula → FormulaSyntax
  formula_syntax True = truth
  formula_syntax False = falsehood
  formula_syntax (Bare name) = bare name.now
  formula_syntax (Tested name arguments) = tested name.now (terms_syntax arguments)
  formula_syntax (Updated name term) = updated name.now (term_syntax term)
  formula_syntax (Grouped' p a) = grouped (formula_syntax a)
  formula_syntax (Under' op p a) = under op (formula_syntax a)
  formula_syntax (Between' op p a q b) = between op (formula_syntax a) (formula_syntax b)
  formula_syntax (Joined op fs) = joined op (formulas_syntax fs)

  pub formulas_syntax : ReadFormulas → FormulasSyntax
  formulas_syntax Empty = no_formulas
  formulas_syntax (More' p head q rest) = more_formulas (formula_syntax head) (formulas_syntax rest)

abbrev pub section_syntax : ReadSection → SectionSyntax
section_syntax s = record { part = s.part; formulas = map formula_syntax s.formulas.items }

abbrev pub sections_syntax : Vec ReadSection Global → List SectionSyntax
sections_syntax sections = map section_syntax sections.items

abbrev pub equation_syntax : ReadEquation → Definition
equation_syntax d = record { name = d.name.now; parameters = map (λ p. p.now) d.parameters.items; body = formula_syntax d.body }

abbrev pub declaration_syntax : ReadDeclaration → Declaration
declaration_syntax (Section s) = the_section (section_syntax s)
declaration_syntax (DefinitionOf d) = the_definition (equation_syntax d)

abbrev pub declarations_syntax : Vec ReadDeclaration Global → List Declaration
declarations_syntax declarations = map declaration_syntax declarations.items

-- the fault is the answer's, unless memory ran out
abbrev pub HasSyntaxFault : {V : Type 0} → Answer Terminal V → ReadFault → Type 0
HasSyntaxFault answer (Form left) = answer ≡ Err (form left)
HasSyntaxFault answer (Deep left) = answer ≡ Err (deep left)
HasSyntaxFault answer NoMemory = Unit {0}

-- The code's answer is what the reader gives for these terminals: what was read and the terminals after it, or the first
-- fault, unless memory ran out.
abbrev pub Reads : {U V : Type 0} → (U → V) → Reader Terminal V → List LentTerminal →
    Result (U × Bor (List LentTerminal)) ReadFault → Type 0
Reads view reader xs (Ok read) = reader (terminals_view xs) ≡ Ok (view read.0, terminals_view read.1.now)
Reads view reader xs (Err fault) = HasSyntaxFault (reader (terminals_view xs)) fault
