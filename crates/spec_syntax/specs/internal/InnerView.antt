-- Internal: only private functions of this crate use these words.
-- What stands in between while a text is read, without where it lies in memory.
use Rattle.std.specs.Prelude.{◌≡◌, ℕ, List, map, codes, Option, Some, None, option_map, Err, Vec, if◌then◌else◌}
use Rattle.std.specs.Str.{bytes_eq}
use Rattle.std.specs.Borrow.{Bor}
use Rattle.std.specs.declared.alloc.Global.{Global}
use Rattle.reader_combinators.specs.Readers.{Answer, Reader, form, deep}
use Rattle.spec_syntax.specs.declared.fault.ReadFault.{ReadFault}
use Rattle.spec_syntax.specs.declared.fault.ReadFault.TheVariants.{Form, Deep, NoMemory}
use Rattle.spec_syntax.specs.declared.syntax.Word.{Word}
use Rattle.spec_syntax.specs.declared.syntax.Word.TheVariants.{X, F, G, U, W, R, A}
use Rattle.spec_syntax.specs.declared.terms.Arguments.{Arguments as LentArguments}
use Rattle.spec_syntax.specs.declared.terms.Arguments.TheVariants.{Fresh, Empty as NoArguments, NameLast, TermLast}
use Rattle.spec_syntax.specs.declared.trees.ReadTerm.{ReadTerm}
use Rattle.spec_syntax.specs.declared.trees.ReadFormula.{ReadFormula}
use Rattle.spec_syntax.specs.Syntax.{Terminal, TermSyntax, FormulaSyntax}
use Rattle.spec_syntax.specs.Reading.{Arguments, fresh, empty, name_last, term_last}
use Rattle.spec_syntax.specs.SyntaxView.{term_syntax, formula_syntax}

abbrev pub FormulaReader : Type 0
FormulaReader = Reader Terminal FormulaSyntax

abbrev pub name_text : Bor (List ℕ) → List ℕ
name_text name = name.now

abbrev pub names_syntax : Vec (Bor (List ℕ)) Global → List (List ℕ)
names_syntax names = map name_text names.items

abbrev pub listed_syntax : Vec ReadFormula Global → List FormulaSyntax
listed_syntax formulas = map formula_syntax formulas.items

-- the arguments of a name so far
abbrev pub arguments_view : LentArguments → Arguments
arguments_view Fresh = fresh
arguments_view NoArguments = empty
arguments_view (NameLast terms name) = name_last (map term_syntax terms.items) name.now
arguments_view (TermLast terms) = term_last (map term_syntax terms.items)

-- what follows a name: nothing, or arguments
abbrev pub arguments_syntax : Option (Vec ReadTerm Global) → Option (List TermSyntax)
arguments_syntax arguments = option_map (λ ts. map term_syntax ts.items) arguments

-- the fault is that of the member at the front, unless memory ran out
abbrev pub HasFaultOfMember : {V : Type 0} → Option (Answer Terminal V) → ReadFault → Type 0
HasFaultOfMember member (Form left) = member ≡ Some (Err (form left))
HasFaultOfMember member (Deep left) = member ≡ Some (Err (deep left))
HasFaultOfMember member NoMemory = Unit {0}

-- the reserved words of one letter
abbrev pub letter_operator : List ℕ → Option Word
letter_operator text =
    if bytes_eq text (codes "X") then Some X
    else (if bytes_eq text (codes "F") then Some F
    else (if bytes_eq text (codes "G") then Some G
    else (if bytes_eq text (codes "U") then Some U
    else (if bytes_eq text (codes "W") then Some W
    else (if bytes_eq text (codes "R") then Some R
    else (if bytes_eq text (codes "A") then Some A
    else None))))))
