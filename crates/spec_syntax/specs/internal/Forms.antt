-- Internal: only private functions of this crate use these words.
-- Forms, and how each is read.
use Rattle.std.specs.Prelude.{Option, None, Some}
use Rattle.spec_syntax.specs.declared.formulas.Form.{Form}
use Rattle.spec_syntax.specs.declared.formulas.Form.TheVariants.{Prefix, Right, Formula}
use Rattle.reader_combinators.specs.Readers.{Reader, map_read}
use Rattle.spec_syntax.specs.Syntax.{Terminal, TermSyntax, FormulaSyntax}
use Rattle.spec_syntax.specs.Reading.{Level, above, beyond, bracketed_term}

-- a level's reader of the form
abbrev pub reader_of : Form → Level → Reader Terminal FormulaSyntax
reader_of Prefix l = l.prefix
reader_of (Right kind) l = l.right kind
reader_of Formula l = l.formula

-- a form above this level
abbrev pub form_with : Form → Option Level → Reader Terminal FormulaSyntax
form_with form lower = reader_of form (above lower)

-- after a name and an opening bracket: a term and the closing one
abbrev pub opened_term : Option Level → Reader Terminal (Option TermSyntax)
opened_term None xs = beyond xs
opened_term (Some l) xs = map_read (λ t. Some t) (bracketed_term l xs)
