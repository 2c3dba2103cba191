-- A text that a reader reads piece by piece.
use Rattle.std.specs.Prelude.{◌≡◌, ℕ, List, ◌++◌, Result, Ok, Err}
use Rattle.clause_core.specs.declared.formulas.Cnf.{Cnf}
use Rattle.cnf_reader.specs.declared.dimacs.CnfError.{CnfError}
use Rattle.cnf_reader.specs.declared.dimacs.CnfError.TheVariants.{Form, Variables, Clauses, NoMemory}
use Rattle.cnf_reader.specs.declared.reader.CnfReader.{CnfReader}
use Rattle.cnf_reader.specs.CnfText.{CnfAnswer, cnf_answer, is_cnf, form_at, too_many_variables, too_many_clauses}
use Rattle.cnf_reader.specs.internal.Reading.{answer_left}
use Rattle.cnf_reader.specs.internal.Places.{tells, IsKept}

-- The reader has read this text: what the text is with any bytes after it, the reader says of what it kept with these bytes after it.
pub record HasRead (reader : CnfReader) (text : List ℕ) : Type 0 where
  pub kept : IsKept reader.kept.items
  pub answer : (more : List ℕ) →
      cnf_answer (text ++ more) ≡ answer_left reader.stage (tells reader.told) reader.number (reader.kept.items ++ more)

-- what is given is what a text is, or memory ran out
abbrev pub IsGiven : CnfAnswer → Result Cnf CnfError → Type 0
IsGiven answer (Ok cnf) = answer ≡ is_cnf cnf.variables cnf.clauses
IsGiven answer (Err (Form line)) = answer ≡ form_at line
IsGiven answer (Err Variables) = answer ≡ too_many_variables
IsGiven answer (Err Clauses) = answer ≡ too_many_clauses
IsGiven answer (Err NoMemory) = Unit {0}
