use Rattle.tsl_text.proofs.Parts.{one_division, some_answer, one_answer, lexemes}
use Rattle.tsl_text.proofs.one_division.Goals as goal

pub returns-clause-parts : goal.returns-clause-parts
returns-clause-parts c = one_division

pub returns-clause-some_answer : goal.returns-clause-some_answer
returns-clause-some_answer c = some_answer

pub returns-clause-one_answer : goal.returns-clause-one_answer
returns-clause-one_answer c = one_answer

pub returns-clause-lexemes : goal.returns-clause-lexemes
returns-clause-lexemes c = lexemes
