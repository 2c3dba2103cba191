use Rattle.tsl_meaning.proofs.PromisedFormulas.{windows_speak, whole_speaks, whole_still_speaks}
use Rattle.tsl_meaning.proofs.laws.promised_formulas_speak_of_the_program.Goals as goal

pub returns-clause-windows : goal.returns-clause-windows
returns-clause-windows c = windows_speak

pub returns-clause-whole : goal.returns-clause-whole
returns-clause-whole c = λ spec program fits realizes.
    whole_speaks spec fits program realizes.inputs realizes.cells realizes.outputs

pub returns-clause-signals : goal.returns-clause-signals
returns-clause-signals c = λ spec program fits. whole_speaks spec fits program

pub returns-clause-more_names : goal.returns-clause-more_names
returns-clause-more_names c = λ spec more program fits. whole_still_speaks spec fits more program
