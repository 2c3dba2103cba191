use Rattle.std.proofs.Common.{refl}
use Rattle.spec_syntax.proofs.ExactSections.{sections_exact}
use Rattle.spec_syntax.proofs.FirstFaults.{form_begins, form_stops, no_value}
use Rattle.spec_syntax.proofs.laws.form_faults_are_the_first.Goals as goal

pub returns-clause-begins : goal.returns-clause-begins
returns-clause-begins c = λ levels_left front rest h. form_begins (sections_exact levels_left) _ _ h front rest refl refl

pub returns-clause-stops : goal.returns-clause-stops
returns-clause-stops c = λ levels_left front x more h any. form_stops (sections_exact levels_left) _ _ h front x more refl refl any

pub returns-clause-at_end : goal.returns-clause-at_end
returns-clause-at_end c = λ levels_left xs h any. no_value (sections_exact levels_left) xs 0 h any
