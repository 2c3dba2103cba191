use Rattle.std.proofs.Common.{refl}
use Rattle.spec_syntax.proofs.ExactSections.{sections_exact}
use Rattle.spec_syntax.proofs.FirstFaults.{deep_begins, deep_stops, deep_goes_on}
use Rattle.spec_syntax.proofs.laws.deep_faults_are_the_first.Goals as goal

pub returns-clause-begins : goal.returns-clause-begins
returns-clause-begins c = λ levels_left front x more h. deep_begins (sections_exact levels_left) _ _ h front x more refl refl

pub returns-clause-stops : goal.returns-clause-stops
returns-clause-stops c = λ levels_left front x more h. deep_stops (sections_exact levels_left) _ _ h front x more refl refl

pub returns-clause-goes_on : goal.returns-clause-goes_on
returns-clause-goes_on c = λ levels_left front x more h. deep_goes_on (sections_exact levels_left) _ _ h front x more refl refl
