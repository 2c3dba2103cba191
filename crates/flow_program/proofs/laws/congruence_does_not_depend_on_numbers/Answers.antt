use Rattle.flow_program.proofs.Renumbered.{congruent_over_others}
use Rattle.flow_program.proofs.laws.congruence_does_not_depend_on_numbers.Goals as goal

pub returns : goal.returns
returns c = congruent_over_others
