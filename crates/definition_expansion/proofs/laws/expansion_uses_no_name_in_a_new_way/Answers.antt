use Rattle.definition_expansion.specs.Occurrences.{Passing}
use Rattle.definition_expansion.proofs.NoNewUses.{no_new_use}
use Rattle.definition_expansion.proofs.laws.expansion_uses_no_name_in_a_new_way.Goals as goal

pub returns : goal.returns
returns c named rank P ranked bodies n a = no_new_use named rank (Passing P) ranked bodies n a
