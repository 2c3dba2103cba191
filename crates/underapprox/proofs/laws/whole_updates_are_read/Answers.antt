use Rattle.underapprox.proofs.Happenings.{happenings_are_read}
use Rattle.underapprox.proofs.laws.whole_updates_are_read.Goals as goal

pub returns : goal.returns
returns c = λ space formula loop is_space are i. happenings_are_read space is_space loop are formula i
