use Rattle.underapprox.proofs.Agreement.{form_says}
use Rattle.underapprox.proofs.laws.letters_say_what_holds.Goals as goal

pub returns : goal.returns
returns c = form_says
