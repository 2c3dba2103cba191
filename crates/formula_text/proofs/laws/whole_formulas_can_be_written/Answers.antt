use Rattle.formula_text.proofs.Written.{whole_written}
use Rattle.formula_text.proofs.laws.whole_formulas_can_be_written.Goals as goal

pub returns : goal.returns
returns c = whole_written
