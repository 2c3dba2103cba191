use Rattle.lasso_text.proofs.FirstLines.{first_of_loops}
use Rattle.lasso_text.proofs.text_laws.no_loop_goes_on_with_a_first_wrong_line.Goals as goal

pub returns : goal.returns
returns c = first_of_loops
