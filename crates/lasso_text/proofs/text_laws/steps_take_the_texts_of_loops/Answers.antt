use Rattle.lasso_text.proofs.LoopLaws.{is_short_text, of_loop}
use Rattle.lasso_text.proofs.text_laws.steps_take_the_texts_of_loops.Goals as goal

pub returns-clause-each : goal.returns-clause-each
returns-clause-each c = is_short_text

pub returns-clause-only : goal.returns-clause-only
returns-clause-only c = of_loop
