use Rattle.refinement_loop.proofs.OneAnswer.{not_written}
use Rattle.refinement_loop.proofs.OneOutcome.{first_answer}
use Rattle.refinement_loop.proofs.laws.written_or_none.Goals as goal

pub returns-clause-written : goal.returns-clause-written
returns-clause-written c = not_written

pub returns-clause-without_rounds : goal.returns-clause-without_rounds
returns-clause-without_rounds c = λ spec search outcome found is. first_answer spec search found outcome is
