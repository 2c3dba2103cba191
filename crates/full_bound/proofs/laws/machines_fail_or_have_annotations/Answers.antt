use Rattle.full_bound.proofs.AnnotatedOrFailing.{annotated_or_failing, not_both}
use Rattle.full_bound.proofs.laws.machines_fail_or_have_annotations.Goals as goal

pub returns-clause-either : goal.returns-clause-either
returns-clause-either c = annotated_or_failing

pub returns-clause-not_both : goal.returns-clause-not_both
returns-clause-not_both c = not_both
