use Rattle.tsl_terms.proofs.SingleClasses.{one_class_is_one}
use Rattle.tsl_terms.proofs.laws.classes_without_pairs_are_single.Goals as goal

pub returns : goal.returns
returns c = one_class_is_one
