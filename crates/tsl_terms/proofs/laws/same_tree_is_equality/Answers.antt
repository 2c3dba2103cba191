use Rattle.tsl_terms.proofs.SameLemmas.{same_tree_is, same_tree_itself, same_probe_is, same_probe_itself}
use Rattle.tsl_terms.proofs.laws.same_tree_is_equality.Goals as goal

pub returns-clause-terms : goal.returns-clause-terms
returns-clause-terms c = λ a b. (same_tree_is a b, λ e. rw (← e) (same_tree_itself a))

pub returns-clause-probes : goal.returns-clause-probes
returns-clause-probes c = λ p q. (same_probe_is p q, λ e. rw (← e) (same_probe_itself p))
