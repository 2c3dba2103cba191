use Rattle.std.proofs.Common.{arith, rules}
use Rattle.tsl_terms.specs.declared.term.TermList.{the_lemmas}
use Rattle.base_library.proofs.Lists.{with_front_push}
use Rattle.tsl_terms.proofs.copy.+copy_terms.Goals as goal

pub copy_terms-loop-rest-preserved : goal.copy_terms-loop-rest-preserved
copy_terms-loop-rest-preserved t c = (grind (arith, with_front_push), search (rules, the_lemmas))
