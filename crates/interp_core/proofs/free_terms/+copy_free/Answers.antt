use Rattle.std.proofs.Common.{arith, rules}
use Rattle.interp_core.specs.declared.free_terms.FreeList.{the_lemmas}
use Rattle.base_library.proofs.Lists.{with_front_push}
use Rattle.interp_core.proofs.free_terms.+copy_free.Goals as goal

pub copy_frees-loop-rest-preserved : goal.copy_frees-loop-rest-preserved
copy_frees-loop-rest-preserved t c = (grind (arith, with_front_push), search (rules, the_lemmas))
