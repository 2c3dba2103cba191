use Rattle.std.proofs.Common.{◌≡◌, rules}
use Rattle.interp_core.specs.FreeView.{free_tree}
use Rattle.tsl_terms.specs.SameFree.{same_free}
use Rattle.tsl_terms.proofs.SameFrees.{equal_by_test}
use Rattle.interp_core.proofs.free_terms.+same_free.Goals as goal

pub are_equal-returns-then-f-g-clause-equal : goal.are_equal-returns-then-f-g-clause-equal
are_equal-returns-then-f-g-clause-equal t c =
    let test : c.all_equal.result ≡ same_free (free_tree c.args.a.now) (free_tree c.args.b.now) = search rules in
    equal_by_test _ _ _ test
