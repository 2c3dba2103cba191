use Rattle.std.proofs.Common.{◌≡◌, rules}
use Rattle.tsl_terms.specs.TermTree.{term_tree}
use Rattle.tsl_terms.specs.SameTree.{same_tree}
use Rattle.tsl_terms.proofs.SameLemmas.{same_by_test}
use Rattle.tsl_terms.proofs.same.+same_terms.Goals as goal

pub same_term-returns-then-f-g-clause-equal : goal.same_term-returns-then-f-g-clause-equal
same_term-returns-then-f-g-clause-equal t c =
    let test : c.same_terms.result ≡ same_tree (term_tree c.args.a.now) (term_tree c.args.b.now) = search rules in
    same_by_test _ _ _ test
