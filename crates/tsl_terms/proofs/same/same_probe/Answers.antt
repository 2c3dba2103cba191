use Rattle.std.proofs.Common.{◌≡◌, rules}
use Rattle.tsl_terms.specs.TermTree.{probe_tree}
use Rattle.tsl_terms.specs.SameTree.{same_probe_tree}
use Rattle.tsl_terms.proofs.SameLemmas.{same_probe_by_test}
use Rattle.tsl_terms.proofs.same.same_probe.Goals as goal

pub returns-then-a-b-clause-equal : goal.returns-then-a-b-clause-equal
returns-then-a-b-clause-equal c =
    let test : c.same_terms.result ≡ same_probe_tree (probe_tree c.args.a.now) (probe_tree c.args.b.now) = search rules in
    same_probe_by_test _ _ _ test
