-- Equality of terms and probes as a test: two terms are the same where they are one tree.
use Rattle.std.specs.Prelude.{Bool, true, false, ◌&&◌, ◌==◌}
use Rattle.tsl_terms.specs.TermTree.{TermTree, signal, apply, TermTrees, no_terms, more_terms, ProbeTree}

abbrev mutual
  pub same_tree : TermTree → TermTree → Bool
  same_tree (signal r) (signal s) = r == s
  same_tree (apply f ts) (apply g us) = (f == g) && same_trees ts us
  same_tree (signal r) (apply g us) = false
  same_tree (apply f ts) (signal s) = false

  pub same_trees : TermTrees → TermTrees → Bool
  same_trees no_terms no_terms = true
  same_trees (more_terms t ts) (more_terms u us) = same_tree t u && same_trees ts us
  same_trees no_terms (more_terms u us) = false
  same_trees (more_terms t ts) no_terms = false

abbrev pub same_probe_tree : ProbeTree → ProbeTree → Bool
same_probe_tree p q = (p.predicate == q.predicate) && same_trees p.arguments q.arguments
