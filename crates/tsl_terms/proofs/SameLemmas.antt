-- The test of terms and probes is equality.
use Rattle.std.proofs.Common.{◌≡◌, ◌↔◌, IsTrue, Bool, true, ◌==◌, refl, sym, ap, ◌∙◌, eq-eqb}
use Rattle.std.proofs.lemmas.Bool.{and_parts, and_from, eqb-true, false≢true}
use Rattle.tsl_terms.specs.TermTree.{TermTree, signal, apply, TermTrees, no_terms, more_terms, ProbeTree}
use Rattle.tsl_terms.specs.SameTree.{same_tree, same_trees, same_probe_tree}

mutual
  pub same_tree_is : (a b : TermTree) → same_tree a b ≡ true → a ≡ b
  same_tree_is (signal r) (signal s) h = ap signal (eqb-true r s h)
  same_tree_is (apply f ts) (apply g us) h =
      λ i. apply (eqb-true f g (and_parts (f == g) (same_trees ts us) h).0 i)
      (same_trees_is ts us (and_parts (f == g) (same_trees ts us) h).1 i)
  same_tree_is (signal r) (apply g us) h = absurd (false≢true h)
  same_tree_is (apply f ts) (signal s) h = absurd (false≢true h)

  pub same_trees_is : (ts us : TermTrees) → same_trees ts us ≡ true → ts ≡ us
  same_trees_is no_terms no_terms h = refl
  same_trees_is (more_terms t ts) (more_terms u us) h =
      λ i. more_terms (same_tree_is t u (and_parts (same_tree t u) (same_trees ts us) h).0 i)
      (same_trees_is ts us (and_parts (same_tree t u) (same_trees ts us) h).1 i)
  same_trees_is no_terms (more_terms u us) h = absurd (false≢true h)
  same_trees_is (more_terms t ts) no_terms h = absurd (false≢true h)

mutual
  pub same_tree_itself : (a : TermTree) → same_tree a a ≡ true
  same_tree_itself (signal r) = eq-eqb r r refl
  same_tree_itself (apply f ts) = and_from (f == f) (same_trees ts ts) (eq-eqb f f refl) (same_trees_itself ts)

  pub same_trees_itself : (ts : TermTrees) → same_trees ts ts ≡ true
  same_trees_itself no_terms = refl
  same_trees_itself (more_terms t ts) = and_from (same_tree t t) (same_trees ts ts) (same_tree_itself t) (same_trees_itself ts)

pub same_probe_is : (p q : ProbeTree) → same_probe_tree p q ≡ true → p ≡ q
same_probe_is p q h =
    λ i. record {
      predicate = eqb-true p.predicate q.predicate (and_parts (p.predicate == q.predicate) (same_trees p.arguments q.arguments) h).0 i;
      arguments = same_trees_is p.arguments q.arguments (and_parts (p.predicate == q.predicate) (same_trees p.arguments q.arguments) h).1 i;
    }

pub same_probe_itself : (p : ProbeTree) → same_probe_tree p p ≡ true
same_probe_itself p =
    and_from (p.predicate == p.predicate) (same_trees p.arguments p.arguments) (eq-eqb p.predicate p.predicate refl)
    (same_trees_itself p.arguments)

-- what an answer of the test says
pub same_by_test : (answer : Bool) (a b : TermTree) → answer ≡ same_tree a b → IsTrue answer ↔ (a ≡ b)
same_by_test answer a b is = (λ h. same_tree_is a b (sym is ∙ h), λ e. is ∙ rw (← e) (same_tree_itself a))

pub same_probe_by_test : (answer : Bool) (p q : ProbeTree) → answer ≡ same_probe_tree p q → IsTrue answer ↔ (p ≡ q)
same_probe_by_test answer p q is = (λ h. same_probe_is p q (sym is ∙ h), λ e. is ∙ rw (← e) (same_probe_itself p))
