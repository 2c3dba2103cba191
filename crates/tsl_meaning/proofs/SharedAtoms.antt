-- Atoms that are equal.
use Rattle.std.proofs.Common.{◌≡◌, ◌==◌, true}
use Rattle.std.proofs.lemmas.Bool.{and_parts, eqb-true, false≢true}
use Rattle.tsl_terms.specs.FormulaTree.{Atom, test, update}
use Rattle.tsl_terms.specs.SameTree.{same_tree}
use Rattle.tsl_terms.proofs.SameLemmas.{same_tree_is, same_probe_is}
use Rattle.tsl_meaning.specs.internal.SharedAtoms.{same_atom}

pub same_atom_is : (a b : Atom) → same_atom a b ≡ true → a ≡ b
same_atom_is (test p) (test q) same = λ i. test (same_probe_is p q same i)
same_atom_is (update r t) (update s u) same =
    let parts = and_parts (r == s) (same_tree t u) same in
    λ i. update (eqb-true r s parts.0 i) (same_tree_is t u parts.1 i)
same_atom_is (test p) (update s u) same = absurd (false≢true same)
same_atom_is (update r t) (test q) same = absurd (false≢true same)
