use Rattle.std.proofs.Common.{◌≡◌, [], map, take}
use Rattle.std.specs.List.{flat_map}
use Rattle.tsl_terms.specs.TermTree.{term_tree}
use Rattle.tsl_terms.specs.AtomView.{atom_tree}
use Rattle.tsl_terms.specs.SameTree.{same_tree}
use Rattle.tsl_terms.specs.Signals.{term_for}
use Rattle.base_library.specs.Kept.{with_new}
use Rattle.tsl_terms.proofs.choosing.terms_for.Given as goal

-- the terms that the atoms so far name
abbrev pub invariant-loop-atom : goal.invariant-loop-atom
invariant-loop-atom l =
    map term_tree l.terms.items ≡ with_new same_tree [] (flat_map (λ a. term_for l.signal (atom_tree a)) (take l.atom-index l.atoms))
