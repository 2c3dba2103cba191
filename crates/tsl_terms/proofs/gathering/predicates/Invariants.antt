use Rattle.std.proofs.Common.{◌≡◌, [], map, take}
use Rattle.std.specs.List.{flat_map}
use Rattle.tsl_terms.specs.TermTree.{probe_tree}
use Rattle.tsl_terms.specs.AtomView.{atom_tree}
use Rattle.tsl_terms.specs.SameTree.{same_probe_tree}
use Rattle.tsl_terms.specs.Predicates.{probe_of}
use Rattle.base_library.specs.Kept.{with_new}
use Rattle.tsl_terms.proofs.gathering.predicates.Given as goal

-- the probes that the atoms so far test
abbrev pub invariant-loop-atom : goal.invariant-loop-atom
invariant-loop-atom l =
    map probe_tree l.probes.items ≡ with_new same_probe_tree [] (flat_map (λ a. probe_of (atom_tree a)) (take l.atom-index l.atom-items))
