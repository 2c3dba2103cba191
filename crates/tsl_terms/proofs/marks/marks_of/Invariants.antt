use Rattle.std.proofs.Common.{◌≡◌, false, length, replicate, take}
use Rattle.std.specs.List.{list_any}
use Rattle.tsl_terms.specs.AtomView.{atom_tree}
use Rattle.tsl_terms.specs.internal.Marked.{marked}
use Rattle.tsl_terms.specs.Signals.{atom_reads, atom_updates}
use Rattle.tsl_terms.proofs.marks.marks_of.Given as goal

-- what the atoms so far update and read is marked
abbrev pub invariant-loop-atom : goal.invariant-loop-atom
invariant-loop-atom l =
    (l.marks.updated.items
    ≡ marked (λ s. list_any (λ a. atom_updates s (atom_tree a)) (take l.atom-index l.atom-items))
    (replicate (length l.spec.names) false))
    × (l.marks.read.items
    ≡ marked (λ s. list_any (λ a. atom_reads s (atom_tree a)) (take l.atom-index l.atom-items)) (replicate (length l.spec.names) false))
