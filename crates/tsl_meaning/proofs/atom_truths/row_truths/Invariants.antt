use Rattle.std.proofs.Common.{◌≡◌, Bool, false, map, take}
use Rattle.std.specs.Option.{option_map_or}
use Rattle.tsl_terms.specs.TermTree.{probe_tree}
use Rattle.tsl_terms.specs.Value.{truth}
use Rattle.interp_core.specs.LeafValue.{leaf_value}
use Rattle.tsl_meaning.proofs.atom_truths.row_truths.Given as goal

-- the truths at the positions so far
abbrev pub invariant-loop-values : goal.invariant-loop-values
invariant-loop-values g l =
    l.truths.items ≡ map (λ v. option_map_or (λ (holds : Bool). holds)
    (truth (g.J.Algebra.meanings l.judge) (leaf_value g.J.Algebra.seen v) (probe_tree l.probe)) false)
    (take l.values-index l.leaves)
