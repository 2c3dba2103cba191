use Rattle.std.proofs.Common.{◌≡◌, filter}
use Rattle.base_library.specs.Numbers.{numbers_from}
use Rattle.tsl_terms.specs.Signals.{is_input, is_cell, is_output}
use Rattle.tsl_terms.specs.SpecView.{spec_tree}
use Rattle.tsl_terms.proofs.signal_lists.signals.Given as goal

-- the lists so far
abbrev pub invariant-loop-id : goal.invariant-loop-id
invariant-loop-id l =
    (l.inputs ≡ filter (is_input (spec_tree l.spec)) (numbers_from 0 l.id))
    × (l.cells ≡ filter (is_cell (spec_tree l.spec)) (numbers_from 0 l.id))
    × (l.outputs ≡ filter (is_output (spec_tree l.spec)) (numbers_from 0 l.id))
