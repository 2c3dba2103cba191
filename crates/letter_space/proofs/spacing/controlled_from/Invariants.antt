use Rattle.std.proofs.Common.{◌≡◌, ◌+◌, ◌≤◌, ◌++◌, map, drop}
use Rattle.tsl_terms.specs.SpecView.{spec_tree}
use Rattle.tsl_terms.specs.Signals.{choices_of}
use Rattle.letter_space.specs.declared.limits.TheConstants.{MOST_BITS}
use Rattle.letter_space.specs.SpaceTree.{choice_count}
use Rattle.letter_space.specs.ControlledView.{controlled_tree}
use Rattle.letter_space.specs.SpecSpace.{controlled_from}
use Rattle.letter_space.proofs.spacing.controlled_from.Given as goal

-- the bits so far are few, and what is there and what is left make the whole
abbrev pub invariant-loop-signal : goal.invariant-loop-signal
invariant-loop-signal l =
    (l.next ≤ MOST_BITS)
    × (map controlled_tree l.list.items ++ controlled_from (choices_of (spec_tree l.spec)) l.next (drop l.signal-index l.signals)
    ≡ controlled_from (choices_of (spec_tree l.spec)) l.fn.first l.signals)
    × (l.next + choice_count (controlled_from (choices_of (spec_tree l.spec)) l.next (drop l.signal-index l.signals))
    ≡ l.fn.first + choice_count (controlled_from (choices_of (spec_tree l.spec)) l.fn.first l.signals))
