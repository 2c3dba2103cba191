use Rattle.std.proofs.Common.{◌≡◌, map, take}
use Rattle.letter_space.specs.ControlledView.{controlled_tree}
use Rattle.search_tests.proofs.windows.signals_of.Given as goal

-- the signals gone through
abbrev pub invariant-loop-controlled : goal.invariant-loop-controlled
invariant-loop-controlled l =
    l.signals.items ≡ map (λ c. c.signal) (map controlled_tree (take l.controlled-index l.controlled-items))
