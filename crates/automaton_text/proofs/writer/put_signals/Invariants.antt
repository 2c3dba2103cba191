-- What is written and what is left make the whole.
use Rattle.std.proofs.Common.{◌≡◌, ◌++◌, map, drop}
use Rattle.std.specs.Prelude.{flat_map}
use Rattle.letter_space.specs.ControlledView.{controlled_tree}
use Rattle.automaton_text.specs.BitNames.{choice_names}
use Rattle.automaton_text.specs.HoaText.{quoted_text}
use Rattle.automaton_text.proofs.writer.put_signals.Given as goal

abbrev pub invariant-loop-signal : goal.invariant-loop-signal
invariant-loop-signal l =
    l.out.items ++ flat_map quoted_text (flat_map (choice_names l.names) (map controlled_tree (drop l.signal-index l.signals)))
    ≡ l.fn.out.items ++ flat_map quoted_text (flat_map (choice_names l.names) (map controlled_tree l.signals))
