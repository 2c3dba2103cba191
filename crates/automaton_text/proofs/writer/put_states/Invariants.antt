-- What is written and what is left make the whole.
use Rattle.std.proofs.Common.{◌≡◌, ◌++◌, drop}
use Rattle.tsl_text.specs.Written.{text_of_lines}
use Rattle.annotation_check.specs.EdgeLists.{edge_lists}
use Rattle.automaton_text.specs.internal.Written.{listed_lines}
use Rattle.automaton_text.proofs.writer.put_states.Given as goal

abbrev pub invariant-loop-state : goal.invariant-loop-state
invariant-loop-state l =
    l.out.items ++ text_of_lines (listed_lines l.bits l.state (edge_lists (drop l.state l.table)))
    ≡ l.fn.out.items ++ text_of_lines (listed_lines l.bits 0 (edge_lists l.table))
