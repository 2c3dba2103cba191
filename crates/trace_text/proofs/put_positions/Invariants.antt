-- What is written and what is left make the whole.
use Rattle.std.proofs.Common.{◌≡◌, ◌++◌, map, drop}
use Rattle.tsl_meaning.specs.RunTree.{position_tree, run_tree}
use Rattle.trace_text.specs.TraceText.{positions_text}
use Rattle.trace_text.proofs.put_positions.Given as goal

abbrev pub invariant-loop-number : goal.invariant-loop-number
invariant-loop-number l =
    l.out.items ++ positions_text l.names (run_tree (λ v. v) l.run) l.number (map (position_tree (λ v. v))
    (drop l.number l.run.positions)) ≡ l.fn.out.items
    ++ positions_text l.names (run_tree (λ v. v) l.run) 0 (map (position_tree (λ v. v)) l.run.positions)
