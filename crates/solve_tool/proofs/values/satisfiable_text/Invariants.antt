-- What is written and what is left make the whole.
use Rattle.std.proofs.Common.{◌≡◌, ◌++◌, drop}
use Rattle.solve_tool.specs.Values.{value_lines, satisfiable_text}
use Rattle.solve_tool.proofs.values.satisfiable_text.Given as goal

abbrev pub invariant-loop-place : goal.invariant-loop-place
invariant-loop-place l = l.out.items ++ value_lines l.place (drop l.place l.truths) ≡ satisfiable_text l.truths
