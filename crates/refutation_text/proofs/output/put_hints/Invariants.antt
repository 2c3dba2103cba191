-- What is written and what is left make the whole.
use Rattle.std.proofs.Common.{◌≡◌, ◌++◌, drop}
use Rattle.std.specs.Prelude.{decimal}
use Rattle.refutation_text.specs.Written.{ended_list}
use Rattle.refutation_text.proofs.output.put_hints.Given as goal

abbrev pub invariant-loop-hint : goal.invariant-loop-hint
invariant-loop-hint l = l.out.items ++ ended_list decimal (drop l.hint-index l.hints) ≡ l.fn.out.items ++ ended_list decimal l.hints
