-- What is written and what is left make the whole.
use Rattle.std.proofs.Common.{◌≡◌, ◌++◌, drop}
use Rattle.trace_text.specs.TraceText.{verdicts_text}
use Rattle.trace_text.proofs.put_verdicts.Given as goal

abbrev pub invariant-loop-number : goal.invariant-loop-number
invariant-loop-number l =
    l.out.items ++ verdicts_text l.has_formula l.number (drop l.number l.verdicts) ≡ l.fn.out.items
    ++ verdicts_text l.has_formula 0 l.verdicts
