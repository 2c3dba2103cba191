-- What is written and what is left make the whole.
use Rattle.std.proofs.Common.{◌≡◌, ◌++◌, drop, map}
use Rattle.tsl_text.specs.Written.{text_of_lines}
use Rattle.search_text.specs.SearchTexts.{learnt_line}
use Rattle.search_text.proofs.put_learnt.Given as goal

abbrev pub invariant-loop-clause : goal.invariant-loop-clause
invariant-loop-clause l = l.out.items ++ text_of_lines (map learnt_line (drop l.clause-index l.clauses))
    ≡ l.fn.out.items ++ text_of_lines (map learnt_line l.clauses)
