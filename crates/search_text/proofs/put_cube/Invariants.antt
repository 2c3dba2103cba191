-- What is written and what is left make the whole.
use Rattle.std.proofs.Common.{◌≡◌, ◌-◌, ◌++◌}
use Rattle.base_library.specs.Numbers.{numbers_from}
use Rattle.refutation_text.specs.Written.{clause_line}
use Rattle.search_text.specs.SearchTexts.{asked_literals, cube_literals}
use Rattle.search_text.proofs.put_cube.Given as goal

abbrev pub invariant-loop-bit : goal.invariant-loop-bit
invariant-loop-bit l =
    l.out.items ++ clause_line (asked_literals l.cube.care l.cube.want (numbers_from l.bit (64 - l.bit)))
    ≡ l.fn.out.items ++ clause_line (cube_literals l.cube.care l.cube.want)
