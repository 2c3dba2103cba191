use Rattle.std.proofs.Common.{◌≡◌, ◌++◌, codes}
use Rattle.std.specs.Prelude.{flat_map}
use Rattle.base_library.specs.Numbers.{numbers_from}
use Rattle.generator.specs.Generated.{response_line}
use Rattle.generator.proofs.gen_text.Given as goal

abbrev pub invariant-loop-i : goal.invariant-loop-i
invariant-loop-i l = l.out.items ≡ codes "always guarantee {\n" ++ flat_map response_line (numbers_from 0 l.i)
