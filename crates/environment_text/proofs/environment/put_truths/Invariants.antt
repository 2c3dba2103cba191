-- What is written and what is left make the whole.
use Rattle.std.proofs.Common.{◌≡◌, ◌-◌, ◌++◌, codes}
use Rattle.std.specs.Prelude.{flat_map}
use Rattle.std.specs.List.{range_with_len}
use Rattle.ltl_formula.specs.Cubes.{has_bit}
use Rattle.environment_text.specs.EnvironmentText.{bit_text, truths_text}
use Rattle.environment_text.proofs.environment.put_truths.Given as goal

abbrev pub invariant-loop-bit : goal.invariant-loop-bit
invariant-loop-bit l =
    l.out.items ++ flat_map (λ b. codes " " ++ bit_text (has_bit b l.truths)) (range_with_len l.bit (l.tests - l.bit))
    ≡ l.fn.out.items ++ truths_text l.tests l.truths
