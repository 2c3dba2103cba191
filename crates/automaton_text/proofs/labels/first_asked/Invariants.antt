-- No bit so far is asked for.
use Rattle.std.proofs.Common.{◌≡◌, ◌-◌}
use Rattle.std.specs.Prelude.{filter}
use Rattle.base_library.specs.Numbers.{numbers_from}
use Rattle.ltl_formula.specs.Cubes.{has_bit}
use Rattle.automaton_text.specs.HoaText.{bits_asked}
use Rattle.automaton_text.proofs.labels.first_asked.Given as goal

abbrev pub invariant-loop-bit : goal.invariant-loop-bit
invariant-loop-bit l = filter (λ b. has_bit b l.care) (numbers_from l.bit (l.bits - l.bit)) ≡ bits_asked l.bits l.care
