-- What is written and what is left make the whole.
use Rattle.std.proofs.Common.{◌≡◌, ◌-◌, ◌++◌, map}
use Rattle.std.specs.Prelude.{filter, flat_map, codes}
use Rattle.base_library.specs.Numbers.{numbers_from}
use Rattle.ltl_formula.specs.Cubes.{has_bit}
use Rattle.automaton_text.specs.HoaText.{literal_text}
use Rattle.automaton_text.proofs.labels.put_further.Given as goal

abbrev pub invariant-loop-bit : goal.invariant-loop-bit
invariant-loop-bit l =
    l.out.items ++ flat_map (λ m. codes "&" ++ m)
    (map (literal_text l.cube.want) (filter (λ b. has_bit b l.cube.care) (numbers_from l.bit (l.bits - l.bit))))
    ≡ l.fn.out.items ++ flat_map (λ m. codes "&" ++ m)
    (map (literal_text l.cube.want) (filter (λ b. has_bit b l.cube.care) (numbers_from l.from (l.bits - l.from))))
