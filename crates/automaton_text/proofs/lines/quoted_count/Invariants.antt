-- Those so far, and then those that are left.
use Rattle.std.proofs.Common.{◌≡◌, ◌+◌, ◌≤◌, length}
use Rattle.std.specs.Prelude.{option_map}
use Rattle.automaton_text.specs.HoaLines.{bit_texts, line_value}
use Rattle.automaton_text.proofs.lines.quoted_count.Given as goal

abbrev pub invariant-loop-rest : goal.invariant-loop-rest
invariant-loop-rest l =
    (option_map (λ v. l.count + length v.0) (line_value bit_texts l.rest) ≡ option_map (λ v. length v.0) (line_value bit_texts l.bytes))
    × (l.count + length l.rest ≤ length l.bytes)

abbrev pub decreases-loop-rest : goal.decreases-loop-rest
decreases-loop-rest l = length l.rest
