use Rattle.std.proofs.Common.{◌≡◌, drop}
use Rattle.automaton_text.specs.HoaLines.{rise}
use Rattle.automaton_text.specs.HoaView.{literal_trees}
use Rattle.automaton_text.proofs.literals.rise.Given as goal

abbrev pub invariant-loop-literal : goal.invariant-loop-literal
invariant-loop-literal l =
    rise l.bits l.least (literal_trees (drop l.literal-index l.literals)) ≡ rise l.bits 0 (literal_trees l.literals)
