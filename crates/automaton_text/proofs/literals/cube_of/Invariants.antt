-- The cube so far, with the literals that are left, is the whole one.
use Rattle.std.proofs.Common.{◌≡◌, drop}
use Rattle.ltl_formula.specs.Cubes.{IsWithin}
use Rattle.automaton_text.specs.HoaLines.{care_with, want_with}
use Rattle.automaton_text.specs.HoaView.{literal_trees}
use Rattle.automaton_text.proofs.literals.cube_of.Given as goal

abbrev pub invariant-loop-literal : goal.invariant-loop-literal
invariant-loop-literal l =
    (care_with l.care (literal_trees (drop l.literal-index l.literals)) ≡ care_with 0 (literal_trees l.literals))
    × (want_with l.want (literal_trees (drop l.literal-index l.literals)) ≡ want_with 0 (literal_trees l.literals))
    × IsWithin l.care l.want
