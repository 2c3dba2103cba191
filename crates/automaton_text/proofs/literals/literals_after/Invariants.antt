-- The literals so far, and then those that are left.
use Rattle.std.proofs.Common.{◌≡◌, ◌∷◌, length}
use Rattle.std.specs.Prelude.{option_map}
use Rattle.line_formats.specs.Format.{value_of_line}
use Rattle.automaton_text.specs.HoaLines.{Literals, literal_leaves, more_literals, further_literals}
use Rattle.automaton_text.specs.HoaView.{literal_tree, literal_trees}
use Rattle.automaton_text.proofs.LiteralLines.{with_front}
use Rattle.automaton_text.proofs.literals.literals_after.Given as goal

abbrev pub invariant-loop-rest : goal.invariant-loop-rest
invariant-loop-rest l =
    with_front (literal_trees l.literals.items) (value_of_line Literals literal_leaves more_literals l.rest)
    ≡ option_map (λ v. literal_tree l.fn.first ∷ further_literals v) (value_of_line Literals literal_leaves more_literals l.bytes)

abbrev pub decreases-loop-rest : goal.decreases-loop-rest
decreases-loop-rest l = length l.rest
