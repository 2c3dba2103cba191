use Rattle.std.proofs.Common.{◌≡◌, ◌+◌, ◌++◌, not, filter, map}
use Rattle.ltl_formula.specs.Cubes.{has_bit}
use Rattle.cobuchi_automata.specs.Edges.{edge_tree}
use Rattle.bounded_encoding.specs.ClauseLists.{between}
use Rattle.bounded_encoding.specs.Sides.{differing}
use Rattle.bounded_encoding.proofs.edge_literals.put_differing.Given as goal

abbrev pub invariant-loop-b : goal.invariant-loop-b
invariant-loop-b l = l.literals.items
    ++ map (λ b. record { index = l.fn.base + b; positive = not (has_bit (l.fn.first_bit + b) l.fn.edge.cube.want) })
    (filter (λ b. has_bit (l.fn.first_bit + b) l.fn.edge.cube.care) (between l.b l.fn.bits))
    ≡ differing l.fn.base l.fn.first_bit l.fn.bits (edge_tree l.fn.edge)
