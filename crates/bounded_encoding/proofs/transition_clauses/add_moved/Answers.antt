use Rattle.std.proofs.Common.{◌≡◌, ◌∙◌, List, arith, map, subst}
use Rattle.clause_core.specs.Literals.{Lit}
use Rattle.bounded_encoding.specs.FrameView.{frame_tree}
use Rattle.bounded_encoding.specs.internal.Transitions.{moved, IsRoom, unless}
use Rattle.cobuchi_automata.specs.Edges.{edge_tree}
use Rattle.bounded_encoding.proofs.Moved.{moved_differing, asked_fits}
use Rattle.bounded_encoding.proofs.transition_clauses.add_moved.Goals as goal

pub add_each_next-requires-clause-room : goal.add_each_next-requires-clause-room
add_each_next-requires-clause-room c =
    let base = c.args.transition.base in
    let f = frame_tree c.args.frame.now in
    let is : map (moved base) c.args.asked.now ≡ unless f c.args.transition
    = (λ i. map (moved base) (c.requires.asked i)) ∙ moved_differing base f.first_bit f.bits (edge_tree c.args.transition.edge) in
    subst (λ (middle : List Lit). IsRoom middle c.put_moved.new.literals) is c.put_moved.ensures

pub put_moved-requires-clause-fits : goal.put_moved-requires-clause-fits
put_moved-requires-clause-fits c = asked_fits c.args.transition.base c.args.frame.now.first_bit c.args.frame.now.bits
    (edge_tree c.args.transition.edge) c.args.asked.now (omega (arith, c.requires.within.own, c.requires.framed.few)) c.requires.asked
