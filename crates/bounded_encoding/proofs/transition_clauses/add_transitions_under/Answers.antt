use Rattle.std.specs.Prelude.{OnOk}
use Rattle.std.proofs.Common.{◌≡◌, ℕ, subst}
use Rattle.cobuchi_automata.specs.Edges.{edge_tree}
use Rattle.bounded_encoding.specs.FrameView.{frame_tree}
use Rattle.bounded_encoding.specs.Sides.{differing, clauses_from}
use Rattle.bounded_encoding.specs.Made.{with_clauses}
use Rattle.bounded_encoding.specs.Refusing.{Refuses}
use Rattle.bounded_encoding.proofs.transition_clauses.add_transitions_under.Goals as goal

pub returns-clause-added : goal.returns-clause-added
returns-clause-added g c =
    subst (λ (n : ℕ). OnOk c.add_moved.result (c.add_moved.new.out ≡ with_clauses c.args.out.now (clauses_from (frame_tree c.args.frame.now)
    (differing n c.args.frame.now.first_bit c.args.frame.now.bits (edge_tree c.args.edge)) c.args.s (edge_tree c.args.edge) c.args.row)))
    c.own_base-base.ensures c.add_moved.ensures.added

pub returns-clause-refused : goal.returns-clause-refused
returns-clause-refused g c =
    subst (λ (n : ℕ). Refuses c.add_moved.result (with_clauses c.args.out.now (clauses_from (frame_tree c.args.frame.now)
    (differing n c.args.frame.now.first_bit c.args.frame.now.bits (edge_tree c.args.edge)) c.args.s (edge_tree c.args.edge) c.args.row)))
    c.own_base-base.ensures c.add_moved.ensures.refused
