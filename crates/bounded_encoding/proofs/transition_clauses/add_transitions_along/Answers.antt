use Rattle.std.proofs.Common.{◌∙◌, ◌<◌, sym, subst, All, List, ℕ}
use Rattle.std.proofs.lemmas.List.Elements.{All-from_recursion}
use Rattle.cobuchi_automata.specs.Edges.{edge_tree}
use Rattle.bounded_encoding.specs.FrameView.{side_of}
use Rattle.bounded_encoding.specs.Sides.{clauses_along}
use Rattle.bounded_encoding.proofs.LeftOut.{with_nothing, nothing_in_one_state}
use Rattle.bounded_encoding.proofs.transition_clauses.add_transitions_along.Goals as goal

pub returns-then-leads_to_itself-clause-added : goal.returns-then-leads_to_itself-clause-added
returns-then-leads_to_itself-clause-added g c =
    let is = c.leads_to_itself.ensures.0 c.if-leads_to_itself.true in
    let side = side_of c.args.frame.now (g.S.Side.met c.args.side.now) (g.S.Side.base c.args.side.now) in
    sym (with_nothing c.args.out.now (clauses_along side c.args.s (edge_tree c.args.edge))
    (nothing_in_one_state side (edge_tree c.args.edge) c.args.s c.if-frame-eq1.true is.0 is.1 is.2))

pub add_each_row-requires-clause-met : goal.add_each_row-requires-clause-met
add_each_row-requires-clause-met g c = subst (λ (met : List ℕ). All (λ r. r < c.args.frame.now.rows) met)
    (sym (c.as_slice-rows.ensures.value ∙ c.in_ok-met.ensures))
    (All-from_recursion (λ r. r < c.args.frame.now.rows) (g.S.Side.met c.args.side.now (edge_tree c.args.edge))
    (c.requires.served.side.met (edge_tree c.args.edge)))
