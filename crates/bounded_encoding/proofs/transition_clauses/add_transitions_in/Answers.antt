use Rattle.std.specs.Prelude.{OnOk}
use Rattle.std.proofs.Common.{◌≡◌, ◌∙◌, List, ap, sym, subst}
use Rattle.std.specs.List.{flat_map}
use Rattle.std.proofs.lemmas.List.Folds.{flat_map-map}
use Rattle.clause_core.specs.Literals.{Lit}
use Rattle.cobuchi_automata.specs.declared.automaton.Edge.{Edge}
use Rattle.cobuchi_automata.specs.Edges.{edge_tree}
use Rattle.bounded_encoding.specs.FrameView.{side_of}
use Rattle.bounded_encoding.specs.Sides.{clauses_along, clauses_in}
use Rattle.bounded_encoding.specs.Made.{with_clauses}
use Rattle.bounded_encoding.specs.Refusing.{Refuses}
use Rattle.bounded_encoding.proofs.transition_clauses.add_transitions_in.Goals as goal

pub returns-clause-added : goal.returns-clause-added
returns-clause-added g c =
    let along = clauses_along (side_of c.args.frame.now (g.S.Side.met c.args.side.now) (g.S.Side.base c.args.side.now)) c.args.s in
    let listed : flat_map (λ e. along (edge_tree e)) c.as_slice.result.now
    ≡ clauses_in (side_of c.args.frame.now (g.S.Side.met c.args.side.now) (g.S.Side.base c.args.side.now)) c.args.s
    = ap (flat_map (λ (e : Edge). along (edge_tree e))) c.as_slice.ensures
    ∙ sym (flat_map-map along edge_tree c.args.frame.now.automaton.now.edges) in
    subst
    (λ (more : List (List Lit)). OnOk c.add_each_edge.result (c.add_each_edge.new.out ≡ with_clauses c.args.out.now more))
    listed c.add_each_edge.ensures.added

pub returns-clause-refused : goal.returns-clause-refused
returns-clause-refused g c =
    let along = clauses_along (side_of c.args.frame.now (g.S.Side.met c.args.side.now) (g.S.Side.base c.args.side.now)) c.args.s in
    let listed : flat_map (λ e. along (edge_tree e)) c.as_slice.result.now
    ≡ clauses_in (side_of c.args.frame.now (g.S.Side.met c.args.side.now) (g.S.Side.base c.args.side.now)) c.args.s
    = ap (flat_map (λ (e : Edge). along (edge_tree e))) c.as_slice.ensures
    ∙ sym (flat_map-map along edge_tree c.args.frame.now.automaton.now.edges) in
    subst (λ (more : List (List Lit)). Refuses c.add_each_edge.result (with_clauses c.args.out.now more))
    listed c.add_each_edge.ensures.refused
