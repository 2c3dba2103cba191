use Rattle.std.proofs.Common.{◌∙◌, sym}
use Rattle.std.proofs.lemmas.Bool.{true≢false}
use Rattle.cobuchi_automata.specs.Edges.{edge_tree}
use Rattle.bounded_encoding.specs.FrameView.{frame_tree}
use Rattle.bounded_encoding.specs.internal.Transitions.{unless, clauses_for}
use Rattle.bounded_encoding.proofs.LeftOut.{with_nothing, nothing_stays}
use Rattle.bounded_encoding.proofs.NoPairs.{none_paired_along}
use Rattle.bounded_encoding.proofs.transition_clauses.add_transitions_to.Goals as goal

pub returns-then-leads_to_itself-clause-added : goal.returns-then-leads_to_itself-clause-added
returns-then-leads_to_itself-clause-added c =
    let is = c.leads_to_itself.ensures.0 c.if-leads_to_itself.true in
    let f = frame_tree c.args.frame.now in
    let e = edge_tree c.args.transition.edge in
    sym (with_nothing c.args.out.now (clauses_for f c.args.transition c.args.t)
    (nothing_stays f (unless f c.args.transition) e c.args.transition.state c.args.transition.row is.1 is.2 c.args.t is.0))

pub add_numbered-requires-clause-unpaired : goal.add_numbered-requires-clause-unpaired
add_numbered-requires-clause-unpaired c =
    λ i low. none_paired_along (frame_tree c.args.frame.now) c.args.transition.base (edge_tree c.args.transition.edge)
    c.args.transition.state c.args.transition.row c.args.t i c.requires.within.own c.requires.within.state c.requires.within.row
    c.requires.next c.requires.within.from c.requires.within.to low
    (λ is. true≢false (sym (c.leads_to_itself.ensures.1 is) ∙ c.if-leads_to_itself.false))
