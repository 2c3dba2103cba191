use Rattle.std.proofs.Common.{◌∙◌, length, ap, sym, subst, arith}
use Rattle.std.proofs.lemmas.List.{length-map}
use Rattle.depth_first_search.specs.Graphs.{graph_of, IsGraph, ReachesFrom, HasCycle, IsOrder, IsFirstOnCycle}
use Rattle.definition_expansion.proofs.UseGraphs.{is_graph, order_by_names, cycle_by_names, cycle_is_found}
use Rattle.definition_expansion.proofs.ordering.order.Goals as goal

pub order-requires-clause-graph : goal.order-requires-clause-graph
order-requires-clause-graph c =
    subst IsGraph (sym (ap graph_of c.deref.ensures.value ∙ c.in_ok-uses.ensures.rows))
    (is_graph c.args.heads.now c.args.definitions.now c.requires c.uses_of_each.ensures.distinct)

pub returns-in-Some-clause-order : goal.returns-in-Some-clause-order
returns-in-Some-clause-order c =
    order_by_names c.args.heads.now c.args.definitions.now c.requires c.uses_of_each.ensures.distinct c.in-Some.order.items
    (subst (λ g. IsOrder g c.in-Some.order.items) (ap graph_of c.deref.ensures.value ∙ c.in_ok-uses.ensures.rows)
    (rw c.in-Some.is at c.in_ok-order.ensures))

pub first_on_cycle-requires-clause-graph : goal.first_on_cycle-requires-clause-graph
first_on_cycle-requires-clause-graph c =
    subst IsGraph (sym (ap graph_of c.deref-2.ensures.value ∙ c.in_ok-uses.ensures.rows))
    (is_graph c.args.heads.now c.args.definitions.now c.requires c.uses_of_each.ensures.distinct)

pub returns-clause-fault : goal.returns-clause-fault
returns-clause-fault c =
    cycle_by_names c.args.heads.now c.args.definitions.now c.requires c.uses_of_each.ensures.distinct c.in-Some-2.number
    (subst (λ g. IsFirstOnCycle g c.in-Some-2.number) (ap graph_of c.deref-2.ensures.value ∙ c.in_ok-uses.ensures.rows)
    (rw c.in-Some-2.is at c.in_ok-number.ensures))

pub unreachable-requires : goal.unreachable-requires
unreachable-requires c =
    let first = ap graph_of c.deref.ensures.value ∙ c.in_ok-uses.ensures.rows in
    let again = ap graph_of c.deref-2.ensures.value ∙ c.in_ok-uses.ensures.rows in
    let none = rw c.in-None.is at c.in_ok-number.ensures in
    cycle_is_found c.args.heads.now c.args.definitions.now c.requires c.uses_of_each.ensures.distinct
    (subst HasCycle first (rw c.in_default.is at c.in_ok-order.ensures))
    (λ i within reaches. none i
    (omega (arith, within, ap length again, length-map c.deref-2.result.now (λ r. r.items)))
    (subst (λ g. ReachesFrom g i i) (sym again) reaches))
