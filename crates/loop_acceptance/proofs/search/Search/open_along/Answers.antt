use Rattle.std.proofs.Common.{◌∙◌, ◌-◌, ℕ, length, Vec, refl, sym, ap, subst, arith}
use Rattle.std.specs.declared.alloc.Global.{Global}
use Rattle.std.proofs.lemmas.Option.{same_Some}
use Rattle.loop_acceptance.specs.declared.product.Step.{Step}
use Rattle.loop_acceptance.specs.internal.Product.{nodes_of, edge_rows_of, steps_in, row_edges}
use Rattle.loop_acceptance.specs.internal.Search.{IsNotNew}
use Rattle.loop_acceptance.proofs.OpenedNodes.{IsOpenedAlong, opened_along}
use Rattle.loop_acceptance.proofs.ProductSteps.{step_within}
use Rattle.loop_acceptance.proofs.search.Search.open_along.Goals as goal
use Rattle.loop_acceptance.proofs.search.Search.open_along.Goals.{In_ok-open_node}

pub place_count-places-requires-clause-within : goal.place_count-places-requires-clause-within
place_count-places-requires-clause-within c =
    step_within c.args.product.now c.requires.product c.args.node c.args.place c.in-Some.step (sym c.product_step.ensures ∙ c.in-Some.is)

pub open_node-requires : goal.open_node-requires
open_node-requires c =
    let within = step_within c.args.product.now c.requires.product c.args.node c.args.place c.in-Some.step
    (sym c.product_step.ensures ∙ c.in-Some.is) in
    let size = c.requires.size in
    omega (arith, within, size)

-- what is found then
made : (c : In_ok-open_node) → IsOpenedAlong (steps_in c.args.product.now) (nodes_of c.args.product.now) c.args.self.now.marks
    c.args.self.now.frames.items c.in-Some.step.to (row_edges (edge_rows_of c.args.product.now)) c.open_node.new.self.marks
    c.open_node.new.self.red.items c.open_node.new.self.frames.items
made c =
    let step = steps_in c.args.product.now in
    let last = c.requires.last in
    let at = sym c.product_step.ensures ∙ c.in-Some.is in
    opened_along step (nodes_of c.args.product.now) c.args.self.now.marks c.args.self.now.red.items c.args.self.now.frames.items
    c.requires.search (length c.args.self.now.frames.items - 1) last.0 refl last.1 c.in-Some.step.to
    (c.args.place, c.in-Some.step, ap (λ n. step n c.args.place) last.2 ∙ at, refl)
    (step_within c.args.product.now c.requires.product c.args.node c.args.place c.in-Some.step at) c.place_count-places.result
    (row_edges (edge_rows_of c.args.product.now)) c.place_count-places.ensures.past c.place_count-places.ensures.few
    c.open_node.new.self.marks c.open_node.new.self.red.items c.open_node.new.self.frames.items
    c.in_ok-open_node.ensures.marks (ap (λ (v : Vec ℕ Global). v.items) c.open_node.ensures.red) c.in_ok-open_node.ensures.frames

pub returns-in_ok-open_node-clause-search : goal.returns-in_ok-open_node-clause-search
returns-in_ok-open_node-clause-search c = (made c).search

pub returns-in_ok-open_node-clause-seen : goal.returns-in_ok-open_node-clause-seen
returns-in_ok-open_node-clause-seen c = λ s is.
    subst (λ (x : Step). IsNotNew c.open_node.new.self.marks x.to)
    (same_Some c.in-Some.step s (sym (sym c.product_step.ensures ∙ c.in-Some.is) ∙ is)) (made c).seen

pub returns-in_ok-open_node-clause-stay : goal.returns-in_ok-open_node-clause-stay
returns-in_ok-open_node-clause-stay c = (made c).stay

pub returns-in_ok-open_node-clause-left : goal.returns-in_ok-open_node-clause-left
returns-in_ok-open_node-clause-left c = (made c).left
