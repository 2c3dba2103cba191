use Rattle.std.proofs.Common.{◌∙◌, ◌+◌, ◌*◌, length, Some, sym, ap, arith}
use Rattle.loop_acceptance.proofs.ProductSteps.{step_made, step_fits}
use Rattle.loop_acceptance.proofs.product.product_step.Goals as goal

pub overflow_add-result : goal.overflow_add-result
overflow_add-result c =
    let pair = c.pair_of-pair in
    let fits = step_fits c.args.product.now c.requires.product c.args.node pair.result.position pair.result.state c.requires.within
    pair.ensures.position pair.ensures.state c.args.place c.index-product-pair.result c.deref.result.now c.in_ok-edge.edge.now
    c.position_after.result c.deref.ensures.value c.in_ok-edge.ensures.lookup.3.0 c.in_ok-edge.ensures.lookup.1
    (sym c.matches.ensures ∙ c.if-not-matches.false) c.position_after.ensures in
    omega (arith, fits)

pub overflow_cast-result-2 : goal.overflow_cast-result-2
overflow_cast-result-2 c =
    let pair = c.pair_of-pair in
    let fits = step_fits c.args.product.now c.requires.product c.args.node pair.result.position pair.result.state c.requires.within
    pair.ensures.position pair.ensures.state c.args.place c.index-product-pair.result c.deref.result.now c.in_ok-edge.edge.now
    c.position_after.result c.deref.ensures.value c.in_ok-edge.ensures.lookup.3.0 c.in_ok-edge.ensures.lookup.1
    (sym c.matches.ensures ∙ c.if-not-matches.false) c.position_after.ensures in
    omega (arith, fits)

pub returns : goal.returns
returns c =
    let pair = c.pair_of-pair in
    let e = c.in_ok-edge.edge.now in
    ap (λ n. Some (record { to = n * length c.args.product.now.rows.now + e.to; rejecting = e.rejecting })) c.position_after.ensures
    ∙ sym (step_made c.args.product.now c.requires.product c.args.node pair.result.position pair.result.state c.requires.within
    pair.ensures.position pair.ensures.state c.args.place c.index-product-pair.result c.deref.result.now e
    c.deref.ensures.value c.in_ok-edge.ensures.lookup.3.0 c.in_ok-edge.ensures.lookup.1 (sym c.matches.ensures ∙ c.if-not-matches.false))
