use Rattle.std.proofs.Common.{◌^◌, length, get_or, arith}
use Rattle.std.proofs.lemmas.Bool.{ltb-true}
use Rattle.base_library.proofs.Passes.{passes_at}
use Rattle.loop_acceptance.specs.internal.Product.{is_short, edge_rows_of}
use Rattle.loop_acceptance.proofs.ProductSteps.{row_at, row_short, state_within}
use Rattle.loop_acceptance.proofs.product.place_count.Goals as goal

pub returns-clause-few : goal.returns-clause-few
returns-clause-few c =
    let product = c.args.product.now in
    let pair = c.pair_of-pair in
    let row = get_or product.rows.now pair.result.state c.index-product-pair.result in
    let short = row_short (edge_rows_of product) pair.result.state row.items
    (row_at product.rows.now pair.result.state c.index-product-pair.result (state_within product c.requires.product c.args.node
    pair.result.position pair.result.state c.requires.within pair.ensures.position pair.ensures.state)) in
    let counted = c.len.ensures in
    let holds = row.ok in
    omega (arith, counted, short, holds)

pub overflow_cast-result : goal.overflow_cast-result
overflow_cast-result c =
    let product = c.args.product.now in
    let pair = c.pair_of-pair in
    let row = get_or product.rows.now pair.result.state c.index-product-pair.result in
    let short = ltb-true (length row.items) (2 ^ 32) (passes_at is_short (edge_rows_of product) pair.result.state row.items
    c.requires.product.short (row_at product.rows.now pair.result.state c.index-product-pair.result (state_within product
    c.requires.product c.args.node pair.result.position pair.result.state c.requires.within pair.ensures.position
    pair.ensures.state))) in
    let counted = c.len.ensures in
    let holds = row.ok in
    omega (arith, counted, short, holds)
