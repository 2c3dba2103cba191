use Rattle.std.proofs.Common.{◌∙◌, ℕ, ◌<◌, length, Vec, ap, replicate, arith}
use Rattle.std.specs.declared.alloc.Global.{Global}
use Rattle.std.proofs.lemmas.Nat.{mul-le}
use Rattle.loop_acceptance.specs.declared.marks.Mark.TheVariants.{New}
use Rattle.loop_acceptance.specs.internal.Product.{nodes_of, steps_in}
use Rattle.loop_acceptance.proofs.OpenedNodes.{opened_first}
use Rattle.loop_acceptance.proofs.search.begun.Goals as goal

pub new-requires-clause-few_states : goal.new-requires-clause-few_states
new-requires-clause-few_states c =
    let product = c.args.product.now in
    let states = length product.rows.now in
    let is = c.requires.product in
    let counted = is.counted in
    let goes_on = is.goes_on in
    let fits = is.fits in
    let fewer = mul-le 1 states (length product.letters.now) states (omega (arith, goes_on)) (omega arith) in
    omega (arith, fewer, counted, fits)

pub returns : goal.returns
returns c =
    let product = c.args.product.now in
    let letters = length product.letters.now in
    let states = length product.rows.now in
    let goes_on = c.requires.product.goes_on in
    let starts = c.requires.product.starts in
    let more = mul-le 1 1 letters states (omega (arith, goes_on)) starts in
    let some : 0 < nodes_of product = omega (arith, more) in
    opened_first (steps_in product) (nodes_of product) some c.place_count.result c.place_count.ensures.past c.in_ok-marks.marks
    c.open_node.new.self.red.items c.new-2.result.items
    (c.in_ok-marks.ensures ∙ ap (λ n. replicate n New) c.node_count.ensures)
    (ap (λ (v : Vec ℕ Global). v.items) c.open_node.ensures.red ∙ c.new-3.ensures.items) c.new-2.ensures.items
    c.open_node.new.self.marks c.open_node.new.self.frames.items c.in_ok-open_node.ensures.marks c.in_ok-open_node.ensures.frames
