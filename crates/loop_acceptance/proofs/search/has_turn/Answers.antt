use Rattle.std.proofs.Common.{◌≡◌, ◌∙◌, length, sym, arith}
use Rattle.std.specs.Vec.{vec_len}
use Rattle.std.proofs.lemmas.Bool.{false≢true, eqb-true}
use Rattle.loop_acceptance.specs.internal.Product.{nodes_of, steps_in}
use Rattle.loop_acceptance.proofs.Searched.{no_turn}
use Rattle.loop_acceptance.proofs.search.has_turn.Goals as goal

pub returns : goal.returns
returns c =
    let frames = c.loop-search.search.frames in
    let count = eqb-true (vec_len frames) 0 (sym c.is_empty.ensures ∙ c.loop-search-test.false) in
    let fits = frames.ok in
    let none : length frames.items ≡ 0 = omega (arith, count, fits) in (
      λ same. absurd (false≢true same),
      λ turn. absurd (no_turn (steps_in c.args.product.now) (nodes_of c.args.product.now) c.loop-search.search.marks
          c.loop-search.search.red.items frames.items c.loop-search.invariant none turn),
    )
