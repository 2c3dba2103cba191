use Rattle.std.proofs.Common.{◌≡◌, ◌∙◌, ◌-◌, ◌<◌, suc, length, Some, slice_get, refl, ap, subst, arith}
use Rattle.std.proofs.lemmas.Option.{slice_get_within}
use Rattle.loop_acceptance.specs.declared.search.Frame.{Frame}
use Rattle.loop_acceptance.specs.declared.marks.Mark.TheVariants.{Open}
use Rattle.loop_acceptance.specs.internal.Product.{nodes_of, edge_rows_of, steps_in, row_edges}
use Rattle.loop_acceptance.proofs.TakenSteps.{taken, taken_less, frame_read}
use Rattle.loop_acceptance.proofs.search.Search.take_step.Goals as goal

pub open_along-requires-clause-within : goal.open_along-requires-clause-within
open_along-requires-clause-within c =
    let found = c.requires.search.found in
    let f = c.index-frame.result.now in
    let some = c.requires.some in
    let at = some.1 ∙ ap Some (frame_read c.args.self.now.frames.items c.args.top some.0 f some.1 c.index-frame.ensures) in
    let within = slice_get_within c.args.self.now.marks f.node Open (found.opened c.args.top f at) in
    let size = found.size in
    omega (arith, within, size)

pub open_along-requires-clause-last : goal.open_along-requires-clause-last
open_along-requires-clause-last c =
    let f = c.index-frame.result.now in
    let some = c.requires.some in
    let last : length c.args.self.now.frames.items - 1 ≡ c.args.top = (let l = c.requires.last in omega (arith, l)) in (
      f,
      ap (slice_get c.args.self.now.frames.items) last ∙ some.1
          ∙ ap Some (frame_read c.args.self.now.frames.items c.args.top some.0 f some.1 c.index-frame.ensures),
      refl,
    )

pub index_mut-requires : goal.index_mut-requires
index_mut-requires c =
    let some = c.requires.some in
    let within = slice_get_within c.open_along.new.self.frames.items c.args.top some.0
    (c.in_ok-open_along.ensures.stay c.args.top some.0 some.1) in
    omega (arith, within)

pub returns-clause-search : goal.returns-clause-search
returns-clause-search c =
    let f = c.index-frame.result.now in
    let some = c.requires.some in
    let same = frame_read c.args.self.now.frames.items c.args.top some.0 f some.1 c.index-frame.ensures in
    let left : 0 < f.left = subst (λ (x : Frame). 0 < x.left) same some.2 in
    let less : f.left ≡ suc (f.left - 1) = omega (arith, left) in
    let search = c.in_ok-open_along.ensures.search in
    record {
      first = search.first;
      found = taken (steps_in c.args.product.now) (nodes_of c.args.product.now) c.open_along.new.self.marks
          c.open_along.new.self.red.items c.open_along.new.self.frames.items search.found c.args.top (f.left - 1) f
          (c.in_ok-open_along.ensures.stay c.args.top f (some.1 ∙ ap Some same)) less c.in_ok-open_along.ensures.seen;
    }

pub returns-clause-left : goal.returns-clause-left
returns-clause-left c =
    let f = c.index-frame.result.now in
    let some = c.requires.some in
    let same = frame_read c.args.self.now.frames.items c.args.top some.0 f some.1 c.index-frame.ensures in
    let left : 0 < f.left = subst (λ (x : Frame). 0 < x.left) same some.2 in
    let less : f.left ≡ suc (f.left - 1) = omega (arith, left) in
    taken_less (row_edges (edge_rows_of c.args.product.now)) c.open_along.new.self.marks c.args.self.now.marks
    c.open_along.new.self.frames.items c.args.self.now.frames.items c.args.top (f.left - 1) f
    (c.in_ok-open_along.ensures.stay c.args.top f (some.1 ∙ ap Some same)) less c.in_ok-open_along.ensures.left
