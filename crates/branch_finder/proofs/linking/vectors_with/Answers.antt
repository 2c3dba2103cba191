use Rattle.std.proofs.Common.{◌∙◌, false, slice_get, sym, ap}
use Rattle.std.specs.Option.{option_map_or}
use Rattle.base_library.proofs.Numbers.{numbers_passed_more}
use Rattle.lane_planes.specs.Planes.{has_bit, is_match}
use Rattle.branch_finder.proofs.PlaneLemmas.{written}
use Rattle.branch_finder.proofs.linking.vectors_with.Goals as goal

pub loop-vector-preserved : goal.loop-vector-preserved
loop-vector-preserved c =
    numbers_passed_more (λ v. option_map_or (is_match c.args.set c.args.set) (slice_get c.args.masks.now v) false) c.loop-vector.vector
    c.loop-vector.vectors.items c.push_if.new.vectors.items c.has_bit.result c.loop-vector.invariant c.in_ok-push_if.ensures
    (c.has_bit.ensures ∙ ap (λ plane. has_bit plane c.loop-vector.vector) (c.deref.ensures.value
    ∙ written _ c.matching.new.out _ (sym (c.matching.auto.out ∙ c.deref_mut.ensures.len)))
    ∙ c.matching.ensures c.loop-vector.vector)
