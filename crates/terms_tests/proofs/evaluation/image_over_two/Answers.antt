use Rattle.std.proofs.Common.{[], ◌∷◌, ◌≡◌, length, arith, rules}
use Rattle.interp_core.specs.FreeView.{free_tree}
use Rattle.interp_core.specs.Image.{row_value}
use Rattle.interp_core.specs.Wheel.{wheel}
use Rattle.interp_core.proofs.Total.{wheel_is_total}
use Rattle.interp_core.proofs.ImagesThere.{image_there, row_there}
use Rattle.terms_tests.proofs.evaluation.image_over_two.Goals as goal

pub image-requires : goal.image-requires
image-requires c = record {
  had =
      let same : c.as_slice.result.now ≡ c.in_ok-rows.rows.items = search rules in
      rw same (image_there (wheel 2) (wheel_is_total 2) (3 ∷ 5 ∷ []) 2 (row_value (λ v. v) c.in_ok-rows.rows.items)
      (λ s step among below. row_there (λ v. v) c.in_ok-rows.rows.items (3 ∷ 5 ∷ []) c.in_ok-rows.ensures.signals s step among
      (let many : length c.in_ok-rows.rows.items ≡ 2 = c.in_ok-rows.ensures.many in omega (arith, many, below)))
      (free_tree c.args.free.now) c.requires);
}
