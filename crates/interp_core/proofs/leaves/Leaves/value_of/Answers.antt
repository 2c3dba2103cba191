use Rattle.std.proofs.Common.{◌∙◌, refl, sym, ap}
use Rattle.std.specs.Option.{option_copied}
use Rattle.interp_core.proofs.Besides.{found_beside, got_at}
use Rattle.interp_core.proofs.leaves.Leaves.value_of.Goals as goal

pub returns-in_err-place : goal.returns-in_err-place
returns-in_err-place g c =
    found_beside c.args.signal _ _ _ _ _ _ (sym c.in_err-place.was ∙ c.place_of.ensures) c.as_slice.ensures refl
    (ap option_copied c.from_residual.ensures)

pub returns : goal.returns
returns g c =
    found_beside c.args.signal _ _ _ _ _ _ (sym c.in_ok-place.was ∙ c.place_of.ensures) c.as_slice.ensures c.as_slice-2.ensures
    (got_at _ _ _ _ c.get.ensures.lookup.1 c.get.ensures.lookup.3)
