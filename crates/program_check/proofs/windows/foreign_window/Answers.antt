use Rattle.std.proofs.Common.{◌≡◌, ◌∙◌, None, not, rules, sym, ap}
use Rattle.std.specs.List.{position}
use Rattle.tsl_terms.specs.WindowTree.{WindowTree, window_tree}
use Rattle.letter_space.specs.SpaceView.{space_tree}
use Rattle.letter_space.proofs.Places.{position-map}
use Rattle.program_check.specs.Verdicts.{window_has_bits}
use Rattle.program_check.proofs.windows.foreign_window.Goals as goal

pub returns-in_err-place : goal.returns-in_err-place
returns-in_err-place c =
    let none : c.from_residual.result ≡ None = search rules in
    let test : WindowTree → _ = λ w. not (window_has_bits (space_tree c.args.space.now) w) in
    none ∙ sym (position-map window_tree test c.args.program.now.windows ∙ ap (position _) (sym c.as_slice.ensures)
    ∙ sym c.first_foreign.ensures ∙ c.in_err-place.was)

pub returns : goal.returns
returns c =
    let test : WindowTree → _ = λ w. not (window_has_bits (space_tree c.args.space.now) w) in
    sym (position-map window_tree test c.args.program.now.windows ∙ ap (position _) (sym c.as_slice.ensures)
    ∙ sym c.first_foreign.ensures ∙ c.in_ok-place.was)
