use Rattle.std.proofs.Common.{ℕ, List, ◌++◌, map, ap, sym, subst, ◌∙◌, append-nil, IsTrue}
use Rattle.std.specs.Prelude.{drop}
use Rattle.base_library.proofs.Lists.{written_step}
use Rattle.base_library.proofs.Passes.{map_passes_within}
use Rattle.letter_space.specs.declared.controlled.Controlled.{Controlled}
use Rattle.letter_space.specs.ControlledView.{controlled_tree}
use Rattle.environment_text.specs.EnvironmentText.{controlled_is_held}
use Rattle.environment_text.proofs.Picks.{within, pick_below, picks_left, picks_done}
use Rattle.environment_text.proofs.environment.put_picks.Goals as goal

pub put_picked-requires-clause-held : goal.put_picked-requires-clause-held
put_picked-requires-clause-held c =
    subst (λ (x : Controlled). IsTrue (controlled_is_held c.args.names.now (controlled_tree x))) (sym c.index-controlled-place.is)
    (map_passes_within controlled_tree (controlled_is_held c.args.names.now) c.args.controlled.now c.loop-place.place _ c.requires.held
    (within c.args.controlled.now c.args.picks.now c.loop-place.place c.requires.picks c.loop-place-test.true))

pub put_picked-requires-clause-below : goal.put_picked-requires-clause-below
put_picked-requires-clause-below c =
    pick_below c.args.controlled.now c.args.picks.now c.loop-place.place c.index-controlled-place.result c.requires.picks
    c.loop-place-test.true c.index-controlled-place.is

pub loop-place-preserved : goal.loop-place-preserved
loop-place-preserved c =
    written_step _ _ _ _ _ _ c.loop-place.invariant
    (picks_left c.args.names.now c.args.controlled.now c.args.picks.now c.loop-place.place c.index-controlled-place.result c.requires.picks
    c.loop-place-test.true c.index-controlled-place.is)
    c.in_ok-put_picked.ensures

pub returns : goal.returns
returns c =
    sym (append-nil c.loop-place.out.items)
    ∙ ap (λ (ys : List ℕ). c.loop-place.out.items ++ ys)
    (sym (picks_done c.args.names.now (map controlled_tree (drop c.loop-place.place c.args.controlled.now)) c.args.picks.now c.loop-place.place
    c.loop-place-test.false))
    ∙ c.loop-place.invariant
