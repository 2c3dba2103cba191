use Rattle.std.proofs.Common.{◌≡◌, ◌∙◌, map, slice_index_or, sym, ap, subst, arith}
use Rattle.letter_space.specs.Letters.{ArePicks, letter_of}
use Rattle.letter_space.specs.SpaceView.{space_tree}
use Rattle.letter_space.specs.Vectors.{picks_of}
use Rattle.letter_space.proofs.VectorPicks.{vectors_pick}
use Rattle.machines.specs.declared.moves.Move.{Move}
use Rattle.machines.specs.MachineView.{environment_tree, move_tree}
use Rattle.machines.proofs.EnvironmentTables.{truths_there, move_given}
use Rattle.machines.proofs.environment.Environment.moves.Goals as goal

pub letter-requires : goal.letter-requires
letter-requires c =
    let controlled = (space_tree c.args.space.now).controlled in
    let picked : c.as_slice-in-loop-vector.result.now ≡ picks_of controlled c.loop-vector.vector =
    c.as_slice-in-loop-vector.ensures.value ∙ c.in_ok-picks.ensures in
    subst (ArePicks controlled) (sym picked)
    (vectors_pick controlled c.loop-vector.vector (omega (arith, c.loop-vector-test.true, c.requires.fits.vectors)))

pub loop-vector-preserved : goal.loop-vector-preserved
loop-vector-preserved c =
    let space = space_tree c.args.space.now in
    let e = environment_tree c.args.self.now in
    let u = c.loop-vector.vector in
    let truths = slice_index_or c.as_slice.result.now c.args.state 0 in
    let move : Move = record { letter = c.letter.result; next = c.successor.result } in
    let picked : c.as_slice-in-loop-vector.result.now ≡ picks_of space.controlled u =
    c.as_slice-in-loop-vector.ensures.value ∙ c.in_ok-picks.ensures in
    let letter = c.letter.ensures ∙ ap (letter_of space truths) picked in
    ap (map move_tree) c.in_ok-push.ensures.items
    ∙ move_given space e c.args.state move_tree c.loop-vector.moves.items move truths u c.successor.result
    (truths_there c.args.self.now c.args.state truths c.requires.state (ap (λ ts. slice_index_or ts c.args.state 0) c.as_slice.ensures))
    c.successor.ensures (λ i. record { letter = letter i; next = c.successor.result }) c.loop-vector.invariant
