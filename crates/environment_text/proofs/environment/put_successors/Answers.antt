use Rattle.std.proofs.Common.{ℕ, [], ◌++◌, Option, codes, decimal, ap, ◌∙◌}
use Rattle.std.specs.Option.{option_map_or}
use Rattle.base_library.proofs.Lists.{written_step}
use Rattle.machines.specs.MachineView.{environment_tree}
use Rattle.environment_text.specs.EnvironmentText.{successor_text}
use Rattle.environment_text.proofs.Pieces.{piece_left}
use Rattle.environment_text.proofs.environment.put_successors.Goals as goal

pub loop-vector-preserved : goal.loop-vector-preserved
loop-vector-preserved c =
    written_step _ _ _ _ _ _ c.loop-vector.invariant
    (piece_left (successor_text (environment_tree c.args.environment.now) c.args.state) c.args.environment.now.vectors c.loop-vector.vector
    c.loop-vector-test.true)
    (c.in_ok-put_successor.ensures
    ∙ ap (λ (o : Option ℕ). c.loop-vector.out.items ++ option_map_or (λ t. codes " " ++ decimal t) o []) c.successor.ensures)
