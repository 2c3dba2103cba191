use Rattle.std.proofs.Common.{◌++◌, codes, ap, ◌∙◌}
use Rattle.base_library.proofs.Lists.{written_step}
use Rattle.ltl_formula.specs.Cubes.{has_bit}
use Rattle.environment_text.specs.EnvironmentText.{bit_text}
use Rattle.environment_text.proofs.Pieces.{piece_left}
use Rattle.environment_text.proofs.environment.put_truths.Goals as goal

pub loop-bit-preserved : goal.loop-bit-preserved
loop-bit-preserved c =
    written_step _ _ _ _ _ _ c.loop-bit.invariant
    (piece_left (λ b. codes " " ++ bit_text (has_bit b c.args.truths)) c.args.tests c.loop-bit.bit c.loop-bit-test.true)
    (c.in_ok-put_truth.ensures ∙ ap (λ holds. c.loop-bit.out.items ++ (codes " " ++ bit_text holds)) c.holds_in.ensures)
