use Rattle.std.proofs.Common.{arith}
use Rattle.std.proofs.lemmas.Bool.{ne_eqb}
use Rattle.std.proofs.lemmas.Grind.{common_steps}
use Rattle.tsl_text.proofs.Comments.{scan_step}
use Rattle.tsl_text.proofs.front.closing_len.Goals as goal

pub loop-at-preserved-then-ends_comment : goal.loop-at-preserved-then-ends_comment
loop-at-preserved-then-ends_comment c =
    let inner = ne_eqb c.loop-at.depth 0 c.if-depth-eq0.false in
    let step = scan_step c.args.text.now c.loop-at.depth c.loop-at.at (omega arith) in
    grind (arith, common_steps)
