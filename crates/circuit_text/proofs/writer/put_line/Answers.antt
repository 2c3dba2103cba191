use Rattle.circuit_text.proofs.CircuitLines.{line_begun}
use Rattle.circuit_text.proofs.writer.put_line.Goals as goal

pub loop-number-init : goal.loop-number-init
loop-number-init c = line_begun c.args.out.now.items c.put_number.new.out.items c.args.first c.args.others.now c.in_ok-put_number.ensures.ok
