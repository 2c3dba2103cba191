use Rattle.std.proofs.Common.{arith}
use Rattle.bounded_encoding.proofs.Adding.{row}
use Rattle.bounded_encoding.proofs.frame.next_base.Goals as goal

pub returns-clause-room : goal.returns-clause-room
returns-clause-room c = omega (
  arith,
  row c.args.frame.now.states c.args.frame.now.rows c.args.frame.now.states c.args.s c.args.r c.requires.state c.requires.row,
  c.requires.framed.few,
)
