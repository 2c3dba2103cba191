use Rattle.std.proofs.Common.{arith}
use Rattle.bounded_encoding.proofs.Adding.{row}
use Rattle.bounded_encoding.proofs.grid.cell_base.Goals as goal

pub returns-clause-room : goal.returns-clause-room
returns-clause-room c =
    omega (
      arith,
      row c.args.grid.rows c.args.grid.columns c.args.grid.width c.args.row c.args.column c.requires.row c.requires.column,
      c.requires.grid.few,
    )
