use Rattle.std.proofs.Common.{length, ap, arith}
use Rattle.word_interp.proofs.Given.{had_place}
use Rattle.word_interp.proofs.words.Words.entry.Goals as goal

pub bounds-as_slice-symbol : goal.bounds-as_slice-symbol
bounds-as_slice-symbol c =
    let within = had_place c.self.inside.domain c.self.inside.cells c.self.inside.given c.self.inside.equality c.args.self.now c.self.view_is
    c.args.symbol c.args.arguments.now c.requires in
    omega (arith, within, ap length c.as_slice.ensures)
