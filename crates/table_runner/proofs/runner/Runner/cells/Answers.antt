use Rattle.std.proofs.Common.{◌∙◌, length, map, sym, ap}
use Rattle.std.proofs.lemmas.List.{drop-map}
use Rattle.table_runner.proofs.runner.Runner.cells.Goals as goal

pub returns : goal.returns
returns g c =
    ap (map g.J.Algebra.seen) c.cells_of.ensures
    ∙ sym (drop-map g.J.Algebra.seen (length c.args.self.now.program.now.inputs) c.args.self.now.standing.leaves.values)
