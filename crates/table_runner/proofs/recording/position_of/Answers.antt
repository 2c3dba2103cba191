use Rattle.std.proofs.Common.{◌≡◌, ◌∙◌, length, map, take, drop, sym, ap}
use Rattle.std.proofs.lemmas.List.{take-map, drop-map}
use Rattle.table_runner.proofs.recording.position_of.Goals as goal

pub returns : goal.returns
returns g c =
    let row : map g.J.Algebra.seen c.from_vec.result ≡ take (length c.args.program.now.inputs)
    (map g.J.Algebra.seen c.args.standing.now.leaves.values) =
    ap (map g.J.Algebra.seen) c.from_vec.ensures ∙ c.in_ok-row.ensures ∙ ap (map g.J.Algebra.seen) c.row_of.ensures
    ∙ sym (take-map g.J.Algebra.seen (length c.args.program.now.inputs) c.args.standing.now.leaves.values) in
    let cells : map g.J.Algebra.seen c.from_vec-2.result ≡ drop (length c.args.program.now.inputs)
    (map g.J.Algebra.seen c.args.standing.now.leaves.values) =
    ap (map g.J.Algebra.seen) c.from_vec-2.ensures ∙ c.in_ok-cells.ensures ∙ ap (map g.J.Algebra.seen) c.cells_of.ensures
    ∙ sym (drop-map g.J.Algebra.seen (length c.args.program.now.inputs) c.args.standing.now.leaves.values) in
    λ i. record {
      place = c.args.standing.now.place;
      state = c.args.standing.now.state;
      row = row i;
      cells = cells i;
      updates = c.in_ok-updates.ensures i;
    }
