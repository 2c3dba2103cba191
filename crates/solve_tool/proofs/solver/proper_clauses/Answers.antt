use Rattle.std.proofs.Common.{◌++◌, ◌+◌, drop, sym, ap, ◌∙◌}
use Rattle.std.proofs.lemmas.Option.{slice_get_within, get_or_from_slice_get}
use Rattle.base_library.proofs.Lists.{left_at}
use Rattle.solve_tool.specs.Outcome.{proper_clauses}
use Rattle.solve_tool.proofs.solver.proper_clauses.Goals as goal

pub loop-place-preserved : goal.loop-place-preserved
loop-place-preserved c =
    let clauses = c.args.clauses.now in
    let place = c.loop-place.place in
    let clause = c.get.result.now in
    let there = c.get.ensures.value in
    c.in_ok-add_if_proper.ensures (drop (place + 1) clauses)
    ∙ ap (λ cs. c.loop-place.proper ++ proper_clauses cs) (sym (left_at clauses place clause (slice_get_within clauses place clause there)
    (sym (get_or_from_slice_get clauses place clause clause there))))
    ∙ c.loop-place.invariant
