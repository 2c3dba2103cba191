use Rattle.std.proofs.Common.{◌∙◌, ◌++◌, length, sym, ap, subst, arith}
use Rattle.std.proofs.lemmas.List.{length-map}
use Rattle.base_library.specs.Numbers.{IsDistinct}
use Rattle.program_tree.specs.ProgramView.{program_tree}
use Rattle.tsl_meaning.specs.Run.{configuration_at}
use Rattle.tsl_meaning.specs.RunTree.{position_tree}
use Rattle.table_runner.specs.Running.{rows_seen}
use Rattle.table_runner.proofs.Brent.{all_different}
use Rattle.table_runner.proofs.Meeting.{steady}
use Rattle.table_runner.proofs.Recorded.{closes, fits_by}
use Rattle.table_runner.proofs.closing.run_closed.Goals as goal

pub returns-then-end-from-clause-no_loop : goal.returns-then-end-from-clause-no_loop
returns-then-end-from-clause-no_loop g c refused i j before below =
    all_different (configuration_at (g.J.Algebra.meanings c.args.judge.now) (program_tree c.args.program.now)
    (rows_seen g.J.Algebra.seen c.args.inputs.now))
    (steady g.J.Algebra.seen (g.J.Algebra.meanings c.args.judge.now) (program_tree c.args.program.now)
    (rows_seen g.J.Algebra.seen c.args.inputs.now))
    c.in-Ok.found.step c.in-Ok.found.length c.in_ok-start.start c.in-Ok.ensures.found c.in_ok-start.ensures.first
    c.in_ok-start.ensures.within
    i j before (omega (arith, below, c.if-end-from.true, c.from.ensures))

pub invariant_of-result : goal.invariant_of-result
invariant_of-result g c =
    let inputs = c.in_ok-copied.ensures ∙ c.as_slice.ensures in
    let cells = c.in_ok-copied-2.ensures ∙ c.as_slice-2.ensures in
    let outputs = c.in_ok-copied-3.ensures ∙ c.as_slice-3.ensures in
    record {
      signals_distinct = subst IsDistinct (λ i. (sym inputs i ++ sym cells i) ++ sym outputs i) c.args.program.now.signals_distinct;
      goes_on = c.in-Ok.ensures.found.goes_on;
      closes = c.in_ok-first_positions.ensures.count;
      positions_fit =
          fits_by _ _ _ _ _ _ _ (sym (ap length inputs)) (sym (ap length cells))
          (omega (arith, ap length cells, ap length outputs)) c.in_ok-first_positions.ensures.fit;
    }

pub returns-clause-run : goal.returns-clause-run
returns-clause-run g c = record {
  inputs = c.in_ok-copied.ensures ∙ c.as_slice.ensures;
  cells = c.in_ok-copied-2.ensures ∙ c.as_slice-2.ensures;
  outputs = c.in_ok-copied-3.ensures ∙ c.as_slice-3.ensures;
  closes =
      closes g.J.Algebra.seen _ _ _ c.requires.can c.in_ok-start.start c.in-Ok.found.length c.in-Ok.ensures.found.goes_on
      c.in_ok-start.ensures.first;
  count = length-map c.in_ok-first_positions.field-0 (position_tree g.J.Algebra.seen) ∙ c.in_ok-first_positions.ensures.count;
  positions = c.in_ok-first_positions.ensures.steps;
}

pub returns-clause-first : goal.returns-clause-first
returns-clause-first g c = record {
  closes =
      closes g.J.Algebra.seen _ _ _ c.requires.can c.in_ok-start.start c.in-Ok.found.length c.in-Ok.ensures.found.goes_on
      c.in_ok-start.ensures.first;
  different =
      all_different (configuration_at (g.J.Algebra.meanings c.args.judge.now) (program_tree c.args.program.now)
      (rows_seen g.J.Algebra.seen c.args.inputs.now))
      (steady g.J.Algebra.seen (g.J.Algebra.meanings c.args.judge.now) (program_tree c.args.program.now)
      (rows_seen g.J.Algebra.seen c.args.inputs.now))
      c.in-Ok.found.step c.in-Ok.found.length c.in_ok-start.start c.in-Ok.ensures.found c.in_ok-start.ensures.first
      c.in_ok-start.ensures.within;
}
