use Rattle.std.proofs.Common.{◌≡◌, ◌∙◌, ◌*◌, ap, length}
use Rattle.std.proofs.lemmas.List.FromFn.{length-map-range_with_len}
use Rattle.clause_core.specs.Clauses.{assignment_of}
use Rattle.counterstrategy.specs.internal.DualReading.{truths_at, successor_numbered, successors_from}
use Rattle.counterstrategy.proofs.DualReadings.{successors_stay}
use Rattle.counterstrategy.proofs.environment_reading.environment_read.Goals as goal

pub invariant_of-result : goal.invariant_of-result
invariant_of-result c =
    let a = assignment_of c.args.truths.now in
    let next : c.from_vec-2.result
    ≡ successors_from a (c.args.states * c.tests_in_all-tests.result) c.args.states (c.args.states * c.args.vectors)
    = c.from_vec-2.ensures ∙ c.in_ok-next.ensures in
    record {
      has_state = c.requires.has_state;
      has_truths = ap length (c.from_vec.ensures ∙ c.in_ok-valuations.ensures)
          ∙ length-map-range_with_len (truths_at a c.tests_in_all-tests.result) 0 c.args.states;
      has_next = ap length next
          ∙ length-map-range_with_len (successor_numbered a (c.args.states * c.tests_in_all-tests.result) c.args.states) 0
          (c.args.states * c.args.vectors);
      stays = successors_stay a (c.args.states * c.tests_in_all-tests.result) c.args.states (c.args.states * c.args.vectors)
          c.from_vec-2.result next c.requires.has_state;
    }
