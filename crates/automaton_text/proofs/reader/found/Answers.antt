use Rattle.std.proofs.Common.{arith}
use Rattle.automaton_text.proofs.Found.{edges_between}
use Rattle.automaton_text.proofs.reader.found.Goals as goal

pub invariant_of-result : goal.invariant_of-result
invariant_of-result c = record {
  starts = c.requires.some_state;
  between = edges_between c.args.reader c.from_vec.result c.from_vec.ensures c.requires
      (let few = c.if-reader.false in omega (arith, few))
      (let few = c.if-reader-2.false in omega (arith, few));
}
