use Rattle.std.proofs.Common.{◌≡◌, ℕ, List, length}
use Rattle.cnf_reader.specs.internal.RestOfText.{HasFewLines}
use Rattle.cnf_reader.specs.internal.Places.{tells, answer_from}
use Rattle.cnf_reader.proofs.reader.read_words.Given as goal

abbrev pub invariant-loop-behind : goal.invariant-loop-behind
invariant-loop-behind l = record {
  few : HasFewLines l.rest.number l.rest.text.now;
  answer : (more : List ℕ) → answer_from l.fn.rest (tells l.fn.told) more ≡ answer_from l.rest (tells l.told) more;
}

abbrev pub decreases-loop-behind : goal.decreases-loop-behind
decreases-loop-behind l = length l.rest.text.now
