use Rattle.std.proofs.Common.{◌≡◌, ◌≤◌, ℕ, List, length}
use Rattle.cnf_reader.specs.internal.RestOfText.{HasFewLines}
use Rattle.cnf_reader.specs.internal.Places.{tells, answer_from}
use Rattle.cnf_reader.proofs.reader.read_plain.Given as goal

abbrev pub invariant-loop-word : goal.invariant-loop-word
invariant-loop-word l = record {
  few : HasFewLines l.place.number l.place.text.now;
  within : length l.place.text.now ≤ length l.fn.rest.text.now;
  answer : (more : List ℕ) → answer_from l.fn.rest (tells l.fn.told) more ≡ answer_from l.place (tells l.told) more;
}

abbrev pub decreases-loop-word : goal.decreases-loop-word
decreases-loop-word l = length l.place.text.now
