use Rattle.std.proofs.lemmas.Bool.{and_parts}
use Rattle.flow_program.proofs.numbering.numbered_test.Goals as goal

pub numbered-predicate-requires-clause-stands : goal.numbered-predicate-requires-clause-stands
numbered-predicate-requires-clause-stands c = (and_parts _ _ (rw c.in-Applied.is at c.requires.stands)).0

pub numbered_terms-requires-clause-stands : goal.numbered_terms-requires-clause-stands
numbered_terms-requires-clause-stands c = (and_parts _ _ (rw c.in-Applied.is at c.requires.stands)).1
