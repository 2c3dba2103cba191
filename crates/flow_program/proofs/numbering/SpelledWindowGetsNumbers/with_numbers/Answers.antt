use Rattle.std.proofs.lemmas.Bool.{and_parts}
use Rattle.flow_program.proofs.numbering.SpelledWindowGetsNumbers.with_numbers.Goals as goal

pub numbered_test-requires-clause-stands : goal.numbered_test-requires-clause-stands
numbered_test-requires-clause-stands c = (and_parts _ _ (and_parts _ _ (and_parts _ _ c.requires.stands).0).1).0

pub numbered_all-requires-clause-stand : goal.numbered_all-requires-clause-stand
numbered_all-requires-clause-stand c = rw c.deref.ensures.value ((and_parts _ _ (and_parts _ _ c.requires.stands).1).0)

pub numbered_all-requires-2-clause-stand : goal.numbered_all-requires-2-clause-stand
numbered_all-requires-2-clause-stand c = rw c.deref-2.ensures.value ((and_parts _ _ (and_parts _ _ c.requires.stands).1).1)
