use Rattle.std.proofs.lemmas.Bool.{and_parts}
use Rattle.flow_program.proofs.equalities.is_equality_test.Goals as goal

pub name_bytes-requires : goal.name_bytes-requires
name_bytes-requires c = (and_parts _ _ (rw c.in-Applied.is at c.requires)).0
