use Rattle.letter_space.proofs.SpecSpaces.{spec_has_bits}
use Rattle.letter_space.proofs.laws.specifications_have_bits.Goals as goal

pub returns : goal.returns
returns c = spec_has_bits
