-- Internal: only private functions of this crate use these words.
use Rattle.std.specs.Prelude.{ℕ, ◌<◌, ⊤}
use Rattle.letter_space.specs.declared.limits.TheConstants.{MOST_BITS}
use Rattle.letter_space.specs.declared.space_error.SpaceError.{SpaceError}
use Rattle.letter_space.specs.declared.space_error.SpaceError.TheVariants.{Predicates, Bits, NoMemory}

-- why signals have no bits, by how many bits there would be: too many of them
abbrev pub HasBitsCause : ℕ → SpaceError → Type 0
HasBitsCause count Predicates = ⊥
HasBitsCause count Bits = MOST_BITS < count
HasBitsCause count NoMemory = ⊤
