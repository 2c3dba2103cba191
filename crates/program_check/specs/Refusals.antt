-- The refusals of bits and of automata as refusals of a check.
use Rattle.letter_space.specs.declared.space_error.SpaceError.{SpaceError}
use Rattle.letter_space.specs.declared.space_error.SpaceError.TheVariants as spaces
use Rattle.cobuchi_automata.specs.declared.build_error.BuildError.{BuildError}
use Rattle.cobuchi_automata.specs.declared.build_error.BuildError.TheVariants as builds
use Rattle.program_check.specs.declared.verdict.CheckError.{CheckError}
use Rattle.program_check.specs.declared.verdict.CheckError.TheVariants.{Large, NoMemory}
use Rattle.program_check.specs.declared.verdict.Limit.TheVariants.{Predicates, Bits, Choices, States, Edges}

abbrev pub space_refusal : SpaceError → CheckError
space_refusal spaces.Predicates = Large Predicates
space_refusal spaces.Bits = Large Bits
space_refusal spaces.NoMemory = NoMemory

abbrev pub build_refusal : BuildError → CheckError
build_refusal builds.Choices = Large Choices
build_refusal builds.States = Large States
build_refusal builds.Edges = Large Edges
build_refusal builds.NoMemory = NoMemory
