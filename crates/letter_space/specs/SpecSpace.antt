-- The bits of a specification, and why it has too many.
use Rattle.std.specs.Prelude.{ℕ, ◌+◌, ◌<◌, ◌≤◌, List, [], ◌∷◌, ◌++◌, length, ⊤}
use Rattle.tsl_terms.specs.TermTree.{TermTree}
use Rattle.tsl_terms.specs.SpecTree.{SpecTree}
use Rattle.tsl_terms.specs.Signals.{cells_of, outputs_of, choices_of}
use Rattle.tsl_terms.specs.Predicates.{predicates_of}
use Rattle.letter_space.specs.declared.limits.TheConstants.{MOST_PREDICATES, MOST_BITS}
use Rattle.letter_space.specs.declared.space_error.SpaceError.{SpaceError}
use Rattle.letter_space.specs.declared.space_error.SpaceError.TheVariants.{Predicates, Bits, NoMemory}
use Rattle.letter_space.specs.SpaceTree.{ControlledTree, SpaceTree, bit_count}

-- signals with the choices of each, whose bits follow each other from a first one on
abbrev pub controlled_from : (ℕ → List TermTree) → ℕ → List ℕ → List ControlledTree
controlled_from choices first [] = []
controlled_from choices first (s ∷ signals) =
    record { signal = s; choices = choices s; first = first } ∷ controlled_from choices (first + length (choices s)) signals

-- The bits of a specification: its predicate terms in their order, then the choices of each cell, and then those of each output.
abbrev pub spec_space : SpecTree → SpaceTree
spec_space spec = record {
  predicates = predicates_of spec;
  controlled = controlled_from (choices_of spec) (length (predicates_of spec)) (cells_of spec ++ outputs_of spec);
}

-- why a specification has no space: too many predicate terms; or not too many of them, and too many bits
abbrev pub HasSpaceCause : SpecTree → SpaceError → Type 0
HasSpaceCause spec Predicates = MOST_PREDICATES < length (predicates_of spec)
HasSpaceCause spec Bits = (length (predicates_of spec) ≤ MOST_PREDICATES) × (MOST_BITS < bit_count (spec_space spec))
HasSpaceCause spec NoMemory = ⊤
