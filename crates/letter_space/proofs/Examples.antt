-- Worked examples: the bits of a specification, letters, and vectors.
use Rattle.std.proofs.Common.{◌≡◌, [], ◌∷◌, Some, None, codes, false, refl}
use Rattle.tsl_terms.specs.declared.names.NameKind.TheVariants.{Signal, Predicate}
use Rattle.tsl_terms.specs.TermTree.{TermTree, ProbeTree, signal, no_terms, more_terms}
use Rattle.tsl_terms.specs.FormulaTree.{atom, test, update}
use Rattle.tsl_terms.specs.SpecTree.{SpecTree}
use Rattle.letter_space.specs.SpaceTree.{SpaceTree, bit_count}
use Rattle.letter_space.specs.SpecSpace.{spec_space}
use Rattle.letter_space.specs.Bits.{bit_of_atom}
use Rattle.letter_space.specs.Letters.{letter_of, atom_holds_of}
use Rattle.letter_space.specs.Vectors.{picks_of, vectors_of}

of : TermTree → ProbeTree
of t = record { predicate = 2; arguments = more_terms t no_terms }

-- z 0, x 1, p 2, y 3; always guarantee { [z <- x]; p y; [y <- x]; p x; }
spec : SpecTree
spec = record {
  names = (record { text = codes "z"; kind = Signal; arity = 0 })
      ∷ (record { text = codes "x"; kind = Signal; arity = 0 })
      ∷ (record { text = codes "p"; kind = Predicate; arity = 1 })
      ∷ (record { text = codes "y"; kind = Signal; arity = 0 }) ∷ [];
  assume_first = [];
  assume_always = [];
  guarantee_first = [];
  guarantee_always = atom (update 0 (signal 1)) ∷ atom (test (of (signal 3))) ∷ atom (update 3 (signal 1))
      ∷ atom (test (of (signal 1))) ∷ [];
}

-- the cell y, which keeps itself last, before the output z, although z has the smaller number
bits : spec_space spec ≡ record {
  predicates = of (signal 3) ∷ of (signal 1) ∷ [];
  controlled = (record { signal = 3; choices = signal 1 ∷ signal 3 ∷ []; first = 2 })
      ∷ (record { signal = 0; choices = signal 1 ∷ []; first = 4 }) ∷ [];
}
unfolding spec of
bits = refl

how_many : bit_count (spec_space spec) ≡ 5
unfolding spec of
how_many = refl

bit_of_a_test : bit_of_atom (spec_space spec) (test (of (signal 1))) ≡ Some 1
unfolding spec of
bit_of_a_test = refl

bit_of_an_update : bit_of_atom (spec_space spec) (update 3 (signal 3)) ≡ Some 3
unfolding spec of
bit_of_an_update = refl

no_bit : bit_of_atom (spec_space spec) (update 0 (signal 3)) ≡ None
unfolding spec of
no_bit = refl

-- p x alone, y keeps itself, z takes x: bits 1, 3 and 4
letter : letter_of (spec_space spec) 2 (1 ∷ 0 ∷ []) ≡ 26
unfolding spec of
letter = refl

what_does_not_hold : atom_holds_of (spec_space spec) 2 (1 ∷ 0 ∷ []) (update 3 (signal 1)) ≡ false
unfolding spec of
what_does_not_hold = refl

how_many_vectors : vectors_of (spec_space spec) ≡ Some 2
unfolding spec of
how_many_vectors = refl

-- three choices of one signal, and two of the next one
space : SpaceTree
space = record {
  predicates = [];
  controlled = (record { signal = 0; choices = signal 0 ∷ signal 1 ∷ signal 2 ∷ []; first = 0 })
      ∷ (record { signal = 1; choices = signal 0 ∷ signal 1 ∷ []; first = 3 }) ∷ [];
}

the_last_signal_counts_first : picks_of space.controlled 3 ≡ 1 ∷ 1 ∷ []
unfolding space
the_last_signal_counts_first = refl

one_vector_without_signals : vectors_of (record { predicates = []; controlled = [] }) ≡ Some 1
one_vector_without_signals = refl
