-- Worked examples: the letter form of each operator, and of a negated equivalence.
use Rattle.std.proofs.Common.{◌≡◌, [], ◌∷◌, refl}
use Rattle.tsl_terms.specs.declared.operator.UnaryOperator.TheVariants.{Negation, Finally, Globally}
use Rattle.tsl_terms.specs.declared.operator.BinaryOperator.TheVariants.{Equivalence, Until, WeakUntil}
use Rattle.tsl_terms.specs.TermTree.{signal, no_terms}
use Rattle.tsl_terms.specs.FormulaTree.{FormulaTree, atom, test, update, unary, binary}
use Rattle.ltl_formula.specs.LtlTree.{top, bottom, bit, not_bit, until, release}
use Rattle.ltl_formula.specs.Dual.{dual}
use Rattle.letter_space.specs.SpaceTree.{SpaceTree}
use Rattle.underapprox.specs.LetterForm.{letter_form, both_of, either_of}

-- p() has bit 0, and the signal 7 takes signal 1 by bit 1 and signal 2 by bit 2
space : SpaceTree
space = record {
  predicates = (record { predicate = 0; arguments = no_terms }) ∷ [];
  controlled = (record { signal = 7; choices = signal 1 ∷ signal 2 ∷ []; first = 1 }) ∷ [];
}

p : FormulaTree
p = atom (test (record { predicate = 0; arguments = no_terms }))

u : FormulaTree
u = atom (update 7 (signal 1))

test_and_update : letter_form space (binary Until p u) ≡ until (bit 0) (bit 1)
unfolding space p u
test_and_update = refl

finally : letter_form space (unary Finally u) ≡ until top (bit 1)
unfolding space u
finally = refl

not_globally : letter_form space (unary Negation (unary Globally u)) ≡ until top (not_bit 1)
unfolding space u
not_globally = refl

weak_until : letter_form space (binary WeakUntil p u) ≡ release (bit 1) (either_of (bit 1) (bit 0))
unfolding space p u
weak_until = refl

equivalence : letter_form space (binary Equivalence p u) ≡ either_of (both_of (bit 0) (bit 1)) (both_of (not_bit 0) (not_bit 1))
unfolding space p u
equivalence = refl

negated_equivalence : letter_form space (unary Negation (binary Equivalence p u))
    ≡ either_of (both_of (bit 0) (not_bit 1)) (both_of (not_bit 0) (bit 1))
unfolding space p u
negated_equivalence = refl

-- which the dual is not
dual_of_equivalence : dual (letter_form space (binary Equivalence p u))
    ≡ both_of (either_of (not_bit 0) (not_bit 1)) (either_of (bit 0) (bit 1))
unfolding space p u
dual_of_equivalence = refl

no_choice : letter_form space (atom (update 7 (signal 7))) ≡ bottom
unfolding space
no_choice = refl
