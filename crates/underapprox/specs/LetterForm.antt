-- The letter form of a formula: a formula of linear temporal logic in negation normal form over the bits of letters.
-- Source: Finkbeiner, Klein, Piskac, Santolucito: Temporal Stream Logic: Synthesis Beyond the Bools (CAV 2019), the
-- approximation in linear temporal logic. Which form each operator takes is this project's own choice.
use Rattle.std.specs.Prelude.{ℕ, Bool, true, false, Option, Some, None}
use Rattle.tsl_terms.specs.declared.operator.UnaryOperator.TheVariants.{Negation, Next, Finally, Globally}
use Rattle.tsl_terms.specs.declared.operator.BinaryOperator.TheVariants.{Implication, Equivalence, Until, WeakUntil, Release}
use Rattle.tsl_terms.specs.declared.operator.ManyOperator.TheVariants.{Conjunction, Disjunction}
use Rattle.tsl_terms.specs.FormulaTree.{FormulaTree, constant, atom, unary, binary, many, FormulaTrees, no_formulas, more_formulas}
use Rattle.ltl_formula.specs.LtlTree.{
  LtlTree,
  top,
  bottom,
  bit,
  not_bit,
  conjunction,
  disjunction,
  next,
  until,
  release,
  LtlTrees,
  no_formulas as none,
  more_formulas as more,
}
use Rattle.letter_space.specs.SpaceTree.{SpaceTree}
use Rattle.letter_space.specs.Bits.{bit_of_atom}

abbrev pub truth_form : Bool → LtlTree
truth_form true = top
truth_form false = bottom

-- an atom that has no bit holds at no letter
abbrev pub atom_form : Option ℕ → LtlTree
atom_form (Some b) = bit b
atom_form None = bottom

abbrev pub not_atom_form : Option ℕ → LtlTree
not_atom_form (Some b) = not_bit b
not_atom_form None = top

abbrev pub both_of : LtlTree → LtlTree → LtlTree
both_of f g = conjunction (more f (more g none))

abbrev pub either_of : LtlTree → LtlTree → LtlTree
either_of f g = disjunction (more f (more g none))

module _ (space : SpaceTree) where
  abbrev mutual
    pub letter_form : FormulaTree → LtlTree
    letter_form (constant holds) = truth_form holds
    letter_form (atom a) = atom_form (bit_of_atom space a)
    letter_form (unary Negation f) = not_letter_form f
    letter_form (unary Next f) = next (letter_form f)
    letter_form (unary Finally f) = until top (letter_form f)
    letter_form (unary Globally f) = release bottom (letter_form f)
    letter_form (binary Implication f g) = either_of (not_letter_form f) (letter_form g)
    letter_form (binary Equivalence f g) =
        either_of (both_of (letter_form f) (letter_form g)) (both_of (not_letter_form f) (not_letter_form g))
    letter_form (binary Until f g) = until (letter_form f) (letter_form g)
    letter_form (binary WeakUntil f g) = release (letter_form g) (either_of (letter_form g) (letter_form f))
    letter_form (binary Release f g) = release (letter_form f) (letter_form g)
    letter_form (many Conjunction fs) = conjunction (letter_forms fs)
    letter_form (many Disjunction fs) = disjunction (letter_forms fs)

    -- the letter form of a formula's negation
    pub not_letter_form : FormulaTree → LtlTree
    not_letter_form (constant true) = bottom
    not_letter_form (constant false) = top
    not_letter_form (atom a) = not_atom_form (bit_of_atom space a)
    not_letter_form (unary Negation f) = letter_form f
    not_letter_form (unary Next f) = next (not_letter_form f)
    not_letter_form (unary Finally f) = release bottom (not_letter_form f)
    not_letter_form (unary Globally f) = until top (not_letter_form f)
    not_letter_form (binary Implication f g) = both_of (letter_form f) (not_letter_form g)
    not_letter_form (binary Equivalence f g) =
        either_of (both_of (letter_form f) (not_letter_form g)) (both_of (not_letter_form f) (letter_form g))
    not_letter_form (binary Until f g) = release (not_letter_form f) (not_letter_form g)
    not_letter_form (binary WeakUntil f g) = until (not_letter_form g) (both_of (not_letter_form g) (not_letter_form f))
    not_letter_form (binary Release f g) = until (not_letter_form f) (not_letter_form g)
    not_letter_form (many Conjunction fs) = disjunction (not_letter_forms fs)
    not_letter_form (many Disjunction fs) = conjunction (not_letter_forms fs)

    -- those of the members of a list, in order
    pub letter_forms : FormulaTrees → LtlTrees
    letter_forms no_formulas = none
    letter_forms (more_formulas f fs) = more (letter_form f) (letter_forms fs)

    pub not_letter_forms : FormulaTrees → LtlTrees
    not_letter_forms no_formulas = none
    not_letter_forms (more_formulas f fs) = more (not_letter_form f) (not_letter_forms fs)
