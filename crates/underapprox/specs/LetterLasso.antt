-- Loops of letters as formulas over tests and updates read them.
use Rattle.std.specs.Prelude.{◌≡◌, ℕ, false, Some}
use Rattle.std.specs.Option.{option_map_or}
use Rattle.loop_shape.specs.LoopShape.{IsPosition}
use Rattle.tsl_terms.specs.FormulaTree.{Atom}
use Rattle.tsl_meaning.specs.Lasso.{Lasso}
use Rattle.ltl_formula.specs.LetterLoop.{LetterLoop, shape_of, bit_holds}
use Rattle.letter_space.specs.SpaceTree.{SpaceTree}
use Rattle.letter_space.specs.Bits.{bit_of_atom}

-- each atom is read from its bit
abbrev pub letter_lasso : SpaceTree → LetterLoop → Lasso
letter_lasso space loop = record {
  shape = shape_of loop;
  holds = λ i a. option_map_or (λ b. bit_holds loop b i) (bit_of_atom space a) false;
}

-- The letters of a loop say what holds in a run: both have one shape, and at each position each atom that has a bit holds
-- where the letter has it.
pub record AreLettersOf (space : SpaceTree) (run : Lasso) (loop : LetterLoop) : Type 0 where
  pub same_shape : run.shape ≡ shape_of loop
  pub same_atoms : (i : ℕ) → IsPosition run.shape i → (a : Atom) (b : ℕ) → bit_of_atom space a ≡ Some b →
      run.holds i a ≡ bit_holds loop b i
