-- The atoms of a formula, in order, and what a formula is made of.
use Rattle.std.specs.Prelude.{Bool, true, false, ◌&&◌, List, [], ◌∷◌, ◌++◌}
use Rattle.std.specs.List.{list_all}
use Rattle.tsl_terms.specs.FormulaTree.{Atom, FormulaTree, FormulaTrees, constant, atom, unary, binary, many, no_formulas, more_formulas}

-- the atoms of a formula, from the left
abbrev mutual
  pub atoms : FormulaTree → List Atom
  atoms (constant holds) = []
  atoms (atom a) = a ∷ []
  atoms (unary op f) = atoms f
  atoms (binary op f g) = atoms f ++ atoms g
  atoms (many op fs) = atoms_of_members fs

  pub atoms_of_members : FormulaTrees → List Atom
  atoms_of_members no_formulas = []
  atoms_of_members (more_formulas f fs) = atoms f ++ atoms_of_members fs

-- whether a list has two members or more
abbrev pub has_two : FormulaTrees → Bool
has_two (more_formulas f (more_formulas g fs)) = true
has_two _ = false

-- whether each conjunction and disjunction in a formula has two members or more
abbrev mutual
  pub joins_two : FormulaTree → Bool
  joins_two (constant holds) = true
  joins_two (atom a) = true
  joins_two (unary op f) = joins_two f
  joins_two (binary op f g) = joins_two f && joins_two g
  joins_two (many op fs) = has_two fs && all_join_two fs

  pub all_join_two : FormulaTrees → Bool
  all_join_two no_formulas = true
  all_join_two (more_formulas f fs) = joins_two f && all_join_two fs

-- whether a formula is made of atoms that pass a test, by conjunctions and disjunctions of two members or more
abbrev pub is_made_of : (Atom → Bool) → FormulaTree → Bool
is_made_of passes f = list_all passes (atoms f) && joins_two f

abbrev pub members_are_made_of : (Atom → Bool) → FormulaTrees → Bool
members_are_made_of passes fs = list_all passes (atoms_of_members fs) && all_join_two fs
