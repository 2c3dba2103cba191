-- Formulas of linear temporal logic as pure trees, without where they lie in memory.
use Rattle.std.specs.Prelude.{ℕ, List, [], ◌∷◌}
use Rattle.ltl_formula.specs.declared.formula.Ltl.{Ltl}
use Rattle.ltl_formula.specs.declared.formula.Ltl.TheVariants.{True, False, Bit, NotBit, All, Any, Next', Until', Release'}
use Rattle.ltl_formula.specs.declared.formula.LtlList.{LtlList}
use Rattle.ltl_formula.specs.declared.formula.LtlList.TheVariants.{Empty, More'}

mutual
  pub data LtlTree : Type 0 where
    top : LtlTree
    bottom : LtlTree
    bit : ℕ → LtlTree
    not_bit : ℕ → LtlTree
    conjunction : LtlTrees → LtlTree
    disjunction : LtlTrees → LtlTree
    next : LtlTree → LtlTree
    until : LtlTree → LtlTree → LtlTree
    release : LtlTree → LtlTree → LtlTree

  pub data LtlTrees : Type 0 where
    no_formulas : LtlTrees
    more_formulas : LtlTree → LtlTrees → LtlTrees

-- the members of a list of formulas, in order
abbrev pub ltl_formulas_in : LtlTrees → List LtlTree
ltl_formulas_in no_formulas = []
ltl_formulas_in (more_formulas f fs) = f ∷ ltl_formulas_in fs

-- the list of these members
abbrev pub ltl_formulas_of : List LtlTree → LtlTrees
ltl_formulas_of [] = no_formulas
ltl_formulas_of (f ∷ fs) = more_formulas f (ltl_formulas_of fs)

-- the tree of a formula
abbrev mutual
  pub ltl_tree : Ltl → LtlTree
  ltl_tree True = top
  ltl_tree False = bottom
  ltl_tree (Bit b) = bit b
  ltl_tree (NotBit b) = not_bit b
  ltl_tree (All fs) = conjunction (ltl_trees fs)
  ltl_tree (Any fs) = disjunction (ltl_trees fs)
  ltl_tree (Next' p a) = next (ltl_tree a)
  ltl_tree (Until' p a q b) = until (ltl_tree a) (ltl_tree b)
  ltl_tree (Release' p a q b) = release (ltl_tree a) (ltl_tree b)

  pub ltl_trees : LtlList → LtlTrees
  ltl_trees Empty = no_formulas
  ltl_trees (More' p head q rest) = more_formulas (ltl_tree head) (ltl_trees rest)

-- the trees of a list's members, in order
abbrev pub ltl_member_trees : LtlList → List LtlTree
ltl_member_trees fs = ltl_formulas_in (ltl_trees fs)
