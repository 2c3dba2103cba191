-- The formulas that steps from a formula may leave.
use Rattle.std.specs.Prelude.{List, [], ◌∷◌, ◌++◌}
use Rattle.ltl_formula.specs.LtlTree.{LtlTree, LtlTrees, top, bottom, bit, not_bit, conjunction, disjunction, next, until, release}
use Rattle.ltl_formula.specs.LtlTree.{no_formulas, more_formulas}
use Rattle.ltl_formula.specs.LtlOrder.{tree_cmp}
use Rattle.ltl_formula.specs.Increasing.{union}

-- the untils and releases in a formula, and what stands under a next
abbrev mutual
  pub obligations : LtlTree → List LtlTree
  obligations top = []
  obligations bottom = []
  obligations (bit b) = []
  obligations (not_bit b) = []
  obligations (conjunction fs) = obligations_of_all fs
  obligations (disjunction fs) = obligations_of_all fs
  obligations (next a) = a ∷ obligations a
  obligations (until a b) = until a b ∷ (obligations a ++ obligations b)
  obligations (release a b) = release a b ∷ (obligations a ++ obligations b)

  pub obligations_of_all : LtlTrees → List LtlTree
  obligations_of_all no_formulas = []
  obligations_of_all (more_formulas f fs) = obligations f ++ obligations_of_all fs

-- some formulas, each followed by what steps from it may leave
abbrev pub reachable : List LtlTree → List LtlTree
reachable [] = []
reachable (f ∷ fs) = (f ∷ obligations f) ++ reachable fs

-- some formulas and what steps from them may leave, in order
abbrev pub closure_of : List LtlTree → List LtlTree
closure_of fs = union tree_cmp [] (reachable fs)
