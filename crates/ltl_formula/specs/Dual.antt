-- The dual of a formula: each form exchanged with its opposite, all the way down.
use Rattle.ltl_formula.specs.LtlTree.{LtlTree, LtlTrees, top, bottom, bit, not_bit, conjunction, disjunction, next, until, release}
use Rattle.ltl_formula.specs.LtlTree.{no_formulas, more_formulas}

abbrev mutual
  pub dual : LtlTree → LtlTree
  dual top = bottom
  dual bottom = top
  dual (bit b) = not_bit b
  dual (not_bit b) = bit b
  dual (conjunction fs) = disjunction (duals fs)
  dual (disjunction fs) = conjunction (duals fs)
  dual (next a) = next (dual a)
  dual (until a b) = release (dual a) (dual b)
  dual (release a b) = until (dual a) (dual b)

  -- the duals of the members, in order
  pub duals : LtlTrees → LtlTrees
  duals no_formulas = no_formulas
  duals (more_formulas f fs) = more_formulas (dual f) (duals fs)
