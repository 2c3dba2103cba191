-- The order of formulas: by their variants, then by their parts from the left, and lists
-- lexicographically.
use Rattle.std.specs.Prelude.{ℕ}
use Rattle.std.specs.declared.cmp.Ordering.{Ordering}
use Rattle.std.specs.declared.cmp.Ordering.TheVariants.{Less, Equal, Greater}
use Rattle.std.specs.Ordering.{nat_cmp, ordering_then}
use Rattle.ltl_formula.specs.LtlTree.{LtlTree, top, bottom, bit, not_bit, conjunction, disjunction, next, until, release, LtlTrees}
use Rattle.ltl_formula.specs.LtlTree.{no_formulas, more_formulas}

-- the place of a formula's variant among the variants
abbrev pub rank : LtlTree → ℕ
rank top = 0
rank bottom = 1
rank (bit b) = 2
rank (not_bit b) = 3
rank (conjunction fs) = 4
rank (disjunction fs) = 5
rank (next a) = 6
rank (until a b) = 7
rank (release a b) = 8

-- the order of two formulas, and of two lists of formulas
abbrev mutual
  pub tree_cmp : LtlTree → LtlTree → Ordering
  tree_cmp (bit b) (bit c) = nat_cmp b c
  tree_cmp (not_bit b) (not_bit c) = nat_cmp b c
  tree_cmp (conjunction fs) (conjunction gs) = trees_cmp fs gs
  tree_cmp (disjunction fs) (disjunction gs) = trees_cmp fs gs
  tree_cmp (next a) (next b) = tree_cmp a b
  tree_cmp (until a b) (until c d) = ordering_then (tree_cmp a c) (tree_cmp b d)
  tree_cmp (release a b) (release c d) = ordering_then (tree_cmp a c) (tree_cmp b d)
  tree_cmp f g = nat_cmp (rank f) (rank g)

  pub trees_cmp : LtlTrees → LtlTrees → Ordering
  trees_cmp no_formulas no_formulas = Equal
  trees_cmp no_formulas (more_formulas g gs) = Less
  trees_cmp (more_formulas f fs) no_formulas = Greater
  trees_cmp (more_formulas f fs) (more_formulas g gs) = ordering_then (tree_cmp f g) (trees_cmp fs gs)
