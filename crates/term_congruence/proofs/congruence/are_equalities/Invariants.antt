use Rattle.std.proofs.Common.{map, take}
use Rattle.std.specs.List.{AllByRecursion}
use Rattle.tsl_terms.specs.WindowTree.{equated_tree}
use Rattle.tsl_terms.specs.Congruence.{IsEquality}
use Rattle.term_congruence.proofs.congruence.are_equalities.Given as goal

-- those so far are equalities
abbrev pub invariant-loop-listed : goal.invariant-loop-listed
invariant-loop-listed l = AllByRecursion (λ e. IsEquality l.equality e.probe) (map equated_tree (take l.listed-index l.equalities))
