use Rattle.std.proofs.Common.{◌≡◌, map, vec_len}
use Rattle.base_library.proofs.Lists.{with_front}
use Rattle.spec_syntax.specs.Syntax.{more_formulas, listed_formulas}
use Rattle.spec_syntax.specs.SyntaxView.{formula_syntax, formulas_syntax}
use Rattle.spec_syntax.proofs.trees.ReadFormulas.from_vec.Given as goal

-- the formulas that are left, and then those of the list
abbrev pub invariant-loop-formula : goal.invariant-loop-formula
invariant-loop-formula l =
    with_front more_formulas (map formula_syntax l.formulas.items) (formulas_syntax l.list)
    ≡ listed_formulas (map formula_syntax l.fn.formulas.items)

abbrev pub decreases-loop-formula : goal.decreases-loop-formula
decreases-loop-formula l = vec_len l.formulas
