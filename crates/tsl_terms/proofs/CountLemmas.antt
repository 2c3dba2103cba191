-- How many nodes a conjunction of two lists has.
use Rattle.std.proofs.Common.{◌≡◌, suc, ◌+◌, cond, List, [], ◌++◌, map, refl, arith}
use Rattle.tsl_terms.specs.declared.operator.UnaryOperator.TheVariants.{Globally}
use Rattle.tsl_terms.specs.FormulaTree.{FormulaTree, FormulaTrees, unary, no_formulas, more_formulas, formulas_in, formulas_of}
use Rattle.tsl_terms.specs.Nodes.{nodes, nodes_of_members}
use Rattle.tsl_terms.specs.SpecTree.{conjunction_of}
use Rattle.tsl_terms.specs.internal.ListLengths.{is_one}

-- the formulas of a list, each under `Globally`
abbrev pub always_of : FormulaTrees → List FormulaTree
always_of fs = map (unary Globally) (formulas_in fs)

nodes_joined : (fs : FormulaTrees) (gs : List FormulaTree) →
    nodes_of_members (formulas_of (formulas_in fs ++ gs)) ≡ nodes_of_members fs + nodes_of_members (formulas_of gs)
nodes_joined no_formulas gs = omega arith
nodes_joined (more_formulas f fs) gs = let rest = nodes_joined fs gs in omega (arith, rest)

pub conjunction_nodes : (first always : FormulaTrees) → nodes (conjunction_of (formulas_in first ++ always_of always))
    ≡ cond (is_one first always) (nodes_of_members first + nodes_of_members (formulas_of (always_of always)))
    (suc (nodes_of_members first + nodes_of_members (formulas_of (always_of always))))
conjunction_nodes no_formulas no_formulas = refl
conjunction_nodes no_formulas (more_formulas g no_formulas) = omega arith
conjunction_nodes no_formulas (more_formulas g (more_formulas h hs)) = omega arith
conjunction_nodes (more_formulas f no_formulas) no_formulas = omega arith
conjunction_nodes (more_formulas f no_formulas) (more_formulas g gs) = omega arith
conjunction_nodes (more_formulas f (more_formulas e fs)) no_formulas = omega (arith, nodes_joined fs [])
conjunction_nodes (more_formulas f (more_formulas e fs)) (more_formulas g gs) =
    omega (arith, nodes_joined fs (always_of (more_formulas g gs)))
