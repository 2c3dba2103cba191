use Rattle.std.proofs.Common.{sym, ◌∙◌, arith}
use Rattle.tsl_terms.specs.FormulaTree.{formula_trees}
use Rattle.tsl_terms.proofs.CountLemmas.{conjunction_nodes}
use Rattle.tsl_terms.proofs.counting.conjunction_count.Goals as goal

pub returns-then-is_one : goal.returns-then-is_one
returns-then-is_one c =
    let first = formula_trees c.args.first.now in
    let always = formula_trees c.args.always.now in
    let counted = rw (sym c.is_one.ensures ∙ c.if-is_one.true) at (conjunction_nodes first always) in
    omega (arith, counted, c.saturating_add-count.ensures, c.member_count.ensures, c.always_count.ensures)

pub returns : goal.returns
returns c =
    let first = formula_trees c.args.first.now in
    let always = formula_trees c.args.always.now in
    let counted = rw (sym c.is_one.ensures ∙ c.if-is_one.false) at (conjunction_nodes first always) in
    omega (arith, counted, c.saturating_add.ensures, c.saturating_add-count.ensures, c.member_count.ensures, c.always_count.ensures)
