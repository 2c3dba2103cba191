use Rattle.std.proofs.Common.{arith, ◌<◌, ◌^◌}
use Rattle.base_library.proofs.Lists.{part_is_few}
use Rattle.spec_syntax.specs.Levels.{depth}
use Rattle.spec_syntax.specs.SyntaxView.{formula_syntax}
use Rattle.name_resolution.specs.Occurrences.{formula_occurrences}
use Rattle.name_resolution.specs.internal.Scopes.{scope_of}
use Rattle.name_resolution.proofs.Walks.{each_within}
use Rattle.name_resolution.proofs.walk.add_section.Goals as goal

pub add_formula-requires-clause-few : goal.add_formula-requires-clause-few
add_formula-requires-clause-few c =
    rw (c.formula-item.is, c.deref-formula-items.ensures.value)
    (part_is_few (formula_occurrences (scope_of c.args.scope.now) 0) formula_syntax c.args.section.now.formulas.items
    c.loop-formula.formula-index _ _ c.requires.few
    (rw c.deref-formula-items.ensures.value at c.loop-formula-test.true))

pub add_formula-requires-clause-levels : goal.add_formula-requires-clause-levels
add_formula-requires-clause-levels c =
    let h = each_within (λ f. depth f < 2 ^ 32) formula_syntax c.args.section.now.formulas.items c.loop-formula.formula-index
    c.formula-item.result c.requires.levels (rw c.deref-formula-items.ensures.value at c.loop-formula-test.true)
    (rw c.deref-formula-items.ensures.value at c.formula-item.is) in
    omega (arith, h)
