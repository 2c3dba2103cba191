use Rattle.std.proofs.Common.{◌^◌}
use Rattle.spec_syntax.specs.SyntaxView.{declaration_syntax}
use Rattle.name_resolution.specs.WrittenNames.{IsBelowDepth}
use Rattle.name_resolution.proofs.Walks.{each_within, next_few, next_room, names_more, few_more}
use Rattle.name_resolution.proofs.walk.occurrences.Goals as goal

pub add_declaration-requires-clause-few : goal.add_declaration-requires-clause-few
add_declaration-requires-clause-few c =
    next_few c.args.heads.now c.loop-declaration.before c.args.declarations.now c.loop-declaration.declaration-index c.declaration-item.result
    c.loop-declaration-test.true c.declaration-item.is c.loop-declaration.invariant.few

pub add_declaration-requires-clause-levels : goal.add_declaration-requires-clause-levels
add_declaration-requires-clause-levels c =
    each_within (IsBelowDepth (2 ^ 32)) declaration_syntax c.args.declarations.now c.loop-declaration.declaration-index
    c.declaration-item.result c.requires.levels c.loop-declaration-test.true c.declaration-item.is

pub add_declared-requires : goal.add_declared-requires
add_declared-requires c =
    next_room c.args.heads.now c.loop-declaration.before c.args.declarations.now c.loop-declaration.declaration-index c.declaration-item.result
    c.loop-declaration-test.true c.declaration-item.is c.loop-declaration.invariant.few

pub loop-declaration-preserved : goal.loop-declaration-preserved
loop-declaration-preserved c = record {
  names_are = names_more c.args.heads.now c.loop-declaration.before c.add_declared.new.names _ _ _ c.args.declarations.now
      c.loop-declaration.declaration-index c.declaration-item.result c.loop-declaration-test.true c.declaration-item.is
      c.in_ok-add_declared.ensures.added c.in_ok-add_declaration.ensures c.loop-declaration.invariant.names_are;
  few = few_more c.args.heads.now c.loop-declaration.before c.add_declared.new.names c.args.declarations.now
      c.loop-declaration.declaration-index c.declaration-item.result c.loop-declaration-test.true c.declaration-item.is
      c.in_ok-add_declared.ensures.added c.in_ok-add_declared.ensures.few c.loop-declaration.invariant.few;
}
