use Rattle.std.proofs.Common.{length, arith}
use Rattle.name_resolution.proofs.Walks.{heads_more, heads_few}
use Rattle.name_resolution.proofs.defined.heads.Goals as goal

pub add_declared-requires : goal.add_declared-requires
add_declared-requires c =
    omega (
      arith,
      heads_few (length c.loop-declaration.names) c.args.declarations.now c.loop-declaration.declaration-index c.declaration-item.result
          c.loop-declaration-test.true c.declaration-item.is c.loop-declaration.invariant.few,
    )

pub loop-declaration-preserved : goal.loop-declaration-preserved
loop-declaration-preserved c = record {
  names_are = heads_more c.loop-declaration.names c.add_declared.new.names _ c.args.declarations.now c.loop-declaration.declaration-index
      c.declaration-item.result c.loop-declaration-test.true c.declaration-item.is c.in_ok-add_declared.ensures.added
      c.loop-declaration.invariant.names_are;
  few = omega (
    arith,
    c.in_ok-add_declared.ensures.few,
    heads_few (length c.loop-declaration.names) c.args.declarations.now c.loop-declaration.declaration-index c.declaration-item.result
        c.loop-declaration-test.true c.declaration-item.is c.loop-declaration.invariant.few,
  );
}
