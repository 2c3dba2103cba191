use Rattle.std.proofs.Common.{refl, arith}
use Rattle.cobuchi_automata.specs.Edges.{edge_tree}
use Rattle.annotation_check.proofs.StepsMatched.{run_more, edge_matched}
use Rattle.annotation_check.proofs.stepping.add_steps.Goals as goal

pub loop-bit-preserved : goal.loop-bit-preserved
loop-bit-preserved c =
    let inv = c.loop-bit.invariant in
    let moves = c.args.moves.now in
    let edge = c.args.edge.now in (
      inv.0,
      inv.1,
      run_more moves.letters.items moves.next.items
          (let same = moves.paired in let l = moves.letters.ok.0 in let n = moves.next.ok.0 in omega (arith, same, l, n))
          edge.cube.care edge.cube.want c.matching.new.out inv.1 edge.to edge.rejecting c.args.steps.now.items c.loop-bit.steps.items
          c.add_step.new.steps.items c.loop-bit.from c.in-Some.bit c.index.result.now c.index-from.result.now c.in-Some.ensures.some.0 c.in-Some.ensures.some.1
          c.in-Some.ensures.first c.index.ensures moves.ends.items moves.runs c.index-from.ensures inv.2 c.in_ok-add_step.ensures,
    )

pub returns : goal.returns
returns c listed listing t =
    let inv = c.loop-bit.invariant in
    let moves = c.args.moves.now in
    let edge = c.args.edge.now in
    edge_matched moves.letters.items moves.next.items
    (let same = moves.paired in let l = moves.letters.ok.0 in let n = moves.next.ok.0 in omega (arith, same, l, n))
    edge.cube.care edge.cube.want c.matching.new.out inv.1 (edge_tree edge) refl refl listed listing c.loop-bit.from
    c.in_default.ensures.none t c.args.steps.now.items c.loop-bit.steps.items inv.2
