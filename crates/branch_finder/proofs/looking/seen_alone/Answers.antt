use Rattle.std.proofs.Common.{map, arith}
use Rattle.std.proofs.lemmas.List.{length-map}
use Rattle.std.proofs.lemmas.Option.{slice_get_within}
use Rattle.tsl_terms.specs.TermTree.{probe_tree}
use Rattle.branch_finder.proofs.looking.seen_alone.Goals as goal

pub returns-clause-none : goal.returns-clause-none
returns-clause-none c right seen =
    let predicates = c.args.look.now.walk.search.space.now.predicates in
    c.loop-right.invariant right (omega (
      arith,
      slice_get_within (map probe_tree predicates) right seen.probe seen.is_probe,
      length-map predicates probe_tree,
      c.len-right-end.ensures,
      c.loop-right-test.false,
    )) seen
