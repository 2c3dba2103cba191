use Rattle.std.proofs.Common.{map, arith}
use Rattle.std.proofs.lemmas.List.{length-map}
use Rattle.std.proofs.lemmas.Option.{slice_get_within}
use Rattle.tsl_terms.specs.TermTree.{probe_tree}
use Rattle.letter_space.specs.SpaceView.{space_tree}
use Rattle.machines.specs.MachineView.{environment_tree}
use Rattle.branch_finder.specs.internal.Paths.{IsSeen}
use Rattle.branch_finder.proofs.LoopFacts.{none_more, false_is_not_true}
use Rattle.branch_finder.proofs.looking.seen_with_left.Goals as goal

pub loop-right-preserved : goal.loop-right-preserved
loop-right-preserved c =
    let look = c.args.look.now in
    none_more (λ r. IsSeen (space_tree look.walk.search.space.now) (environment_tree look.walk.search.environment.now)
    look.walk.search.cells.now
    look.walk.search.equality look.walk.search.mask look.walk.path.now look.walk.prints.now
    (record { left_at = c.args.left_at; left = c.args.left; right = r })) c.loop-right.right c.loop-right.invariant
    (λ seen. false_is_not_true c.in_ok-is_seen.field-0 c.if-branch.false (c.in_ok-is_seen.ensures.1 seen))

pub returns-clause-none : goal.returns-clause-none
returns-clause-none c right seen =
    let predicates = c.args.look.now.walk.search.space.now.predicates in
    c.loop-right.invariant right (omega (
      arith,
      slice_get_within (map probe_tree predicates) right seen.right seen.is_right,
      length-map predicates probe_tree,
      c.len-right-end.ensures,
      c.loop-right-test.false,
    )) seen
