use Rattle.std.proofs.Common.{ℕ, map, arith}
use Rattle.std.proofs.lemmas.List.{length-map}
use Rattle.std.proofs.lemmas.Option.{slice_get_within}
use Rattle.tsl_terms.specs.TermTree.{probe_tree}
use Rattle.letter_space.specs.SpaceView.{space_tree}
use Rattle.machines.specs.MachineView.{environment_tree}
use Rattle.branch_finder.specs.internal.Paths.{IsSeen}
use Rattle.branch_finder.proofs.LoopFacts.{none_more}
use Rattle.branch_finder.proofs.looking.seen_at.Goals as goal

pub loop-left-preserved : goal.loop-left-preserved
loop-left-preserved c left right below seen =
    let look = c.args.look.now in
    none_more (λ l. (r : ℕ) × IsSeen (space_tree look.walk.search.space.now) (environment_tree look.walk.search.environment.now)
    look.walk.search.cells.now look.walk.search.equality look.walk.search.mask look.walk.path.now look.walk.prints.now
    (record { left_at = c.args.left_at; left = l; right = r })) c.loop-left.left
    (λ l earlier some. c.loop-left.invariant l some.0 earlier some.1) (λ some. (rw c.in_default.is at c.in_ok-pair.ensures.none) some.0 some.1) left below
    (right, seen)

pub returns-clause-none : goal.returns-clause-none
returns-clause-none c left right seen =
    let predicates = c.args.look.now.walk.search.space.now.predicates in
    c.loop-left.invariant left right (omega (
      arith,
      slice_get_within (map probe_tree predicates) left seen.left seen.is_left,
      length-map predicates probe_tree,
      c.len-left-end.ensures,
      c.loop-left-test.false,
    )) seen
