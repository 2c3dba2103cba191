use Rattle.std.proofs.Common.{ℕ, map, length, arith}
use Rattle.std.proofs.lemmas.List.{length-map}
use Rattle.std.proofs.lemmas.Option.{slice_get_within}
use Rattle.tsl_terms.specs.TermTree.{probe_tree}
use Rattle.letter_space.specs.SpaceView.{space_tree}
use Rattle.machines.specs.MachineView.{environment_tree}
use Rattle.branch_finder.specs.internal.Values.{probe_value, value_along, LooksSeen}
use Rattle.branch_finder.proofs.LoopFacts.{none_more}
use Rattle.branch_finder.proofs.values.looks_seen.Goals as goal

pub loop-right-preserved : goal.loop-right-preserved
loop-right-preserved c right below left_at left looks =
    let walk = c.args.walk.now in
    let search = walk.search in
    none_more (λ r. (at : ℕ) × (l : ℕ) × LooksSeen (space_tree search.space.now) (environment_tree search.environment.now)
    search.cells.now search.mask walk.path.now walk.prints.now (record { left_at = at; left = l; right = r })) c.loop-right.right
    (λ r earlier some. c.loop-right.invariant r earlier some.0 some.1 some.2)
    (λ some. c.in_ok-looks_seen_with_right.ensures c.if-branch.false some.0 some.1 some.2) right below (left_at, left, looks)

pub returns : goal.returns
returns c _ left_at left right looks =
    let walk = c.args.walk.now in
    let space = walk.search.space.now in
    let value = probe_value (value_along (space_tree space) walk.search.cells.now walk.path.now (length walk.path.now)) in
    c.loop-right.invariant right (omega (
      arith,
      slice_get_within (map value (map probe_tree space.predicates)) right looks.value looks.right,
      length-map (map probe_tree space.predicates) value,
      length-map space.predicates probe_tree,
      c.len-right-end.ensures,
      c.loop-right-test.false,
    )) left_at left looks
