use Rattle.std.proofs.Common.{◌≡◌, ◌∙◌, ◌+◌, ◌<◌, suc, true, false, List, ℕ, length, map, take, refl, sym, ap, subst, add-one, arith}
use Rattle.std.proofs.lemmas.Bool.{false≢true}
use Rattle.std.proofs.lemmas.List.{length-map, take-map, length-take-le}
use Rattle.letter_space.specs.SpaceView.{space_tree}
use Rattle.machines.specs.MachineView.{environment_tree}
use Rattle.branch_finder.specs.internal.Sets.{numbered_set, set_of}
use Rattle.branch_finder.specs.internal.Planes.{IsPlaneOf, ComesFrom}
use Rattle.branch_finder.specs.internal.Paths.{TellsApart}
use Rattle.branch_finder.specs.internal.Looking.{pair_tree}
use Rattle.branch_finder.proofs.LoopFacts.{false_is_not_true}
use Rattle.branch_finder.proofs.MoveLemmas.{each_taken, sets_along, path_counted}
use Rattle.branch_finder.proofs.VisitLemmas.{is_environment, visited_below}
use Rattle.branch_finder.proofs.ToldApart.{told_by_one, told_by_both, never_differ, not_from_itself}
use Rattle.branch_finder.proofs.looking.is_told_apart.Goals as goal

pub returns-then-is_one_side : goal.returns-then-is_one_side
returns-then-is_one_side c =
    let walk = c.args.walk.now in
    let space = space_tree walk.search.space.now in
    let cells = walk.search.cells.now in
    let sets = map (set_of space cells) walk.path.now in
    let one = c.is_one_side.ensures.0 c.if-is_one_side.true in (
      λ never. absurd (false≢true never),
      λ told. absurd (not_from_itself space (environment_tree walk.search.environment.now) walk.search.mask sets walk.prints.now
          (pair_tree c.args.pair) one.0 (one.1 ∙ sym (length-map walk.path.now (set_of space cells))) told),
    )

pub returns-then-not-may_differ : goal.returns-then-not-may_differ
returns-then-not-may_differ c =
    let walk = c.args.walk.now in
    let space = space_tree walk.search.space.now in (
      λ never. absurd (false≢true never),
      λ told. absurd (never_differ space (environment_tree walk.search.environment.now) walk.search.mask
          (map (set_of space walk.search.cells.now) walk.path.now) walk.prints.now (pair_tree c.args.pair) told
          (c.may_differ.ensures c.if-not-may_differ.true)),
    )

pub states_after-requires : goal.states_after-requires
states_after-requires c =
    let walk = c.args.walk.now in
    let at = c.args.pair.left_at in
    let counted = path_counted walk.search.firsts.now walk.numbers.now walk.path.now c.requires.walk.path.is in
    record {
      search = c.requires.walk.search;
      size = c.requires.walk.search.visited.size;
      numbers = each_taken (λ n. n < length walk.search.firsts.now) at walk.numbers.now c.requires.walk.path.numbers_within;
      prints =
          let left = length-take-le at walk.numbers.now (omega (arith, counted, c.requires.pair.left_at)) in
          let left_too = length-take-le (at + 1) walk.prints.now (omega (arith, c.requires.walk.one_more, c.requires.pair.left_at)) in
          omega (arith, left, left_too);
    }

pub returns-then-branch : goal.returns-then-branch
returns-then-branch c =
    let walk = c.args.walk.now in
    let space = space_tree walk.search.space.now in
    let environment = walk.search.environment.now in
    let e = environment_tree environment in
    let cells = walk.search.cells.now in
    let firsts = walk.search.firsts.now in
    let mask = walk.search.mask in
    let numbers = walk.numbers.now in
    let prints = walk.prints.now in
    let pair = c.args.pair in
    let at = pair.left_at in
    let sets = map (set_of space cells) walk.path.now in
    let front : map (numbered_set space cells firsts) (take at numbers) ≡ take at sets
    = sym (take-map (numbered_set space cells firsts) at numbers)
    ∙ ap (λ (ns : List ℕ). take at ns) (sets_along space cells firsts numbers walk.path.now c.requires.walk.path.is) in
    let here : IsPlaneOf e.states (ComesFrom space e mask (map (numbered_set space cells firsts) (take at numbers)) (take (at + 1) prints)
    walk.search.visited.now) c.as_slice.result.now
    ≡ IsPlaneOf e.states (ComesFrom space e mask (take at sets) (take (suc at) prints) walk.search.visited.now) c.as_slice.result.now
    = λ i. IsPlaneOf e.states (ComesFrom space e mask (front i) (take (add-one at i) prints) walk.search.visited.now)
    c.as_slice.result.now in
    let comes = subst (λ T. T) here (subst (IsPlaneOf e.states _) (sym c.as_slice.ensures.value) c.in_ok-plane.ensures) in (
      λ _. told_by_one space e environment.has_truths mask sets prints (pair_tree pair) walk.search.visited.now c.as_slice.result.now
          c.requires.walk.search.visited comes true (c.in_ok-tells_apart.ensures.0 c.if-branch.true),
      λ _. refl,
    )

pub returns : goal.returns
returns c =
    let walk = c.args.walk.now in
    let space = space_tree walk.search.space.now in
    let environment = walk.search.environment.now in
    let e = environment_tree environment in
    let cells = walk.search.cells.now in
    let firsts = walk.search.firsts.now in
    let mask = walk.search.mask in
    let numbers = walk.numbers.now in
    let prints = walk.prints.now in
    let pair = c.args.pair in
    let at = pair.left_at in
    let sets = map (set_of space cells) walk.path.now in
    let front : map (numbered_set space cells firsts) (take at numbers) ≡ take at sets
    = sym (take-map (numbered_set space cells firsts) at numbers)
    ∙ ap (λ (ns : List ℕ). take at ns) (sets_along space cells firsts numbers walk.path.now c.requires.walk.path.is) in
    let here : IsPlaneOf e.states (ComesFrom space e mask (map (numbered_set space cells firsts) (take at numbers)) (take (at + 1) prints)
    walk.search.visited.now) c.in_ok-plane.plane.items
    ≡ IsPlaneOf e.states (ComesFrom space e mask (take at sets) (take (suc at) prints) walk.search.visited.now) c.in_ok-plane.plane.items
    = λ i. IsPlaneOf e.states (ComesFrom space e mask (front i) (take (add-one at i) prints) walk.search.visited.now)
    c.in_ok-plane.plane.items in
    let comes = subst (λ T. T) here c.in_ok-plane.ensures in
    let tells = TellsApart space e mask sets prints (pair_tree pair) in (
      λ is. told_by_one space e environment.has_truths mask sets prints (pair_tree pair) walk.search.visited.now c.in_ok-plane.plane.items
          c.requires.walk.search.visited comes false
          (subst (tells false) c.as_slice-2.ensures.value (c.in_ok-tells_apart-2.ensures.0 is)),
      λ told. c.in_ok-tells_apart-2.ensures.1 (subst (tells false) (sym c.as_slice-2.ensures.value)
          (told_by_both space e environment.has_truths mask sets prints (pair_tree pair) walk.search.visited.now c.in_ok-plane.plane.items
          c.requires.walk.search.visited comes (visited_below e (is_environment environment)) told
          (λ apart. false_is_not_true c.in_ok-tells_apart.field-0 c.if-branch.false (c.in_ok-tells_apart.ensures.1
          (subst (tells true) (sym c.as_slice.ensures.value) apart))))),
    )
