use Rattle.std.proofs.Common.{◌≡◌, ◌∙◌, ◌-◌, ◌<◌, List, ℕ, length, map, take, drop, sym, ap, subst, arith}
use Rattle.std.specs.List.{AllByRecursion}
use Rattle.std.proofs.lemmas.Bool.{false≢true}
use Rattle.std.proofs.lemmas.List.{drop-map, take_rest, length-drop}
use Rattle.letter_space.specs.SpaceView.{space_tree}
use Rattle.machines.specs.MachineView.{environment_tree}
use Rattle.branch_finder.specs.internal.Sets.{numbered_set, set_of}
use Rattle.branch_finder.specs.internal.Planes.{IsPlaneOf, ComesFrom, IsKept}
use Rattle.branch_finder.specs.internal.Looking.{pair_tree}
use Rattle.branch_finder.proofs.MoveLemmas.{each_dropped, sets_along, path_counted}
use Rattle.branch_finder.proofs.ToldApart.{apart_by_planes, none_apart}
use Rattle.branch_finder.proofs.looking.tells_apart.Goals as goal

pub returns-then-not-any_bit : goal.returns-then-not-any_bit
returns-then-not-any_bit c =
    let walk = c.args.walk.now in
    let space = space_tree walk.search.space.now in
    let environment = walk.search.environment.now in
    let e = environment_tree environment in
    let left = c.bit_wanted.result in
    let kept = subst (IsPlaneOf e.states (IsKept e c.args.plane.now left.mask left.bits e.states)) (sym c.as_slice-from.ensures.value)
    c.in_ok-from.ensures in (
      λ never. absurd (false≢true never),
      λ told. absurd (none_apart space e environment.has_truths walk.search.mask (map (set_of space walk.search.cells.now) walk.path.now)
          walk.prints.now (pair_tree c.args.pair) c.args.wanted left.mask left.bits c.args.plane.now c.as_slice-from.result.now
          c.bit_wanted.ensures kept (rw c.if-not-any_bit.true at c.any_bit.ensures) told),
    )

pub states_after-requires : goal.states_after-requires
states_after-requires c =
    let walk = c.args.walk.now in
    let at = c.args.pair.left_at in
    let counted = path_counted walk.search.firsts.now walk.numbers.now walk.path.now c.requires.walk.path.is in
    record {
      search = c.requires.walk.search;
      size = ap length c.as_slice-from.ensures.value ∙ c.in_ok-from.ensures.size;
      numbers = subst (AllByRecursion (λ n. n < length walk.search.firsts.now)) (sym (take_rest walk.numbers.now at))
          (each_dropped (λ n. n < length walk.search.firsts.now) at walk.numbers.now c.requires.walk.path.numbers_within);
      prints =
          let left = ap length (take_rest walk.prints.now at) ∙ length-drop at walk.prints.now in
          let left_too = ap length (take_rest walk.numbers.now at) ∙ length-drop at walk.numbers.now in
          omega (arith, left, left_too, counted, c.requires.walk.one_more, c.requires.pair.left_at);
    }

pub returns : goal.returns
returns c =
    let walk = c.args.walk.now in
    let space = space_tree walk.search.space.now in
    let e = environment_tree walk.search.environment.now in
    let cells = walk.search.cells.now in
    let firsts = walk.search.firsts.now in
    let mask = walk.search.mask in
    let numbers = walk.numbers.now in
    let prints = walk.prints.now in
    let pair = c.args.pair in
    let at = pair.left_at in
    let sets = map (set_of space cells) walk.path.now in
    let rest : map (numbered_set space cells firsts) (take (length numbers - at) (drop at numbers)) ≡ drop at sets
    = ap (map (numbered_set space cells firsts)) (take_rest numbers at) ∙ sym (drop-map (numbered_set space cells firsts) at numbers)
    ∙ ap (λ (ns : List ℕ). drop at ns) (sets_along space cells firsts numbers walk.path.now c.requires.walk.path.is) in
    let left = c.bit_wanted.result in
    let right = c.bit_wanted-2.result in
    let kept = subst (IsPlaneOf e.states (IsKept e c.args.plane.now left.mask left.bits e.states)) (sym c.as_slice-from.ensures.value)
    c.in_ok-from.ensures in
    let here : IsPlaneOf e.states (ComesFrom space e mask
    (map (numbered_set space cells firsts) (take (length numbers - at) (drop at numbers)))
    (take (length prints - at) (drop at prints)) c.as_slice-from.result.now) c.as_slice.result.now
    ≡ IsPlaneOf e.states (ComesFrom space e mask (drop at sets) (drop at prints) c.as_slice-from.result.now) c.as_slice.result.now
    = λ i. IsPlaneOf e.states (ComesFrom space e mask (rest i) (take_rest prints at i) c.as_slice-from.result.now) c.as_slice.result.now in
    let comes = subst (λ T. T) here (subst (IsPlaneOf e.states _) (sym c.as_slice.ensures.value) c.in_ok-last.ensures) in
    let both = apart_by_planes space e walk.search.environment.now.has_truths mask sets prints (pair_tree pair) c.args.wanted left.mask
    left.bits
    right.mask right.bits c.args.plane.now c.as_slice-from.result.now c.as_slice.result.now c.bit_wanted.ensures c.bit_wanted-2.ensures kept
    comes in
    (λ is. both.0 (c.is_some_with.ensures.0 is), λ told. c.is_some_with.ensures.1 (both.1 told))
