use Rattle.std.proofs.Common.{◌≡◌, ◌∙◌, ◌+◌, ◌∷◌, [], ℕ, List, map, drop, get_or, length, sym, ap, subst, arith}
use Rattle.std.proofs.lemmas.List.{drop_more, drop_all}
use Rattle.letter_space.specs.SpaceView.{space_tree}
use Rattle.machines.specs.MachineView.{environment_tree}
use Rattle.branch_finder.specs.internal.Sets.{numbered_set}
use Rattle.branch_finder.specs.internal.Planes.{IsPlaneOf, GoesFrom, ComesFrom, IsKept}
use Rattle.branch_finder.proofs.VisitLemmas.{is_environment}
use Rattle.branch_finder.proofs.MoveLemmas.{come_more, come_last}
use Rattle.branch_finder.proofs.moving.states_after.Goals as goal

pub loop-step-init : goal.loop-step-init
loop-step-init c =
    let search = c.args.search.now in
    let space = space_tree search.space.now in
    let e = environment_tree search.environment.now in
    let sets = map (numbered_set space search.cells.now search.firsts.now) c.args.numbers.now in
    let same = c.in_ok-states.ensures.items_if_clones_equal (λ x y e. e) in (
      ap length same ∙ c.requires.size,
      λ t. (
        λ from. subst (λ plane. ComesFrom space e search.mask sets c.args.prints.now plane t) same from,
        λ from. subst (λ plane. ComesFrom space e search.mask sets c.args.prints.now plane t) (sym same) from,
      ),
    )

pub loop-step-preserved : goal.loop-step-preserved
loop-step-preserved c =
    let search = c.args.search.now in
    let space = space_tree search.space.now in
    let e = environment_tree search.environment.now in
    let numbers = c.args.numbers.now in
    let prints = c.args.prints.now in
    let step = c.loop-step.step in
    let number = get_or numbers step 0 in
    let print = get_or prints step 0 in
    let set = numbered_set space search.cells.now search.firsts.now in
    let old = c.loop-step.states.items in
    let from = c.in_ok-from.from.items in
    let new = c.in_ok-states-2.states.items in
    let kept : IsPlaneOf e.states (IsKept e old search.mask print e.states) from
    = subst (λ plane. IsPlaneOf e.states (IsKept e plane search.mask print e.states) from) c.as_slice.ensures.value
    (subst (λ mask. IsPlaneOf e.states (IsKept e c.as_slice.result.now mask print e.states) from) c.print_wanted-print.ensures.mask
    (subst (λ bits. IsPlaneOf e.states (IsKept e c.as_slice.result.now c.print_wanted-print.result.mask bits e.states) from)
    c.print_wanted-print.ensures.bits c.in_ok-from.ensures)) in
    let gone = subst (λ plane. IsPlaneOf e.states (GoesFrom space e (set number) plane e.states) new) c.as_slice-in-loop-step.ensures.value
    c.in_ok-states-2.ensures in
    let left = drop_more numbers step 0 c.loop-step-test.true in
    let left_too = drop_more prints step 0 (omega (arith, c.loop-step-test.true, c.requires.prints)) in (
      gone.size,
      λ t.
          let more = come_more space e (is_environment search.environment.now) search.mask (set number) print
          (map set (drop (step + 1) numbers)) (drop (step + 1) prints) old from new kept gone t in
          let here : ComesFrom space e search.mask (map set (drop step numbers)) (drop step prints) old t
          ≡ ComesFrom space e search.mask (set number ∷ map set (drop (step + 1) numbers)) (print ∷ drop (step + 1) prints) old t
          = λ i. ComesFrom space e search.mask (map set (left i)) (left_too i) old t in (
            λ comes. (c.loop-step.invariant.1 t).0 (subst (λ T. T) (sym here) (more.1 comes)),
            λ comes. more.0 (subst (λ T. T) here ((c.loop-step.invariant.1 t).1 comes)),
          ),
    )

pub returns : goal.returns
returns c =
    let search = c.args.search.now in
    let space = space_tree search.space.now in
    let e = environment_tree search.environment.now in
    let numbers = c.args.numbers.now in
    let prints = c.args.prints.now in
    let step = c.loop-step.step in
    let set = numbered_set space search.cells.now search.firsts.now in
    let plane = c.loop-step.states.items in
    let result = c.in_ok-states_with.field-0.items in
    let end : step ≡ length numbers = omega (arith, c.loop-step-test.false, c.loop-step.auto.step-end) in
    let print = get_or prints (length numbers) 0 in
    let none = drop_all step numbers (omega (arith, c.loop-step-test.false)) in
    let one : drop step prints ≡ print ∷ []
    = ap (λ n. drop n prints) end ∙ drop_more prints (length numbers) 0 (omega (arith, c.requires.prints))
    ∙ ap (λ (ns : List ℕ). print ∷ ns) (drop_all (length numbers + 1) prints (omega (arith, c.requires.prints))) in
    let kept : IsPlaneOf e.states (IsKept e plane search.mask print e.states) result
    = subst (λ from. IsPlaneOf e.states (IsKept e from search.mask print e.states) result) c.as_slice-2.ensures.value
    (subst (λ mask. IsPlaneOf e.states (IsKept e c.as_slice-2.result.now mask print e.states) result) c.print_wanted-print-2.ensures.mask
    (subst (λ bits. IsPlaneOf e.states (IsKept e c.as_slice-2.result.now c.print_wanted-print-2.result.mask bits e.states) result)
    c.print_wanted-print-2.ensures.bits c.in_ok-states_with.ensures)) in
    come_last space e search.mask print (map set numbers) prints c.args.plane.now plane result kept (λ t.
    let here : ComesFrom space e search.mask (map set (drop step numbers)) (drop step prints) plane t
    ≡ ComesFrom space e search.mask [] (print ∷ []) plane t
    = λ i. ComesFrom space e search.mask (map set (none i)) (one i) plane t in (
      λ comes. (c.loop-step.invariant.1 t).0 (subst (λ T. T) (sym here) comes),
      λ comes. subst (λ T. T) here ((c.loop-step.invariant.1 t).1 comes),
    ))
