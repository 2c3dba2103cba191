use Rattle.std.proofs.Common.{◌≡◌, ◌∙◌, ◌-◌, ◌+◌, ◌++◌, ◌∷◌, [], List, ℕ, length, map, take, get_or, sym, ap, subst, arith, length-append}
use Rattle.std.proofs.lemmas.List.{take-map}
use Rattle.std.proofs.lemmas.Option.{slice_get-get_or, slice_get_within}
use Rattle.letter_space.specs.SpaceView.{space_tree}
use Rattle.machines.specs.MachineView.{environment_tree}
use Rattle.branch_finder.specs.internal.Sets.{numbered_set, set_of}
use Rattle.branch_finder.specs.internal.Planes.{ComesFrom}
use Rattle.branch_finder.specs.internal.Finding.{HasNoneBy}
use Rattle.branch_finder.proofs.LoopFacts.{each_more}
use Rattle.branch_finder.proofs.MoveLemmas.{sets_along}
use Rattle.branch_finder.proofs.VisitLemmas.{is_environment}
use Rattle.branch_finder.proofs.Chosen.{none_by_each, none_unreached}
use Rattle.branch_finder.proofs.finding.+window_from.Goals as goal

pub loop-print-preserved-then-not-branch : goal.loop-print-preserved-then-not-branch
loop-print-preserved-then-not-branch t c =
    let search = c.args.search.now in
    let space = space_tree search.space.now in
    let environment = search.environment.now in
    let e = environment_tree environment in
    let cells = search.cells.now in
    let firsts = search.firsts.now in
    let numbers = c.args.numbers.now in
    let path = c.args.path.now in
    let prints = c.args.prints.now in
    let index = c.loop-print.print-index in
    let print = get_or search.prints.now index 0 in
    let longer = c.as_slice.result.now in
    let is : longer ≡ prints ++ print ∷ [] = c.as_slice.ensures.value ∙ c.in_ok-longer.ensures in
    let sized : length longer ≡ length prints + 1 = ap length is ∙ length-append prints (print ∷ []) in
    let sets : map (numbered_set space cells firsts) (take (length longer - 1) numbers) ≡ take (length longer - 1)
    (map (set_of space cells) path)
    = sym (take-map (numbered_set space cells firsts) (length longer - 1) numbers)
    ∙ ap (λ (ns : List ℕ). take (length longer - 1) ns) (sets_along space cells firsts numbers path c.requires.path.is) in
    each_more (λ n. HasNoneBy space e cells search.equality search.mask path (prints ++ n ∷ [])) search.prints.now index print
    (slice_get-get_or search.prints.now index 0 c.loop-print-test.true) (λ k y below at. c.loop-print.invariant k y below at)
    (subst (HasNoneBy space e cells search.equality search.mask path) is
    (none_unreached space e (is_environment environment) cells search.equality search.mask path longer search.visited.now
    c.requires.search.visited (omega (arith, sized)) (omega (arith, sized, c.requires.left, c.if-left-eq0.false))
    (λ t comes. c.in_ok-is_reached.ensures c.if-not-branch.true t
    (subst (λ (ss : List ℕ). ComesFrom space e search.mask ss longer search.visited.now t) (sym sets) comes))))

pub loop-print-preserved : goal.loop-print-preserved
loop-print-preserved t c =
    let search = c.args.search.now in
    let space = space_tree search.space.now in
    let e = environment_tree search.environment.now in
    let cells = search.cells.now in
    let prints = c.args.prints.now in
    let index = c.loop-print.print-index in
    let print = get_or search.prints.now index 0 in
    let is : c.as_slice-in-loop-print.result.now ≡ prints ++ print ∷ []
    = c.as_slice-in-loop-print.ensures.value ∙ c.in_ok-longer.ensures in
    each_more (λ n. HasNoneBy space e cells search.equality search.mask c.args.path.now (prints ++ n ∷ [])) search.prints.now index print
    (slice_get-get_or search.prints.now index 0 c.loop-print-test.true) (λ k y below at. c.loop-print.invariant k y below at)
    (subst (HasNoneBy space e cells search.equality search.mask c.args.path.now) is (rw c.in_default.is at c.in_ok-window.ensures.none))

pub returns-clause-none : goal.returns-clause-none
returns-clause-none t c =
    let search = c.args.search.now in
    let environment = search.environment.now in
    none_by_each (space_tree search.space.now) (environment_tree environment) (is_environment environment) search.cells.now search.equality
    search.mask c.args.path.now c.args.prints.now search.prints.now c.requires.search.prints
    (omega (arith, c.requires.left, c.if-left-eq0.false))
    (λ i print at. c.loop-print.invariant i print
    (omega (arith, slice_get_within search.prints.now i print at, c.loop-print-test.false)) at)
