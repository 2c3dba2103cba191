use Rattle.std.proofs.Common.{◌≡◌, ◌∙◌, List, length, map, sym, ap, subst}
use Rattle.std.specs.List.{AllByRecursion}
use Rattle.base_library.proofs.Each.{each_weaker}
use Rattle.tsl_terms.specs.declared.window.Equated.{Equated}
use Rattle.tsl_terms.specs.TermTree.{count_of_terms}
use Rattle.tsl_terms.specs.WindowTree.{EquatedTree, equated_tree, window_tree}
use Rattle.tsl_terms.specs.Congruence.{IsEquality}
use Rattle.letter_space.specs.SpaceView.{space_tree}
use Rattle.machines.specs.MachineView.{environment_tree}
use Rattle.branch_finder.specs.internal.Paths.{equalities_along}
use Rattle.branch_finder.specs.internal.Thinning.{IsCandidate}
use Rattle.branch_finder.proofs.Seen.{each_is_equality}
use Rattle.branch_finder.proofs.Found.{thinned_found}
use Rattle.branch_finder.proofs.NoneSeen.{none_seen}
use Rattle.branch_finder.proofs.ValueLemmas.{no_bit_of_none, seen_looks, none_alone}
use Rattle.branch_finder.proofs.finding.window_along.Goals as goal

pub classes_along-requires : goal.classes_along-requires
classes_along-requires c =
    let search = c.args.search.now in
    let space = space_tree search.space.now in
    let two = each_weaker (λ q. IsEquality search.equality q.probe) (λ (q : EquatedTree). count_of_terms q.probe.arguments ≡ 2)
    (λ q is. is.two)
    (equalities_along space.predicates 0 c.args.prints.now)
    (each_is_equality space search.equality search.mask c.args.prints.now c.requires.search.mask c.requires.prints) in
    subst (AllByRecursion (λ (q : EquatedTree). count_of_terms q.probe.arguments ≡ 2))
    (sym (ap (λ (qs : List Equated). map equated_tree qs) c.as_slice-2.ensures.value ∙ c.in_ok-equalities.ensures)) two

pub returns-in-Some-clause-found : goal.returns-in-Some-clause-found
returns-in-Some-clause-found c =
    let search = c.args.search.now in
    let space = space_tree search.space.now in
    let e = environment_tree search.environment.now in
    let seen = rw c.in-Some.is at c.in_ok-window.ensures.some in
    let thinned = c.in_ok-needed_window-in-Some.ensures in
    let window = window_tree c.in_ok-needed_window-in-Some.field-0 in
    thinned_found space e search.cells.now search.equality (length c.args.path.now) window
    (subst (λ n. IsCandidate space e search.cells.now search.equality n window) seen.long thinned.candidate) c.requires.path.short
    thinned.updates thinned.equalities

pub returns-then-not-branch-clause-none : goal.returns-then-not-branch-clause-none
returns-then-not-branch-clause-none c =
    let search = c.args.search.now in
    let space = space_tree search.space.now in
    let e = environment_tree search.environment.now in
    let cells = search.cells.now in
    let path = c.args.path.now in
    let prints = c.args.prints.now in
    let looks = c.in_ok-may_be_seen.ensures c.if-not-branch.true in
    let no_bit = no_bit_of_none search.mask looks.0 in
    none_seen space e cells search.equality search.mask path prints search.space.now.is_space c.requires.search.fits.vectors
    c.requires.path.vectors c.requires.each c.requires.search.mask c.requires.prints
    (λ left_at left right seen. looks.1 left_at left right
    (seen_looks space e cells search.equality search.mask path prints no_bit c.requires.prints left_at left right seen))
    (none_alone space e cells search.equality search.mask path prints no_bit c.requires.search.mask)
