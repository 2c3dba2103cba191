use Rattle.std.proofs.Common.{arith}
use Rattle.std.proofs.lemmas.List.{length-map}
use Rattle.tsl_terms.specs.TermTree.{probe_tree}
use Rattle.letter_space.specs.SpaceView.{space_tree}
use Rattle.machines.specs.MachineView.{environment_tree}
use Rattle.branch_finder.proofs.DifferingStates.{none_spurious}
use Rattle.branch_finder.proofs.differing.may_be_spurious.Goals as goal

pub returns-else-some_differ : goal.returns-else-some_differ
returns-else-some_differ c none w within congruent spurious =
    let search = c.args.search.now in
    let space = space_tree search.space.now in
    let counted = length-map search.space.now.predicates probe_tree in
    none_spurious space (environment_tree search.environment.now) search.cells.now search.equality search.mask c.requires.search.mask w within
    congruent spurious
    (λ left right l r. c.some_differ.ensures c.if-some_differ.false left right (omega (arith, counted, l)) (omega (arith, counted, r)))
    (λ right r. c.some_is_false.ensures none right (omega (arith, counted, r)))
