use Rattle.std.proofs.Common.{◌∙◌, ◌∷◌, ◌++◌, [], sym, ap}
use Rattle.base_library.specs.Numbers.{is_among}
use Rattle.letter_space.specs.SpaceView.{space_tree}
use Rattle.branch_finder.proofs.SetsMade.{sets_same, sets_more}
use Rattle.branch_finder.proofs.sets.add_set.Goals as goal

pub returns-in_ok-push-2 : goal.returns-in_ok-push-2
returns-in_ok-push-2 c =
    let sets = c.args.sets.now in
    sets_more (space_tree c.args._space.now) c.args._cells.now c.args.vector sets.sets.items sets.firsts.items c.push.new.self.items
    c.push-then-not-is_there.new.self.items
    (c.in_ok-push.ensures.items ∙ ap (λ set. sets.sets.items ++ set ∷ []) c.requires.set) c.in_ok-push-2.ensures.items c.requires.sets

pub returns-else-not-is_there : goal.returns-else-not-is_there
returns-else-not-is_there c =
    let sets = c.args.sets.now in
    sets_same (space_tree c.args._space.now) c.args._cells.now c.args.vector sets.sets.items sets.firsts.items
    ((λ i. is_among (sym c.as_slice.ensures.value i) (sym c.requires.set i)) ∙ sym c.is_there.ensures ∙ c.if-not-is_there.false)
    c.requires.sets
