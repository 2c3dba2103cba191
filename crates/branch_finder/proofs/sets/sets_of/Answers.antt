use Rattle.std.proofs.Common.{◌∙◌, sym, ap, subst, arith}
use Rattle.letter_space.specs.SpaceView.{space_tree}
use Rattle.letter_space.specs.Letters.{ArePicks}
use Rattle.letter_space.proofs.VectorPicks.{vectors_pick}
use Rattle.branch_finder.specs.internal.Sets.{with_updates}
use Rattle.branch_finder.proofs.SetsMade.{no_sets}
use Rattle.branch_finder.proofs.sets.sets_of.Goals as goal

pub loop-vector-init : goal.loop-vector-init
loop-vector-init c =
    no_sets (space_tree c.args.space.now) c.args.cells.now c.new.result.items c.new-2.result.items c.new.ensures.items c.new-2.ensures.items

pub set_picked-set-requires : goal.set_picked-set-requires
set_picked-set-requires c =
    let controlled = (space_tree c.args.space.now).controlled in
    record {
      picks = subst (ArePicks controlled) (sym (c.as_slice.ensures.value ∙ c.in_ok-picks.ensures))
          (vectors_pick controlled c.loop-vector.vector (omega (arith, c.loop-vector-test.true, c.requires.vectors)));
    }

pub add_set-requires : goal.add_set-requires
add_set-requires c = record {
  sets = c.loop-vector.invariant;
  set = c.set_picked-set.ensures
      ∙ ap (λ picks. with_updates (space_tree c.args.space.now) picks 0 c.args.cells.now) (c.as_slice.ensures.value ∙ c.in_ok-picks.ensures);
}

pub returns-clause-small : goal.returns-clause-small
returns-clause-small c =
    omega (arith, c.loop-vector.invariant.are_firsts.few, c.loop-vector.auto.vector-end, c.ranges.vectors.fits)
