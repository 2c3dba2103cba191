use Rattle.annotation_check.specs.internal.PairsView.{pairs_tree}
use Rattle.annotation_check.proofs.Following.{none_within}
use Rattle.annotation_check.proofs.StepsFollowed.{next_of_pair, step_followed}
use Rattle.annotation_check.proofs.Raising.{place_within}
use Rattle.annotation_check.proofs.growing.Pairs.follow_step.Goals as goal

pub returns-in_default : goal.returns-in_default
returns-in_default c =
    none_within (pairs_tree c.args.self.now) c.args.rise c.args.step c.requires.is_step c.requires.rightful.needed c.in_default.ensures

pub raise-requires : goal.raise-requires
raise-requires c =
    let p = pairs_tree c.args.self.now in
    place_within p c.args.growth.now.numbers.items c.in-Some.next c.requires.grown.size
    (next_of_pair p c.args.self.now.are_pairs c.args.rise c.args.step c.requires.is_step c.in-Some.next c.in-Some.ensures.1)

pub returns : goal.returns
returns c =
    step_followed (pairs_tree c.args.self.now) c.args.self.now.are_pairs c.args.rise c.args.step c.requires.is_step c.in-Some.next
    c.in-Some.ensures.1 c.args.growth.now.numbers.items c.args.growth.now.risen.items c.raise.new.self.numbers.items
    c.raise.new.self.risen.items c.requires.grown c.requires.rightful c.in-Some.ensures.0 c.in_ok-raise.ensures.numbers
    c.in_ok-raise.ensures.risen
