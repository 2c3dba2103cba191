use Rattle.branch_finder.proofs.LoopFacts.{false_is_not_true}
use Rattle.branch_finder.proofs.differing.differ_somewhere.Goals as goal

pub returns-then-have_one_predicate : goal.returns-then-have_one_predicate
returns-then-have_one_predicate c never differ = c.may_differ.ensures never differ.wanted differ.left_is differ.right_is

pub returns-else-have_one_predicate : goal.returns-else-have_one_predicate
returns-else-have_one_predicate c never differ =
    let one = differ.predicate in
    false_is_not_true c.have_one_predicate.result never
    ((c.have_one_predicate.ensures one.left_probe one.right_probe one.is_left one.is_right).1 one.same)
