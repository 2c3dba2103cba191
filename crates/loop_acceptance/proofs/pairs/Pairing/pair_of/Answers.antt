use Rattle.loop_acceptance.proofs.DividedNodes.{tried_below, is_quotient, is_one_less}
use Rattle.loop_acceptance.proofs.pairs.Pairing.pair_of.Goals as goal

pub overflow_sub-state : goal.overflow_sub-state
overflow_sub-state c =
    tried_below c.args.self.states c.args.self.factor c.args.node c.args.self.some c.args.self.goes_in c.ranges.node.fits

pub returns-then-state-self-clause-position : goal.returns-then-state-self-clause-position
returns-then-state-self-clause-position c =
    (is_quotient c.args.self.states c.args.self.factor c.args.node c.args.self.some c.args.self.goes_in c.ranges.node.fits
    c.if-state-self.true).0

pub returns-then-state-self-clause-state : goal.returns-then-state-self-clause-state
returns-then-state-self-clause-state c =
    (is_quotient c.args.self.states c.args.self.factor c.args.node c.args.self.some c.args.self.goes_in c.ranges.node.fits
    c.if-state-self.true).1

pub returns-clause-position : goal.returns-clause-position
returns-clause-position c =
    (is_one_less c.args.self.states c.args.self.factor c.args.node c.args.self.some c.args.self.goes_in c.ranges.node.fits
    c.if-state-self.false).0

pub returns-clause-state : goal.returns-clause-state
returns-clause-state c =
    (is_one_less c.args.self.states c.args.self.factor c.args.node c.args.self.some c.args.self.goes_in c.ranges.node.fits
    c.if-state-self.false).1
