use Rattle.std.proofs.Common.{◌≡◌, IfSome, subst, arith}
use Rattle.letter_space.specs.SpaceView.{space_tree}
use Rattle.machine_finder.specs.internal.Entries.{AreEntries}
use Rattle.machine_finder.proofs.MadeEntries.{next_states, fits}
use Rattle.machine_finder.proofs.making.machine_of.Goals as goal

pub invariant_of-result : goal.invariant_of-result
invariant_of-result c =
    let space = space_tree c.args.space.now in
    let are = subst (λ found. IfSome found (AreEntries space c.args.states)) c.in-Some.is c.in_ok-entries.ensures in
    record {
      has_state = omega (arith, c.if-states-eq0.false);
      has_entries = omega (arith, c.if-len-states.false, c.len.ensures);
      stays = next_states space c.args.states c.in-Some.entries are;
    }

pub returns-clause-fits : goal.returns-clause-fits
returns-clause-fits c =
    let space = space_tree c.args.space.now in
    let are = subst (λ found. IfSome found (AreEntries space c.args.states)) c.in-Some.is c.in_ok-entries.ensures in
    fits space c.args.states c.valuations-valuations.result c.in-Some.entries c.valuations-valuations.ensures are
