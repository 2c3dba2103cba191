use Rattle.std.proofs.Common.{◌≡◌, List, length, set, Option, Some, sym, ap, subst, arith, ◌∙◌}
use Rattle.std.proofs.lemmas.Option.{slice_get_within}
use Rattle.std.proofs.lemmas.List.{length-set}
use Rattle.std.specs.Vec.{with_item}
use Rattle.sat_trail.specs.declared.watches.Pair.{Pair}
use Rattle.sat_trail.specs.declared.watches.Watches.{Watches}
use Rattle.sat_trail.specs.internal.Watching.{PutsPair}
use Rattle.sat_trail.proofs.WatchLists.{pair_set}
use Rattle.sat_trail.proofs.Stays.{lists_have}
use Rattle.sat_trail.proofs.Visits.{HasRead, has_read, HasOther, has_other, clause_within, blocker_over, due_blocked, due_unpaired}
use Rattle.sat_trail.proofs.Visits.{other_over, pair_read, due_other, visits_forced, due_forced}
use Rattle.sat_trail.proofs.Renewed.{visits_renewed, due_renewed}
use Rattle.sat_trail.proofs.Moved.{Moves, list_kept, visits_moved, due_moved}
use Rattle.sat_trail.proofs.watches.Watches.visit.Goals as goal
use Rattle.sat_trail.proofs.watches.Watches.visit.Goals.{After-get-watch, After-other-other, After-of}

read : (c : After-get-watch) → HasRead c.args.stack.now c.args.self.now c.args.falsified c.args.index c.get-watch.result
read c = has_read c.requires.ready c.requires.visiting c.code.ensures c.index.ensures c.get-watch.ensures

other : (c : After-other-other) → HasOther c.args.stack.now c.args.self.now c.args.falsified c.args.index c.get-watch.result
    c.other-other.result
other c = has_other (has_read c.requires.ready c.requires.visiting c.code.ensures c.index.ensures c.get-watch.ensures)
    c.index-2.ensures (sym c.read.ensures ∙ c.in-Some.is) c.other-other.ensures.of c.other-other.ensures.apart

abbrev changed : After-of → Watches
changed c = record c.drop_watch.new.self { pairs = with_item c.drop_watch.new.self.pairs c.get-watch.result.clause c.of.result }

moves : (c : After-of) → Moves c.args.stack.now c.args.self.now (changed c) c.args.falsified c.args.index
moves c =
    let w = c.args.self.now in
    let number = c.get-watch.result.clause in
    let new = c.in-Some-next_pair.next in
    let o = has_other (has_read c.requires.ready c.requires.visiting c.code.ensures c.index.ensures c.get-watch.ensures)
    c.index-2.ensures (sym c.read.ensures ∙ c.in-Some.is) c.other-other.ensures.of c.other-other.ensures.apart in
    let same : c.drop_watch.new.self.pairs.items ≡ w.pairs.items =
    ap (λ (x : Watches). x.pairs.items) c.drop_watch.ensures.rest ∙ ap (λ (x : Watches). x.pairs.items) c.add_watch.ensures.rest in
    record {
      watch = c.get-watch.result;
      other = c.other-other.result;
      new = new;
      between = c.add_watch.new.self.lists.items;
      was_read = o;
      next = c.in-Some-next_pair.ensures;
      adds = c.in_ok-add_watch.ensures.lists;
      drops = c.drop_watch.ensures.lists;
      puts = subst (λ (x : Option Pair). PutsPair w.pairs.items number new (set c.drop_watch.new.self.pairs.items number x))
          (sym c.of.ensures) (subst (λ (ps : List (Option Pair)). PutsPair w.pairs.items number new (set ps number (Some new))) (sym same)
          (pair_set w.pairs.items number new (slice_get_within w.pairs.items number (Some o.pair) o.at)));
      count = length-set c.drop_watch.new.self.pairs.items number c.of.result ∙ ap length same;
      rest = ap (λ (x : Watches). record x { pairs = (changed c).pairs }) c.drop_watch.ensures.rest
          ∙ ap (λ (x : Watches). record x { lists = (changed c).lists; pairs = (changed c).pairs }) c.add_watch.ensures.rest;
    }

pub is_true-requires : goal.is_true-requires
is_true-requires c = blocker_over (read (goal.at.is_true-requires c).After-get-watch)

pub returns-then-is_true-clause-ends : goal.returns-then-is_true-clause-ends
returns-then-is_true-clause-ends c = due_blocked (read (goal.at.returns-then-is_true-clause-ends c).After-get-watch)
    (sym c.is_true.ensures ∙ c.if-is_true.true)

pub index-requires-2 : goal.index-requires-2
index-requires-2 c = omega
    (arith, clause_within (read (goal.at.index-requires-2 c).After-get-watch), c.args.self.now.pairs.ok.0)

pub returns-in_default-clause-ends : goal.returns-in_default-clause-ends
returns-in_default-clause-ends c = due_unpaired (read (goal.at.returns-in_default-clause-ends c).After-get-watch) c.index-2.ensures
    (sym c.read.ensures ∙ c.in_default.is)

pub is_true-requires-2 : goal.is_true-requires-2
is_true-requires-2 c = other_over (other (goal.at.is_true-requires-2 c).After-other-other)

pub returns-then-is_true-2-clause-visits : goal.returns-then-is_true-2-clause-visits
returns-then-is_true-2-clause-visits c = visits_renewed (other (goal.at.returns-then-is_true-2-clause-visits c).After-other-other)
    c.renew_watch.ensures.lists c.renew_watch.ensures.rest

pub returns-then-is_true-2-clause-ends : goal.returns-then-is_true-2-clause-ends
returns-then-is_true-2-clause-ends c =
    let o = other (goal.at.returns-then-is_true-2-clause-ends c).After-other-other in
    due_renewed o c.renew_watch.ensures.lists c.renew_watch.ensures.rest (due_other o (sym c.is_true-2.ensures ∙ c.if-is_true-2.true))

pub next_pair-requires-clause-pair : goal.next_pair-requires-clause-pair
next_pair-requires-clause-pair c = pair_read (read (goal.at.next_pair-requires-clause-pair c).After-get-watch) c.index-2.ensures
    (sym c.read.ensures ∙ c.in-Some.is)

pub returns-in_default-next_pair-clause-visits : goal.returns-in_default-next_pair-clause-visits
returns-in_default-next_pair-clause-visits c = visits_forced c.force_or_fail.new.stack c.args.index c.force_or_fail.result
    c.requires.ready.watched c.requires.visiting c.force_or_fail.ensures.ok

pub returns-in_default-next_pair-clause-ends : goal.returns-in_default-next_pair-clause-ends
returns-in_default-next_pair-clause-ends c = due_forced c.force_or_fail.result
    (other (goal.at.returns-in_default-next_pair-clause-ends c).After-other-other) c.force_or_fail.ensures.sound
    c.force_or_fail.ensures.ok c.force_or_fail.ensures.ends

pub add_watch-requires : goal.add_watch-requires
add_watch-requires c =
    let next = c.in-Some-next_pair.ensures.is_in in
    lists_have c.args.stack.now c.args.self.now c.requires.ready.sound c.requires.ready.watched c.get-watch.result.clause next.clause
    c.in-Some-next_pair.next.first next.named next.is.first

pub drop_watch-requires : goal.drop_watch-requires
drop_watch-requires c = list_kept c.in-Some-next_pair.next.first c.requires.visiting.visit c.in-Some-next_pair.ensures.not_false
    c.in_ok-add_watch.ensures.lists

pub index_mut-requires : goal.index_mut-requires
index_mut-requires c = omega (
  arith,
  clause_within (read (goal.at.index_mut-requires c).After-get-watch),
  ap (λ (x : Watches). length x.pairs.items) c.add_watch.ensures.rest,
  ap (λ (x : Watches). length x.pairs.items) c.drop_watch.ensures.rest,
  c.drop_watch.new.self.pairs.ok.0,
)

pub returns-clause-visits : goal.returns-clause-visits
returns-clause-visits c = visits_moved (moves (goal.at.returns-clause-visits c).After-of)

pub returns-clause-ends : goal.returns-clause-ends
returns-clause-ends c = due_moved (moves (goal.at.returns-clause-ends c).After-of)
