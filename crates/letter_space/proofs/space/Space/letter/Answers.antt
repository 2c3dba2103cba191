use Rattle.std.proofs.Common.{◌∙◌, arith, length, rules}
use Rattle.std.proofs.lemmas.List.{length_push}
use Rattle.std.proofs.lemmas.Slice.Zip.{zip_turn, zip_end}
use Rattle.letter_space.proofs.Bounds.{turn_below, picks_length, picked_next, picked_all}
use Rattle.letter_space.proofs.space.Space.letter.Goals as goal

pub overflow_add-letter : goal.overflow_add-letter
overflow_add-letter c =
    let turn = (zip_turn c.args.self.now.controlled c.args.picks.now c.loop-controlled.yielded c.into_iter-controlled-iterator.result
    c.loop-controlled.controlled-iterator c.next.new.self c.next.result (search rules) (search rules) c.loop-controlled.yielded_by
    (c.in-Some.controlled, c.in-Some.pick) c.in-Some.is c.next.ensures.steps) in
    omega (
      arith,
      turn_below c.args.self.now.predicates c.args.self.now.controlled c.args.picks.now (length c.loop-controlled.yielded)
          c.in-Some.controlled.now c.in-Some.pick.now c.args.self.now.is_space c.requires turn.0
          (turn.2 c.in-Some.controlled.now) (turn.3 0),
    )

pub overflow_shl-letter : goal.overflow_shl-letter
overflow_shl-letter c =
    let turn = (zip_turn c.args.self.now.controlled c.args.picks.now c.loop-controlled.yielded c.into_iter-controlled-iterator.result
    c.loop-controlled.controlled-iterator c.next.new.self c.next.result (search rules) (search rules) c.loop-controlled.yielded_by
    (c.in-Some.controlled, c.in-Some.pick) c.in-Some.is c.next.ensures.steps) in
    turn_below c.args.self.now.predicates c.args.self.now.controlled c.args.picks.now (length c.loop-controlled.yielded)
    c.in-Some.controlled.now c.in-Some.pick.now c.args.self.now.is_space c.requires turn.0 (turn.2 c.in-Some.controlled.now) (turn.3 0)

pub loop-controlled-preserved : goal.loop-controlled-preserved
loop-controlled-preserved c =
    let turn = (zip_turn c.args.self.now.controlled c.args.picks.now c.loop-controlled.yielded c.into_iter-controlled-iterator.result
    c.loop-controlled.controlled-iterator c.next.new.self c.next.result (search rules) (search rules) c.loop-controlled.yielded_by
    (c.in-Some.controlled, c.in-Some.pick) c.in-Some.is c.next.ensures.steps) in
    let below = turn_below c.args.self.now.predicates c.args.self.now.controlled c.args.picks.now (length c.loop-controlled.yielded)
    c.in-Some.controlled.now c.in-Some.pick.now c.args.self.now.is_space c.requires turn.0 (turn.2 c.in-Some.controlled.now) (turn.3 0) in
    record {
      can_next = search rules;
      is_finite = search rules;
      left =
          rw (length_push c.loop-controlled.yielded (c.in-Some.controlled, c.in-Some.pick))
          (picked_next c.args.self.now.controlled c.args.picks.now (length c.loop-controlled.yielded) c.loop-controlled.letter
          c.in-Some.controlled.now c.in-Some.pick.now turn.0 turn.1 (turn.2 c.in-Some.controlled.now) (turn.3 0) below
          ∙ c.loop-controlled.invariant.left);
    }

pub returns : goal.returns
returns c =
    let end = zip_end c.args.self.now.controlled c.args.picks.now c.loop-controlled.yielded c.into_iter-controlled-iterator.result
    c.loop-controlled.controlled-iterator c.next.new.self c.next.result (search rules)
    (search rules) c.loop-controlled.yielded_by c.in-None.is c.next.ensures.steps in
    picked_all c.args.self.now.controlled c.args.picks.now (length c.loop-controlled.yielded) c.loop-controlled.letter
    (omega (arith, end, picks_length c.args.self.now.controlled c.args.picks.now c.requires))
    ∙ c.loop-controlled.invariant.left
