use Rattle.std.proofs.Common.{◌≡◌, length}
use Rattle.obligations.specs.Numbers.{choice_keys}
use Rattle.obligations.specs.internal.Rounds.{lent_keys, rounds, flags_after}
use Rattle.obligations.proofs.rounds.run_rounds.Given as goal

abbrev pub invariant-loop-round : goal.invariant-loop-round
invariant-loop-round l = record {
  lighter : lent_keys l.lighter.items ≡ rounds (choice_keys l.choices) l.round;
  flags : l.flags ≡ flags_after (choice_keys l.choices) l.round l.initial.flags;
  long : length l.flags ≡ length l.choices;
}
