use Rattle.std.proofs.Common.{◌≡◌, ◌++◌, drop, filter, length}
use Rattle.obligations.specs.Numbers.{choice_keys}
use Rattle.obligations.specs.internal.Rounds.{lent_keys, is_kept, with_flags}
use Rattle.obligations.proofs.rounds.keep.Given as goal

abbrev pub invariant-loop-place : goal.invariant-loop-place
invariant-loop-place l = record {
  found : lent_keys l.found.items ++ filter (is_kept (lent_keys l.lighter) l.round) (drop l.place (choice_keys l.choices))
      ≡ lent_keys l.initial.found.items ++ filter (is_kept (lent_keys l.lighter) l.round) (choice_keys l.choices);
  flags : with_flags (is_kept (lent_keys l.lighter) l.round) l.place (choice_keys l.choices) l.flags
      ≡ with_flags (is_kept (lent_keys l.lighter) l.round) 0 (choice_keys l.choices) l.initial.flags;
  long : length l.flags ≡ length l.choices;
}
