use Rattle.std.proofs.Common.{◌≡◌, drop}
use Rattle.std.specs.List.{list_all}
use Rattle.obligations.specs.Numbers.{choice_keys}
use Rattle.obligations.specs.internal.Rounds.{is_rising}
use Rattle.obligations.proofs.rounds.are_rising.Given as goal

-- the choices gone through rise
abbrev pub invariant-loop-choice : goal.invariant-loop-choice
invariant-loop-choice l = list_all is_rising (choice_keys (drop l.choice-index l.choices)) ≡ list_all is_rising (choice_keys l.choices)
