use Rattle.std.proofs.Common.{◌≡◌, ◌+◌, drop}
use Rattle.std.specs.List.{position_or_len}
use Rattle.clause_core.specs.Clauses.{has_pair}
use Rattle.clause_core.proofs.clause_list.ClauseList.first_tautology.Given as goal

-- the first clause with a pair stands among those that are left
abbrev pub invariant-loop-place : goal.invariant-loop-place
invariant-loop-place l = position_or_len has_pair l.self ≡ l.place + position_or_len has_pair (drop l.place l.self)
