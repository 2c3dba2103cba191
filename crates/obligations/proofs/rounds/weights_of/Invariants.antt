use Rattle.std.proofs.Common.{◌≡◌, ◌+◌, ◌<◌, ◌≤◌, ◌^◌, map, take}
use Rattle.std.specs.List.{AllByRecursion}
use Rattle.obligations.specs.Numbers.{choice_keys}
use Rattle.obligations.specs.internal.Rounds.{weight}
use Rattle.obligations.proofs.rounds.weights_of.Given as goal

-- the weights of the choices gone through, below the bound
abbrev pub invariant-loop-choice : goal.invariant-loop-choice
invariant-loop-choice l = record {
  weights : l.weights.items ≡ map weight (choice_keys (take l.choice-index l.choices));
  bound : AllByRecursion (λ c. weight c < l.bound) (choice_keys (take l.choice-index l.choices));
  small : l.bound ≤ 2 ^ 40 + 1;
}
