use Rattle.std.proofs.Common.{◌≡◌, ◌++◌, drop, map}
use Rattle.std.specs.List.{AllByRecursion}
use Rattle.obligations.specs.Named.{choice_named, IsWell}
use Rattle.obligations.specs.Numbers.{choice_keys, lent_trees}
use Rattle.obligations.specs.Chosen.{choice_trees}
use Rattle.obligations.proofs.stepping.choices_of.Given as goal

-- the choices so far, and then those that are left
abbrev pub invariant-loop-choice : goal.invariant-loop-choice
invariant-loop-choice l = record {
  made : choice_trees l.made.items ++ map (choice_named (lent_trees l.names)) (choice_keys (drop l.choice-index l.choices))
      ≡ map (choice_named (lent_trees l.names)) (choice_keys l.choices);
  well : AllByRecursion (IsWell (lent_trees l.names)) (choice_keys (drop l.choice-index l.choices));
}
