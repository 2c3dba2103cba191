use Rattle.std.proofs.Common.{◌≡◌, length, None}
use Rattle.std.specs.List.{AllByRecursion}
use Rattle.obligations.proofs.expansions.no_expansions.Given as goal

-- as many places as formulas gone through, with nothing in any
abbrev pub invariant-loop-name : goal.invariant-loop-name
invariant-loop-name l = record {
  one_each : length l.expansions.items ≡ l._name-index;
  none : AllByRecursion (λ o. o ≡ None) l.expansions.items;
}
