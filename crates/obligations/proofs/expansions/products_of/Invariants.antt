use Rattle.std.proofs.Common.{◌≡◌, [], ◌∷◌, drop, map, nat_eq}
use Rattle.std.specs.Ordering.{nat_cmp}
use Rattle.obligations.specs.Choices.{empty_choice}
use Rattle.obligations.specs.Expansion.{choices_from}
use Rattle.obligations.specs.Expansions.{AreExpansions}
use Rattle.obligations.specs.Named.{formula_named}
use Rattle.obligations.specs.Numbers.{choice_keys, lent_trees, formula_number}
use Rattle.obligations.specs.internal.Antichains.{IsAntichain}
use Rattle.obligations.proofs.expansions.products_of.Given as goal

-- what the choices so far make with the members that are left
abbrev pub invariant-loop-member : goal.invariant-loop-member
invariant-loop-member l = record {
  choices : choices_from nat_eq nat_cmp (formula_number (lent_trees l.names)) (choice_keys l.so_far.items)
      (map (formula_named (lent_trees l.names)) (drop l.member-index l.members))
      ≡ choices_from nat_eq nat_cmp (formula_number (lent_trees l.names)) (empty_choice ∷ [])
      (map (formula_named (lent_trees l.names)) l.members);
  antichain : IsAntichain (choice_keys l.so_far.items);
  expansions : AreExpansions (lent_trees l.names) l.expansions;
}
