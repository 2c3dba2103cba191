-- Choices over the numbers of formulas, as they lie in memory and without where they lie.
use Rattle.std.specs.Prelude.{ℕ, not, List, map, nat_eq, Option}
use Rattle.std.specs.Borrow.{Bor}
use Rattle.std.specs.List.{prefix_len}
use Rattle.std.specs.Ordering.{nat_cmp}
use Rattle.ltl_formula.specs.declared.formula.Ltl.{Ltl}
use Rattle.ltl_formula.specs.LtlTree.{LtlTree, ltl_tree}
use Rattle.obligations.specs.declared.numbered.NumberedChoice.{NumberedChoice}
use Rattle.obligations.specs.Choices.{ChoiceOf}
use Rattle.obligations.specs.Expansion.{expansion_by, same_formula}

-- a choice over numbers
abbrev pub ChoiceKey : Type 0
ChoiceKey = ChoiceOf ℕ

abbrev pub choice_key : NumberedChoice → ChoiceKey
choice_key c = record { care = c.care; want = c.want; next_set = c.next.items; postponed = c.postponed.items }

abbrev pub choice_keys : List NumberedChoice → List ChoiceKey
choice_keys cs = map choice_key cs

-- the trees of formulas that are lent
abbrev pub lent_trees : List (Bor Ltl) → List LtlTree
lent_trees fs = map (λ f. ltl_tree f.now) fs

-- the number of a formula: how many stand before it in a list, and all where it is not there
abbrev pub formula_number : List LtlTree → LtlTree → ℕ
formula_number names f = prefix_len (λ g. not (same_formula g f)) names

-- the expansion over numbers
abbrev pub numbered_expansion : List LtlTree → LtlTree → Option (List ChoiceKey)
numbered_expansion names f = expansion_by nat_eq nat_cmp (formula_number names) f
