-- Places of expansions in which none is made.
use Rattle.std.proofs.Common.{◌≡◌, ◌∙◌, List, length, Option, Some, None, Vec, Bor, sym}
use Rattle.std.specs.List.{AllByRecursion}
use Rattle.std.specs.declared.alloc.Global.{Global}
use Rattle.std.proofs.lemmas.List.{length-map}
use Rattle.std.proofs.lemmas.Option.{none-some}
use Rattle.base_library.proofs.Each.{each_at}
use Rattle.ltl_formula.specs.declared.formula.Ltl.{Ltl}
use Rattle.ltl_formula.specs.LtlTree.{ltl_tree}
use Rattle.obligations.specs.declared.numbered.NumberedChoice.{NumberedChoice}
use Rattle.obligations.specs.Numbers.{lent_trees}
use Rattle.obligations.specs.Expansions.{AreExpansions}

pub none_made : (names : List (Bor Ltl)) (lists : List (Option (Vec NumberedChoice Global))) → length lists ≡ length names →
    AllByRecursion (λ o. o ≡ None) lists → AreExpansions (lent_trees names) lists
none_made names lists same none = record {
  one_each = same ∙ sym (length-map names (λ (f : Bor Ltl). ltl_tree f.now));
  are = λ n cs at. absurd (none-some cs (sym (each_at (λ o. o ≡ None) lists n (Some cs) none at)));
}
