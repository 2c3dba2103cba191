use Rattle.definition_expansion.proofs.FoldLaws.{number_of_expansion}
use Rattle.definition_expansion.proofs.Tables.{next_number, formula_capped}
use Rattle.base_library.proofs.Each.{each_from_places}
use Rattle.definition_expansion.specs.Folds.{depths}
use Rattle.definition_expansion.specs.internal.UseNumbers.{used_names}
use Rattle.definition_expansion.proofs.SizeLemmas.{formula_stopped, depths_stop}
use Rattle.definition_expansion.proofs.laws.numbers_are_told_without_expansion.Goals as goal

pub returns-clause-whole : goal.returns-clause-whole
returns-clause-whole c F named n a = number_of_expansion F named n (λ x. x) a

pub returns-clause-next : goal.returns-clause-next
returns-clause-next c = next_number

pub returns-clause-stopped : goal.returns-clause-stopped
returns-clause-stopped c = formula_capped

pub returns-clause-stopped_levels : goal.returns-clause-stopped_levels
returns-clause-stopped_levels c most exact stopped agree a =
    formula_stopped most depths (depths_stop most) stopped exact a
    (each_from_places _ (used_names a) (λ i x at. agree x))
