use Rattle.definition_expansion.proofs.SectionExpansion.{sections_expand, one_expansion_of_sections}
use Rattle.definition_expansion.proofs.laws.sections_expand_as_their_formulas.Goals as goal

pub returns-clause-expands : goal.returns-clause-expands
returns-clause-expands c named rank ranked n levels_left r xs ss = sections_expand named rank ranked n r ss

pub returns-clause-alone : goal.returns-clause-alone
returns-clause-alone c named rank ranked bodies n levels_left r xs ys ss rs = one_expansion_of_sections named rank ranked n bodies r ss rs
