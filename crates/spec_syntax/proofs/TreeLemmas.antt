-- Lists of terms and of formulas that are built member by member.
use Rattle.std.proofs.Common.{◌≡◌, List, [], ◌∷◌, refl, ap}
use Rattle.base_library.proofs.Lists.{with_front}
pub use Rattle.base_library.proofs.Lists.{with_front_push}
use Rattle.spec_syntax.specs.Syntax.{TermSyntax, no_terms, more_terms, listed_terms, FormulaSyntax, no_formulas, more_formulas}
use Rattle.spec_syntax.specs.Syntax.{listed_formulas}

pub terms_front_none : (front : List TermSyntax) → with_front more_terms front no_terms ≡ listed_terms front
terms_front_none [] = refl
terms_front_none (t ∷ front) = ap (more_terms t) (terms_front_none front)

pub formulas_front_none : (front : List FormulaSyntax) → with_front more_formulas front no_formulas ≡ listed_formulas front
formulas_front_none [] = refl
formulas_front_none (f ∷ front) = ap (more_formulas f) (formulas_front_none front)
