-- Lists that are built member by member: one member more.
use Rattle.std.proofs.Common.{◌≡◌, ◌∙◌, ℕ, List, [], ◌∷◌, ◌++◌, map, Option, ap}
use Rattle.std.specs.Prelude.{option_map}
use Rattle.base_library.proofs.Lists.{with_front, with_front_push}
use Rattle.spec_syntax.specs.Syntax.{TermSyntax, TermsSyntax, more_terms, FormulaSyntax, FormulasSyntax, more_formulas}

pub terms_more : {A : Type 0} (view : A → TermSyntax) (front all : List A) (t : A) (member : TermSyntax) (rest : TermsSyntax) →
    all ≡ front ++ t ∷ [] → view t ≡ member →
    with_front more_terms (map view all) rest ≡ with_front more_terms (map view front) (more_terms member rest)
terms_more view front all t member rest is h =
    ap (λ xs. with_front more_terms (map view xs) rest) is ∙ with_front_push more_terms view front t rest
    ∙ ap (λ m. with_front more_terms (map view front) (more_terms m rest)) h

pub formulas_more : {A : Type 0} (view : A → FormulaSyntax) (front all : List A) (f : A) (member : FormulaSyntax) (rest : FormulasSyntax) →
    all ≡ front ++ f ∷ [] → view f ≡ member →
    with_front more_formulas (map view all) rest ≡ with_front more_formulas (map view front) (more_formulas member rest)
formulas_more view front all f member rest is h =
    ap (λ xs. with_front more_formulas (map view xs) rest) is ∙ with_front_push more_formulas view front f rest
    ∙ ap (λ m. with_front more_formulas (map view front) (more_formulas m rest)) h

-- the names that are to come behind these
abbrev pub names_behind : List (List ℕ) → Option (List (List ℕ)) → Option (List (List ℕ))
names_behind front rest = option_map (λ ns. front ++ ns) rest
