-- Small expansions.
use Rattle.std.proofs.Common.{◌≡◌, ℕ, List, [], ◌∷◌, refl}
use Rattle.std.specs.Prelude.{codes}
use Rattle.spec_syntax.specs.Syntax.{alone, grouped_term, TermsSyntax, no_terms, more_terms, FormulaSyntax, tested, grouped}
use Rattle.spec_syntax.specs.Syntax.{Definition}
use Rattle.definition_expansion.specs.Expansion.{expanded, expansion_within}
use Rattle.definition_expansion.specs.DefinitionView.{named_in}

abbrev one : List ℕ → TermsSyntax
one x = more_terms (alone x) no_terms

abbrev two : List ℕ → List ℕ → TermsSyntax
two x y = more_terms (alone x) (one y)

-- `f s = g s; g t = p t s;`
abbrev calling : List Definition
calling =
    (record { name = codes "f"; parameters = codes "s" ∷ []; body = tested (codes "g") (one (codes "s")) })
    ∷ (record { name = codes "g"; parameters = codes "t" ∷ []; body = tested (codes "p") (two (codes "t") (codes "s")) })
    ∷ []

abbrev full : FormulaSyntax → FormulaSyntax
full a = expanded (expansion_within (named_in calling) 2) (λ x. x) a

-- `f y` is `((p y s))`: the `s` of g is no parameter of g, whatever f calls its own
parameters_are_of_their_own_definition : full (tested (codes "f") (one (codes "y")))
    ≡ grouped (grouped (tested (codes "p") (two (codes "y") (codes "s"))))
parameters_are_of_their_own_definition = refl

-- `f ()` and `f (y)` are no uses
no_names_are_passed : full (tested (codes "f") no_terms) ≡ tested (codes "f") no_terms
no_names_are_passed = refl

a_name_in_brackets_is_not_passed : full (tested (codes "f") (more_terms (grouped_term (alone (codes "y"))) no_terms))
    ≡ tested (codes "f") (more_terms (grouped_term (alone (codes "y"))) no_terms)
a_name_in_brackets_is_not_passed = refl
