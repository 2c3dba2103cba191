-- Terms that are bare names.
use Rattle.std.proofs.Common.{◌≡◌, ℕ, List, [], ◌∷◌, Some, ap, ◌∙◌}
use Rattle.std.proofs.lemmas.Option.{same_Some}
use Rattle.base_library.proofs.Options.{some_mapped}
use Rattle.spec_syntax.specs.Syntax.{alone, applied, grouped_term, TermsSyntax, no_terms, more_terms}
use Rattle.definition_expansion.specs.Expansion.{bare_names, passed_names}

-- these names, each as a term
abbrev pub alone_terms : List (List ℕ) → TermsSyntax
alone_terms [] = no_terms
alone_terms (y ∷ ys) = more_terms (alone y) (alone_terms ys)

-- terms that are bare names are nothing else
pub bare_are : (ts : TermsSyntax) (ys : List (List ℕ)) → bare_names ts ≡ Some ys → ts ≡ alone_terms ys
bare_are no_terms ys h = ap alone_terms (same_Some [] ys h)
bare_are (more_terms (alone x) ts) ys h =
    let rest = some_mapped (λ xs. x ∷ xs) (bare_names ts) ys h in
    ap (more_terms (alone x)) (bare_are ts rest.0 rest.1) ∙ ap alone_terms rest.2
bare_are (more_terms (applied f us) ts) ys h = cc
bare_are (more_terms (grouped_term t) ts) ys h = cc

pub passed_are : (ts : TermsSyntax) (ys : List (List ℕ)) → passed_names ts ≡ Some ys → ts ≡ alone_terms ys
passed_are no_terms ys h = cc
passed_are (more_terms t ts) ys h = bare_are (more_terms t ts) ys h
