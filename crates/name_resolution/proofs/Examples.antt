-- Worked examples: the names of short texts, counted from 0.
use Rattle.std.proofs.Common.{◌≡◌, ℕ, List, [], ◌∷◌, refl}
use Rattle.std.specs.Prelude.{Option, Some, None, codes, position}
use Rattle.spec_syntax.specs.declared.syntax.Part.TheVariants.{GuaranteeFirst}
use Rattle.spec_syntax.specs.Syntax.{alone, grouped_term, no_terms, more_terms, FormulaSyntax, bare, tested, updated}
use Rattle.spec_syntax.specs.Syntax.{Declaration, the_section, the_definition}
use Rattle.tsl_terms.specs.Clashes.{first_uses}
use Rattle.name_resolution.specs.Heads.{heads_in}
use Rattle.name_resolution.specs.Occurrences.{occurrences}
use Rattle.name_resolution.specs.Faults.{is_redefined, has_kind_fault, has_arity_fault}

abbrev one : List ℕ → FormulaSyntax → Declaration
one x a = the_definition (record { name = x; parameters = []; body = a })

abbrev with_one : List ℕ → List ℕ → FormulaSyntax → Declaration
with_one x p a = the_definition (record { name = x; parameters = p ∷ []; body = a })

abbrev with_two : List ℕ → List ℕ → List ℕ → FormulaSyntax → Declaration
with_two x p q a = the_definition (record { name = x; parameters = p ∷ q ∷ []; body = a })

abbrev guaranteed : FormulaSyntax → Declaration
guaranteed a = the_section (record { part = GuaranteeFirst; formulas = a ∷ [] })

abbrev test_one : List ℕ → List ℕ → FormulaSyntax
test_one p x = tested p (more_terms (alone x) no_terms)

abbrev redefined : List Declaration → Option ℕ
redefined ds = position (λ o. is_redefined o.role) (occurrences (first_uses (heads_in ds)) ds)

abbrev wrong_kind : List Declaration → Option ℕ
wrong_kind ds = position (has_kind_fault (occurrences (first_uses (heads_in ds)) ds)) (occurrences (first_uses (heads_in ds)) ds)

abbrev wrong_arity : List Declaration → Option ℕ
wrong_arity ds =
    position (has_arity_fault (first_uses (heads_in ds)) (occurrences (first_uses (heads_in ds)) ds))
    (occurrences (first_uses (heads_in ds)) ds)

-- `a = b; a = c;`
defined_again : redefined (one (codes "a") (bare (codes "b")) ∷ one (codes "a") (bare (codes "c")) ∷ []) ≡ Some 2
defined_again = refl

-- `f s s = p s;`: of twins the first one
twins : redefined (with_two (codes "f") (codes "s") (codes "s") (test_one (codes "p") (codes "s")) ∷ []) ≡ Some 1
twins = refl

-- `f g = p g; g = a;`: a parameter that is defined further down
defined_below : redefined (with_one (codes "f") (codes "g") (test_one (codes "p") (codes "g")) ∷ one (codes "g") (bare (codes "a")) ∷ []) ≡ Some 1
defined_below = refl

-- `a x = p x; guarantee { a (y); }`: a term in brackets is no bare name
in_brackets : wrong_kind (with_one (codes "a") (codes "x") (test_one (codes "p") (codes "x"))
    ∷ guaranteed (tested (codes "a") (more_terms (grouped_term (alone (codes "y"))) no_terms)) ∷ []) ≡ Some 4
in_brackets = refl

-- `a = p x; guarantee { a (); }`: empty brackets are no use
empty_brackets : wrong_kind (one (codes "a") (test_one (codes "p") (codes "x")) ∷ guaranteed (tested (codes "a") no_terms) ∷ []) ≡ Some 3
empty_brackets = refl

-- `moves s v = [s <- v]; guarantee { moves; }`: a use of no names
without_names : wrong_arity (with_two (codes "moves") (codes "s") (codes "v") (updated (codes "s") (alone (codes "v")))
    ∷ guaranteed (bare (codes "moves")) ∷ []) ≡ Some 5
without_names = refl

-- `f s = p s; g = s x;`: a parameter is one of its own definition alone
other_parameter : wrong_kind (with_one (codes "f") (codes "s") (test_one (codes "p") (codes "s"))
    ∷ one (codes "g") (test_one (codes "s") (codes "x")) ∷ []) ≡ None
other_parameter = refl
