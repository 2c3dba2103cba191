-- What holds of each name that a formula, formulas or declarations have.
use Rattle.std.proofs.Common.{ℕ, suc, List, [], ◌∷◌, Option}
use Rattle.std.specs.Prelude.{flat_map}
use Rattle.std.specs.List.{AllByRecursion}
use Rattle.base_library.proofs.Each.{each_from_places, each_joined, each_left, each_right}
use Rattle.tsl_terms.specs.declared.names.NameKind.TheVariants.{Signal, Function, Predicate}
use Rattle.tsl_terms.specs.Name.{Name}
use Rattle.tsl_terms.specs.Clashes.{with_use}
use Rattle.spec_syntax.specs.Syntax.{TermSyntax, alone, applied, grouped_term, TermsSyntax, no_terms, more_terms}
use Rattle.spec_syntax.specs.Syntax.{FormulaSyntax, truth, falsehood, bare, tested, updated, grouped, under, between}
use Rattle.spec_syntax.specs.Syntax.{joined, FormulasSyntax, no_formulas, more_formulas, SectionSyntax}
use Rattle.spec_syntax.specs.Syntax.{Definition, Declaration, the_section, the_definition}
use Rattle.definition_expansion.specs.Expansion.{passed_names}
use Rattle.definition_expansion.specs.Occurrences.{count_of}
use Rattle.definition_expansion.specs.UseLevels.{At, level_of_right, test_at, uses_at, members_uses_at}
use Rattle.name_resolution.specs.Heads.{head_of}
use Rattle.name_resolution.specs.Occurrences.{Occurrence, Scope, role_in, atom_role, occurrence, occurrence_alone, term_occurrences}
use Rattle.name_resolution.specs.Occurrences.{terms_occurrences, formula_occurrences, members_occurrences, section_occurrences}
use Rattle.name_resolution.specs.Occurrences.{definition_occurrences, occurrences_behind}

-- names are such, of an atom where what it may use is such
pub record OfNames (s : Scope) (P : Occurrence → Type 0) (U : At → Type 0) : Type 0 where
  pub signal : (level : ℕ) (x : List ℕ) → P (occurrence s level (role_in s x) Signal 0 x)
  pub function : (level n : ℕ) (f : List ℕ) → P (occurrence s level (role_in s f) Function n f)
  pub atom : (level : ℕ) (x : List ℕ) → U (record { name = x; level = level }) → P (occurrence_alone s level x)
  pub test : (level n : ℕ) (p : List ℕ) (names : Option (List (List ℕ))) → AllByRecursion U (test_at level p names) →
      P (occurrence s level (atom_role s p names) Predicate n p)

module _ (s : Scope) (P : Occurrence → Type 0) (U : At → Type 0) (names : OfNames s P U) where
  mutual
    term_each : (level : ℕ) (t : TermSyntax) → AllByRecursion P (term_occurrences s level t)
    term_each level (alone x) = (names.signal level x, tt)
    term_each level (applied f ts) = (names.function level (count_of ts) f, terms_each level ts)
    term_each level (grouped_term t) = term_each level t

    terms_each : (level : ℕ) (ts : TermsSyntax) → AllByRecursion P (terms_occurrences s level ts)
    terms_each level no_terms = tt
    terms_each level (more_terms t ts) =
        each_joined P (term_occurrences s level t) (terms_occurrences s level ts) (term_each level t) (terms_each level ts)

  mutual
    pub each_used : (level : ℕ) (a : FormulaSyntax) → AllByRecursion U (uses_at level a) → AllByRecursion P (formula_occurrences s level a)
    each_used level truth u = tt
    each_used level falsehood u = tt
    each_used level (bare x) u = (names.atom level x u.0, tt)
    each_used level (tested p ts) u = (names.test level (count_of ts) p (passed_names ts) u, terms_each level ts)
    each_used level (updated x t) u = (names.signal level x, term_each level t)
    each_used level (grouped a) u = each_used (suc level) a u
    each_used level (under op a) u = each_used (suc level) a u
    each_used level (between op a b) u =
        each_joined P (formula_occurrences s level a) (formula_occurrences s (level_of_right op level) b)
        (each_used level a (each_left U (uses_at level a) (uses_at (level_of_right op level) b) u))
        (each_used (level_of_right op level) b (each_right U (uses_at level a) (uses_at (level_of_right op level) b) u))
    each_used level (joined op fs) u = members_used level fs u

    members_used : (level : ℕ) (fs : FormulasSyntax) → AllByRecursion U (members_uses_at level fs) →
        AllByRecursion P (members_occurrences s level fs)
    members_used level no_formulas u = tt
    members_used level (more_formulas f fs) u =
        each_joined P (formula_occurrences s level f) (members_occurrences s level fs)
        (each_used level f (each_left U (uses_at level f) (members_uses_at level fs) u))
        (members_used level fs (each_right U (uses_at level f) (members_uses_at level fs) u))

-- where each is such, whatever atoms may use
pub each_name : (s : Scope) (P : Occurrence → Type 0) → OfNames s P (λ u. Unit {0}) → (level : ℕ) (a : FormulaSyntax) →
    AllByRecursion P (formula_occurrences s level a)
each_name s P names level a = each_used s P (λ u. Unit {0}) names level a (each_from_places _ (uses_at level a) (λ i u at. tt))

-- ---- formulas and declarations, each from its names

pub from_formulas : (s : Scope) (P : Occurrence → Type 0) (Q : FormulaSyntax → Type 0) →
    ((f : FormulaSyntax) → AllByRecursion P (formula_occurrences s 0 f) → Q f) → (fs : List FormulaSyntax) →
    AllByRecursion P (flat_map (formula_occurrences s 0) fs) → AllByRecursion Q fs
from_formulas s P Q from [] h = tt
from_formulas s P Q from (f ∷ fs) h =
    let own = formula_occurrences s 0 f in
    let rest = flat_map (formula_occurrences s 0) fs in
    (from f (each_left P own rest h), from_formulas s P Q from fs (each_right P own rest h))

module _ (heads : List Name) (P : Occurrence → Type 0) (Q : Declaration → Type 0)
    (of_section : (s : SectionSyntax) → AllByRecursion P (section_occurrences heads s) → Q (the_section s))
    (of_definition : (before : List Name) (d : Definition) → AllByRecursion P (definition_occurrences heads before d) → Q (the_definition d)) where
  pub from_declarations : (before : List Name) (ds : List Declaration) → AllByRecursion P (occurrences_behind heads before ds) →
      AllByRecursion Q ds
  from_declarations before [] h = tt
  from_declarations before (the_section s ∷ ds) h =
      let own = section_occurrences heads s in
      let rest = occurrences_behind heads before ds in
      (of_section s (each_left P own rest h), from_declarations before ds (each_right P own rest h))
  from_declarations before (the_definition d ∷ ds) h =
      let own = definition_occurrences heads before d in
      let rest = occurrences_behind heads (with_use before (head_of d)) ds in
      (of_definition before d (each_left P own rest h), from_declarations (with_use before (head_of d)) ds (each_right P own rest h))
