-- Each use of a name in formulas is one of which is known what it is used as.
use Rattle.std.proofs.Common.{◌≡◌, List, [], ◌∷◌, refl, subst, arith}
use Rattle.std.specs.Prelude.{flat_map}
use Rattle.std.specs.List.{AllByRecursion}
use Rattle.base_library.proofs.Each.{each_joined, each_map}
use Rattle.tsl_terms.specs.declared.names.NameKind.TheVariants.{Signal, Function, Predicate}
use Rattle.tsl_terms.specs.Name.{Name}
use Rattle.spec_syntax.specs.Syntax.{TermSyntax, alone, applied, grouped_term, TermsSyntax, no_terms, more_terms}
use Rattle.spec_syntax.specs.Syntax.{FormulaSyntax, truth, falsehood, bare, tested, updated, grouped, under, between}
use Rattle.spec_syntax.specs.Syntax.{joined, FormulasSyntax, no_formulas, more_formulas, SectionSyntax}
use Rattle.definition_expansion.specs.Occurrences.{NameUses, count_of, TermOccurs, TermsOccur, Occurs, MembersOccur}
use Rattle.definition_expansion.specs.SectionExpansion.{EachFormula}
use Rattle.tsl_reader.specs.Naming.{Use, count_of_arguments, term_uses, terms_uses, uses, members_uses}
use Rattle.tsl_reader.specs.Naming.{section_uses, all_uses, written_uses}

pub count_same : (ts : TermsSyntax) → count_of ts ≡ count_of_arguments ts
count_same no_terms = refl
count_same (more_terms t ts) = omega (arith, count_same ts)

module _ (P : NameUses) where
  -- the name is used as one of these uses, and a signal without arguments
  abbrev pub Stands : Name → Type 0
  Stands n = P n.text n.kind n.arity × (n.kind ≡ Signal → n.arity ≡ 0)

  abbrev pub UseStands : Use → Type 0
  UseStands u = Stands u.name

  mutual
    term_stands : (t : TermSyntax) → TermOccurs P t → AllByRecursion UseStands (term_uses t)
    term_stands (alone x) h = ((h, λ e. refl), tt)
    term_stands (applied f ts) h = ((subst (P f Function) (count_same ts) h.0, λ e. cc), terms_stand ts h.1)
    term_stands (grouped_term t) h = term_stands t h

    terms_stand : (ts : TermsSyntax) → TermsOccur P ts → AllByRecursion UseStands (terms_uses ts)
    terms_stand no_terms h = tt
    terms_stand (more_terms t ts) h = each_joined UseStands (term_uses t) (terms_uses ts) (term_stands t h.0) (terms_stand ts h.1)

  mutual
    formula_stands : (a : FormulaSyntax) → Occurs P a → AllByRecursion UseStands (uses a)
    formula_stands truth h = tt
    formula_stands falsehood h = tt
    formula_stands (bare x) h = ((h, λ e. refl), tt)
    formula_stands (tested p ts) h = ((subst (P p Predicate) (count_same ts) h.0, λ e. cc), terms_stand ts h.1)
    formula_stands (updated x t) h = ((h.0, λ e. refl), term_stands t h.1)
    formula_stands (grouped a) h = formula_stands a h
    formula_stands (under op a) h = formula_stands a h
    formula_stands (between op a b) h = each_joined UseStands (uses a) (uses b) (formula_stands a h.0) (formula_stands b h.1)
    formula_stands (joined op fs) h = members_stand fs h

    members_stand : (fs : FormulasSyntax) → MembersOccur P fs → AllByRecursion UseStands (members_uses fs)
    members_stand no_formulas h = tt
    members_stand (more_formulas f fs) h =
        each_joined UseStands (uses f) (members_uses fs) (formula_stands f h.0) (members_stand fs h.1)

  formulas_stand : (fs : List FormulaSyntax) → AllByRecursion (Occurs P) fs → AllByRecursion UseStands (flat_map uses fs)
  formulas_stand [] h = tt
  formulas_stand (f ∷ fs) h = each_joined UseStands (uses f) (flat_map uses fs) (formula_stands f h.0) (formulas_stand fs h.1)

  pub uses_stand : (ss : List SectionSyntax) → EachFormula (Occurs P) ss → AllByRecursion UseStands (all_uses ss)
  uses_stand [] h = tt
  uses_stand (s ∷ ss) h =
      each_joined UseStands (section_uses s) (all_uses ss) (formulas_stand s.formulas h.0) (uses_stand ss h.1)

  -- and so is each name that sections use
  pub names_stand : (ss : List SectionSyntax) → EachFormula (Occurs P) ss → AllByRecursion Stands (written_uses ss)
  names_stand ss h = each_map Stands (λ u. u.name) (all_uses ss) (uses_stand ss h)
