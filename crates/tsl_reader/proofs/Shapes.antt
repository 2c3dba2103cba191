-- What derives has the shape of a specification's formulas: its lists have two members or more, and its terms are not too deep.
use Rattle.std.proofs.Common.{ℕ, suc, ◌+◌, ◌≤◌, List, [], ◌∷◌, arith}
use Rattle.std.specs.Prelude.{max}
use Rattle.std.specs.List.{AllByRecursion}
use Rattle.tsl_terms.specs.declared.operator.ManyOperator.{ManyOperator}
use Rattle.tsl_terms.specs.declared.operator.ManyOperator.TheVariants.{Conjunction, Disjunction}
use Rattle.spec_syntax.specs.Syntax.{Terminal, TermSyntax, alone, applied, grouped_term, TermsSyntax, no_terms, more_terms, listed_terms}
use Rattle.spec_syntax.specs.Syntax.{FormulaSyntax, truth, falsehood, bare, tested, updated, grouped, under, between, joined}
use Rattle.spec_syntax.specs.Syntax.{FormulasSyntax, no_formulas, more_formulas}
use Rattle.spec_syntax.specs.Syntax.{join, listed_formulas, SectionSyntax}
use Rattle.spec_syntax.specs.Grammar.{IsTerm, signal, constant, application, brackets, AreArguments, one_argument, more_arguments}
use Rattle.spec_syntax.specs.Grammar.{IsArgument, signal_argument, constant_argument, brackets_argument, IsFormula, temporal}
use Rattle.spec_syntax.specs.Grammar.{chain as chained, IsIff, no_iff, iff, IsImp, no_imp, imp, IsOr, disjunction, AreDisjuncts, no_disjunct}
use Rattle.spec_syntax.specs.Grammar.{more_disjuncts, IsAnd, conjunction, AreConjuncts, no_conjunct, more_conjuncts, IsPrefix, prefix, atom}
use Rattle.spec_syntax.specs.Grammar.{IsAtom, true_atom, false_atom, brackets_atom, update, bare_name, no_argument, test, AreItems, nothing}
use Rattle.spec_syntax.specs.Grammar.{last_item, item, IsSection, braces, AreSections, no_section, section}
use Rattle.tsl_reader.specs.Spells.{deepest_level}

-- how deep the brackets nest where an argument with arguments stands in brackets
abbrev pub bracketed : TermSyntax → ℕ → ℕ
bracketed (alone x) nesting = nesting
bracketed (applied f no_terms) nesting = nesting
bracketed (applied f (more_terms t ts)) nesting = 1 + nesting
bracketed (grouped_term t) nesting = bracketed t nesting

abbrev mutual
  pub nesting : TermSyntax → ℕ
  nesting (alone x) = 0
  nesting (applied f arguments) = nesting_of_arguments arguments
  nesting (grouped_term t) = nesting t

  pub nesting_of_arguments : TermsSyntax → ℕ
  nesting_of_arguments no_terms = 0
  nesting_of_arguments (more_terms t ts) = max (bracketed t (nesting t)) (nesting_of_arguments ts)

abbrev pub HasTwo : FormulasSyntax → Type 0
HasTwo no_formulas = ⊥
HasTwo (more_formulas f no_formulas) = ⊥
HasTwo (more_formulas f (more_formulas g fs)) = Unit {0}

-- each of a formula's lists has two members, and none of its terms is too deep
abbrev mutual
  pub IsShaped : FormulaSyntax → Type 0
  IsShaped truth = Unit {0}
  IsShaped falsehood = Unit {0}
  IsShaped (bare x) = Unit {0}
  IsShaped (tested p arguments) = nesting_of_arguments arguments ≤ deepest_level
  IsShaped (updated x t) = nesting t ≤ deepest_level
  IsShaped (grouped a) = IsShaped a
  IsShaped (under op a) = IsShaped a
  IsShaped (between op a b) = IsShaped a × IsShaped b
  IsShaped (joined op fs) = HasTwo fs × AreShaped fs

  pub AreShaped : FormulasSyntax → Type 0
  AreShaped no_formulas = Unit {0}
  AreShaped (more_formulas f fs) = IsShaped f × AreShaped fs

bracketed_within : (t : TermSyntax) (d levels_left : ℕ) → d ≤ levels_left → bracketed t d ≤ suc levels_left
bracketed_within (alone x) d levels_left h = omega (arith, h)
bracketed_within (applied f no_terms) d levels_left h = omega (arith, h)
bracketed_within (applied f (more_terms t ts)) d levels_left h = omega (arith, h)
bracketed_within (grouped_term t) d levels_left h = bracketed_within t d levels_left h

mutual
  term_nests : {levels_left : ℕ} {xs : List Terminal} {t : TermSyntax} → IsTerm levels_left xs t → nesting t ≤ levels_left
  term_nests (signal x) = omega arith
  term_nests (constant c) = omega arith
  term_nests (application f h) = arguments_nest h
  term_nests (brackets h) = omega (arith, term_nests h)

  arguments_nest : {levels_left : ℕ} {xs : List Terminal} {ts : List TermSyntax} → AreArguments levels_left xs ts →
      nesting_of_arguments (listed_terms ts) ≤ levels_left
  arguments_nest (one_argument h) = omega (arith, argument_nests h)
  arguments_nest (more_arguments h k) = omega (arith, argument_nests h, arguments_nest k)

  argument_nests : {levels_left : ℕ} {xs : List Terminal} {t : TermSyntax} → IsArgument levels_left xs t → bracketed t (nesting t) ≤ levels_left
  argument_nests (signal_argument x) = omega arith
  argument_nests (constant_argument c) = omega arith
  argument_nests (brackets_argument {levels_left = levels_left} {t = t} h) = bracketed_within t (nesting t) levels_left (term_nests h)

join_shaped : (op : ManyOperator) (a : FormulaSyntax) (fs : List FormulaSyntax) → IsShaped a → AreShaped (listed_formulas fs) →
    IsShaped (join op a fs)
join_shaped op a [] h k = h
join_shaped op a (g ∷ gs) h k = (tt, (h, k))

mutual
  formula_shaped : {levels_left : ℕ} {xs : List Terminal} {f : FormulaSyntax} → IsFormula levels_left xs f → levels_left ≤ deepest_level → IsShaped f
  formula_shaped (temporal op x is h k) few = (prefix_shaped h few, prefix_shaped k few)
  formula_shaped (chained h) few = iff_shaped h few

  iff_shaped : {levels_left : ℕ} {xs : List Terminal} {f : FormulaSyntax} → IsIff levels_left xs f → levels_left ≤ deepest_level → IsShaped f
  iff_shaped (no_iff h) few = imp_shaped h few
  iff_shaped (iff h k) few = (imp_shaped h few, iff_shaped k (omega (arith, few)))

  imp_shaped : {levels_left : ℕ} {xs : List Terminal} {f : FormulaSyntax} → IsImp levels_left xs f → levels_left ≤ deepest_level → IsShaped f
  imp_shaped (no_imp h) few = or_shaped h few
  imp_shaped (imp h k) few = (or_shaped h few, imp_shaped k (omega (arith, few)))

  or_shaped : {levels_left : ℕ} {xs : List Terminal} {f : FormulaSyntax} → IsOr levels_left xs f → levels_left ≤ deepest_level → IsShaped f
  or_shaped (disjunction {a = a} {fs = fs} h k) few = join_shaped Disjunction a fs (and_shaped h few) (disjuncts_shaped k few)

  disjuncts_shaped : {levels_left : ℕ} {xs : List Terminal} {fs : List FormulaSyntax} → AreDisjuncts levels_left xs fs → levels_left ≤ deepest_level →
      AreShaped (listed_formulas fs)
  disjuncts_shaped no_disjunct few = tt
  disjuncts_shaped (more_disjuncts h k) few = (and_shaped h few, disjuncts_shaped k few)

  and_shaped : {levels_left : ℕ} {xs : List Terminal} {f : FormulaSyntax} → IsAnd levels_left xs f → levels_left ≤ deepest_level → IsShaped f
  and_shaped (conjunction {a = a} {fs = fs} h k) few = join_shaped Conjunction a fs (prefix_shaped h few) (conjuncts_shaped k few)

  conjuncts_shaped : {levels_left : ℕ} {xs : List Terminal} {fs : List FormulaSyntax} → AreConjuncts levels_left xs fs → levels_left ≤ deepest_level →
      AreShaped (listed_formulas fs)
  conjuncts_shaped no_conjunct few = tt
  conjuncts_shaped (more_conjuncts h k) few = (prefix_shaped h few, conjuncts_shaped k few)

  prefix_shaped : {levels_left : ℕ} {xs : List Terminal} {f : FormulaSyntax} → IsPrefix levels_left xs f → levels_left ≤ deepest_level → IsShaped f
  prefix_shaped (prefix op x is h) few = prefix_shaped h (omega (arith, few))
  prefix_shaped (atom h) few = atom_shaped h few

  atom_shaped : {levels_left : ℕ} {xs : List Terminal} {f : FormulaSyntax} → IsAtom levels_left xs f → levels_left ≤ deepest_level → IsShaped f
  atom_shaped true_atom few = tt
  atom_shaped false_atom few = tt
  atom_shaped (brackets_atom h) few = formula_shaped h (omega (arith, few))
  atom_shaped (update x h) few = omega (arith, term_nests h, few)
  atom_shaped (bare_name x) few = tt
  atom_shaped (no_argument p) few = omega arith
  atom_shaped (test p h) few = omega (arith, arguments_nest h, few)

items_shaped : {levels_left : ℕ} {xs : List Terminal} {fs : List FormulaSyntax} → AreItems levels_left xs fs → levels_left ≤ deepest_level →
    AllByRecursion IsShaped fs
items_shaped nothing few = tt
items_shaped (last_item h) few = (formula_shaped h few, tt)
items_shaped (item h k) few = (formula_shaped h few, items_shaped k few)

section_shaped : {levels_left : ℕ} {xs : List Terminal} {s : SectionSyntax} → IsSection levels_left xs s → levels_left ≤ deepest_level →
    AllByRecursion IsShaped s.formulas
section_shaped (braces h k) few = items_shaped k few

-- the formulas of a text have this shape
pub sections_shaped : {levels_left : ℕ} {xs : List Terminal} {ss : List SectionSyntax} → AreSections levels_left xs ss → levels_left ≤ deepest_level →
    AllByRecursion (λ s. AllByRecursion IsShaped s.formulas) ss
sections_shaped no_section few = tt
sections_shaped (section h k) few = (section_shaped h few, sections_shaped k few)
