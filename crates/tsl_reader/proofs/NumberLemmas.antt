-- Lists of terms and of formulas that get numbers member by member.
use Rattle.std.proofs.Common.{◌≡◌, true, List, [], ◌∷◌, ◌++◌, map, refl, ap, sym, ◌∙◌}
use Rattle.std.specs.Prelude.{ℕ, ◌+◌, ◌<◌, ◌≤◌, length, get_or, drop, Option, Some, option_map}
use Rattle.std.specs.Prelude.{option_and_then}
use Rattle.std.proofs.Common.{append_assoc, arith}
use Rattle.std.proofs.lemmas.Grind.{common_steps}
use Rattle.std.proofs.lemmas.List.{append-nil, drop_more, drop_all}
use Rattle.std.specs.Option.{is_some}
use Rattle.base_library.proofs.Lists.{with_front}
use Rattle.tsl_terms.specs.declared.term.Term.{Term}
use Rattle.tsl_terms.specs.declared.formula.Formula.{Formula}
use Rattle.tsl_terms.specs.FormulaTree.{FormulaTree, FormulaTrees, no_formulas, more_formulas, formulas_in as members_in, formulas_of}
use Rattle.tsl_terms.specs.FormulaTree.{formula_tree}
use Rattle.tsl_terms.proofs.NumberedTerms.{numbered_front, front_more}
use Rattle.tsl_terms.proofs.FormulaLemmas.{with_front_none as formulas_front_none}
use Rattle.spec_syntax.specs.declared.syntax.Part.{Part}
use Rattle.spec_syntax.specs.declared.trees.ReadSection.{ReadSection}
use Rattle.tsl_terms.specs.Name.{Name}
use Rattle.tsl_terms.specs.TermTree.{more_terms, term_tree}
use Rattle.spec_syntax.specs.Syntax.{TermSyntax, TermsSyntax, more_terms as another_term, FormulaSyntax, FormulasSyntax}
use Rattle.spec_syntax.specs.Syntax.{more_formulas as another_formula, SectionSyntax}
use Rattle.spec_syntax.specs.SyntaxView.{section_syntax}
use Rattle.tsl_reader.specs.Numbering.{formulas_after, formulas_if}
use Rattle.tsl_reader.specs.Naming.{numbered_term, numbered_terms, numbered_formula, numbered_members, numbered_list}
use Rattle.tsl_reader.specs.Naming.{formulas_of_part}

-- one term more
pub numbered_more : (names : List Name) (front all : List Term) (t : Term) (syntax : TermSyntax) (rest : TermsSyntax) →
    all ≡ front ++ t ∷ [] →
    numbered_term names syntax ≡ Some (term_tree t) →
    numbered_front (map term_tree all) (numbered_terms names rest)
    ≡ numbered_front (map term_tree front) (numbered_terms names (another_term syntax rest))
numbered_more names front all t syntax rest is h = rw (is, h) (front_more more_terms term_tree front t (numbered_terms names rest))

-- the same for formulas

abbrev pub members_front : List FormulaTree → Option FormulaTrees → Option FormulaTrees
members_front front rest = option_map (with_front more_formulas front) rest

pub members_more : (names : List Name) (front all : List Formula) (f : Formula) (syntax : FormulaSyntax) (rest : FormulasSyntax) →
    all ≡ front ++ f ∷ [] →
    numbered_formula names syntax ≡ Some (formula_tree f) →
    members_front (map formula_tree all) (numbered_members names rest)
    ≡ members_front (map formula_tree front) (numbered_members names (another_formula syntax rest))
members_more names front all f syntax rest is h = rw (is, h) (front_more more_formulas formula_tree front f (numbered_members names rest))

pub members_all : (front : List FormulaTree) (all : Option FormulaTrees) (list : FormulaTrees) →
    members_front front (Some no_formulas) ≡ all → list ≡ formulas_of front → all ≡ Some list
members_all front all list h is = sym h ∙ ap Some (formulas_front_none front ∙ sym is)

-- the formulas of sections that go to one list

numbered_append : (names : List Name) (fs gs : List FormulaSyntax) →
    numbered_list names (fs ++ gs) ≡ option_and_then (λ trees. formulas_after trees (numbered_list names gs)) (numbered_list names fs)
numbered_append names [] gs = grind (arith, common_steps)
numbered_append names (f ∷ fs) gs = grind (arith, common_steps, numbered_append names fs gs)

pub formulas_split : (part : Part) (s : SectionSyntax) (ss : List SectionSyntax) →
    formulas_of_part part (s ∷ ss) ≡ formulas_if part s ++ formulas_of_part part ss
formulas_split part s ss = grind (arith, common_steps)

-- the formulas that are left, with a section in front
next_section : (part : Part) (ss : List ReadSection) (i : ℕ) (d : ReadSection) → i < length ss →
    formulas_of_part part (map section_syntax (drop i ss)) ≡ formulas_if part (section_syntax (get_or ss i d))
    ++ formulas_of_part part (map section_syntax (drop (i + 1) ss))
next_section part ss i d within =
    ap (λ rs. formulas_of_part part (map section_syntax rs)) (drop_more ss i d within)
    ∙ formulas_split part (section_syntax (get_or ss i d)) (map section_syntax (drop (i + 1) ss))

after_first : (front : List FormulaTree) (left right : Option (List FormulaTree)) (all : List FormulaTree) →
    formulas_after front left ≡ Some all →
    formulas_after all right ≡ formulas_after front (option_and_then (λ trees. formulas_after trees right) left)
after_first front left right all h = grind (arith, common_steps, append_assoc)

some_first : (front : List FormulaTree) (left right : Option (List FormulaTree)) →
    is_some (formulas_after front (option_and_then (λ trees. formulas_after trees right) left)) ≡ true → is_some left ≡ true
some_first front left right h = grind (arith, common_steps)

-- a section's formulas have their numbers
pub section_some : (names : List Name) (part : Part) (ss : List ReadSection) (i : ℕ) (d : ReadSection) (front : List FormulaTree)
    (all : Option (List FormulaTree)) → i < length ss →
    formulas_after front (numbered_list names (formulas_of_part part (map section_syntax (drop i ss)))) ≡ all → is_some all ≡ true →
    is_some (numbered_list names (formulas_if part (section_syntax (get_or ss i d)))) ≡ true
section_some names part ss i d front all within h k =
    let split = rw (next_section part ss i d within, numbered_append) at h in
    some_first front (numbered_list names (formulas_if part (section_syntax (get_or ss i d)))) _ (ap is_some split ∙ k)

-- one section more
pub section_more : (names : List Name) (part : Part) (ss : List ReadSection) (i : ℕ) (d : ReadSection) (front more : List FormulaTree)
    (all : Option (List FormulaTree)) → i < length ss →
    formulas_after front (numbered_list names (formulas_if part (section_syntax (get_or ss i d)))) ≡ Some more →
    formulas_after front (numbered_list names (formulas_of_part part (map section_syntax (drop i ss)))) ≡ all →
    formulas_after more (numbered_list names (formulas_of_part part (map section_syntax (drop (i + 1) ss)))) ≡ all
section_more names part ss i d front more all within e h =
    let split = rw (next_section part ss i d within, numbered_append) at h in
    after_first front (numbered_list names (formulas_if part (section_syntax (get_or ss i d)))) _ more e ∙ split

members_in_of : (fs : List FormulaTree) → members_in (formulas_of fs) ≡ fs
members_in_of [] = refl
members_in_of (f ∷ fs) = ap (λ gs. f ∷ gs) (members_in_of fs)

-- the sections are all
pub sections_all : (names : List Name) (part : Part) (ss : List ReadSection) (i : ℕ) (front : List FormulaTree)
    (all : Option (List FormulaTree)) (list : FormulaTrees) → length ss ≤ i →
    formulas_after front (numbered_list names (formulas_of_part part (map section_syntax (drop i ss)))) ≡ all → list ≡ formulas_of front →
    all ≡ Some (members_in list)
sections_all names part ss i front all list past h is =
    let whole = rw (drop_all i ss past) at h in
    sym whole ∙ ap Some (append-nil front ∙ sym (members_in_of front) ∙ ap members_in (sym is))
