-- The names of a specification: their uses in the order of the text, their numbers by first appearance, and the
-- formulas with numbers in the place of names.
use Rattle.std.specs.Prelude.{ℕ, ◌+◌, Bool, true, false, List, [], ◌∷◌, ◌++◌, map, filter, flat_map, Option, Some, option_map}
use Rattle.std.specs.Prelude.{option_and_then, if◌then◌else◌}
use Rattle.tsl_terms.specs.declared.names.NameKind.{NameKind}
use Rattle.tsl_terms.specs.declared.names.NameKind.TheVariants.{Signal, Function, Predicate}
use Rattle.tsl_terms.specs.Name.{Name, number_of, question}
use Rattle.tsl_terms.specs.Clashes.{first_uses}
use Rattle.tsl_terms.specs.TermTree.{TermTree, signal, apply, TermTrees, no_terms as no_trees, more_terms as more_trees}
use Rattle.tsl_terms.specs.FormulaTree.{test, update, FormulaTree, FormulaTrees, constant, atom, unary, binary, many}
use Rattle.tsl_terms.specs.FormulaTree.{no_formulas as no_members, more_formulas as more_members}
use Rattle.spec_syntax.specs.declared.syntax.Part.{Part}
use Rattle.spec_syntax.specs.declared.syntax.Part.TheVariants.{AssumeFirst, AssumeAlways, GuaranteeFirst, GuaranteeAlways}
use Rattle.spec_syntax.specs.Syntax.{TermSyntax, alone, applied, grouped_term, TermsSyntax, no_terms, more_terms, FormulaSyntax, truth}
use Rattle.spec_syntax.specs.Syntax.{falsehood, bare, tested, updated, grouped, under, between, joined, FormulasSyntax, no_formulas}
use Rattle.spec_syntax.specs.Syntax.{more_formulas, SectionSyntax}

-- A use of a name: the name that it would be, and whether it stands alone in a formula, where the predicate `?` tests it.
pub record Use : Type 0 where
  pub name : Name
  pub is_tested : Bool

abbrev pub use_as : NameKind → List ℕ → ℕ → Use
use_as kind text arity = record { name = record { text = text; kind = kind; arity = arity }; is_tested = false }

abbrev pub tested_signal : List ℕ → Use
tested_signal text = record { name = record { text = text; kind = Signal; arity = 0 }; is_tested = true }

abbrev pub count_of_arguments : TermsSyntax → ℕ
count_of_arguments no_terms = 0
count_of_arguments (more_terms t ts) = 1 + count_of_arguments ts

-- the uses of names in a term, a formula, a section and a text, in the order of the text

abbrev mutual
  pub term_uses : TermSyntax → List Use
  term_uses (alone x) = use_as Signal x 0 ∷ []
  term_uses (applied f arguments) = use_as Function f (count_of_arguments arguments) ∷ terms_uses arguments
  term_uses (grouped_term t) = term_uses t

  pub terms_uses : TermsSyntax → List Use
  terms_uses no_terms = []
  terms_uses (more_terms t ts) = term_uses t ++ terms_uses ts

abbrev mutual
  pub uses : FormulaSyntax → List Use
  uses truth = []
  uses falsehood = []
  uses (bare x) = tested_signal x ∷ []
  uses (tested p arguments) = use_as Predicate p (count_of_arguments arguments) ∷ terms_uses arguments
  uses (updated x t) = use_as Signal x 0 ∷ term_uses t
  uses (grouped a) = uses a
  uses (under op a) = uses a
  uses (between op a b) = uses a ++ uses b
  uses (joined op fs) = members_uses fs

  pub members_uses : FormulasSyntax → List Use
  members_uses no_formulas = []
  members_uses (more_formulas f fs) = uses f ++ members_uses fs

abbrev pub section_uses : SectionSyntax → List Use
section_uses s = flat_map uses s.formulas

abbrev pub all_uses : List SectionSyntax → List Use
all_uses sections = flat_map section_uses sections

-- the names that a text uses, one for each of its names that is no reserved word
abbrev pub written_uses : List SectionSyntax → List Name
written_uses sections = map (λ u. u.name) (all_uses sections)

-- the predicate that tests a Boolean signal
abbrev pub question_use : Name
question_use = record { text = question; kind = Predicate; arity = 1 }

-- the names that get numbers by a use: `?` comes directly after the signal that it tests
abbrev pub named_by : Use → List Name
named_by u = u.name ∷ (if u.is_tested then question_use ∷ [] else [])

-- the names of a text by first appearance, each as it was used first
abbrev pub names_of : List SectionSyntax → List Name
names_of sections = first_uses (flat_map named_by (all_uses sections))

-- the formulas with numbers, which have no node for brackets

abbrev mutual
  pub numbered_term : List Name → TermSyntax → Option TermTree
  numbered_term names (alone x) = option_map signal (number_of names x)
  numbered_term names (applied f arguments) =
      option_and_then (λ number. option_map (apply number) (numbered_terms names arguments)) (number_of names f)
  numbered_term names (grouped_term t) = numbered_term names t

  pub numbered_terms : List Name → TermsSyntax → Option TermTrees
  numbered_terms names no_terms = Some no_trees
  numbered_terms names (more_terms t ts) =
      option_and_then (λ tree. option_map (more_trees tree) (numbered_terms names ts)) (numbered_term names t)

abbrev pub test_of : ℕ → TermTrees → FormulaTree
test_of predicate arguments = atom (test (record { predicate = predicate; arguments = arguments }))

abbrev mutual
  pub numbered_formula : List Name → FormulaSyntax → Option FormulaTree
  numbered_formula names truth = Some (constant true)
  numbered_formula names falsehood = Some (constant false)
  numbered_formula names (bare x) =
      option_and_then (λ s. option_map (λ q. test_of q (more_trees (signal s) no_trees)) (number_of names question)) (number_of names x)
  numbered_formula names (tested p arguments) =
      option_and_then (λ number. option_map (test_of number) (numbered_terms names arguments)) (number_of names p)
  numbered_formula names (updated x t) =
      option_and_then (λ s. option_map (λ tree. atom (update s tree)) (numbered_term names t)) (number_of names x)
  numbered_formula names (grouped a) = numbered_formula names a
  numbered_formula names (under op a) = option_map (unary op) (numbered_formula names a)
  numbered_formula names (between op a b) =
      option_and_then (λ left. option_map (binary op left) (numbered_formula names b)) (numbered_formula names a)
  numbered_formula names (joined op fs) = option_map (many op) (numbered_members names fs)

  pub numbered_members : List Name → FormulasSyntax → Option FormulaTrees
  numbered_members names no_formulas = Some no_members
  numbered_members names (more_formulas f fs) =
      option_and_then (λ tree. option_map (more_members tree) (numbered_members names fs)) (numbered_formula names f)

abbrev pub numbered_list : List Name → List FormulaSyntax → Option (List FormulaTree)
numbered_list names [] = Some []
numbered_list names (f ∷ fs) =
    option_and_then (λ tree. option_map (λ trees. tree ∷ trees) (numbered_list names fs)) (numbered_formula names f)

abbrev pub same_part : Part → Part → Bool
same_part AssumeFirst AssumeFirst = true
same_part AssumeAlways AssumeAlways = true
same_part GuaranteeFirst GuaranteeFirst = true
same_part GuaranteeAlways GuaranteeAlways = true
same_part _ _ = false

-- the formulas of the sections of one kind, in order
abbrev pub formulas_of_part : Part → List SectionSyntax → List FormulaSyntax
formulas_of_part part sections = flat_map (λ s. s.formulas) (filter (λ s. same_part part s.part) sections)
