-- How formulas are written: `true`, `false`, tests and updates as they are, `!f`, `X f`, `F f`, `G f`, and the
-- other operators between their sides, with brackets always: `(f && g && h)`, `(f -> g)`, `(f U g)`.
-- The spelling of operators is that of tsltools' specification format, in this project's profile.
use Rattle.std.specs.Prelude.{ℕ, Bool, true, false, ◌&&◌, List, [], ◌++◌, codes, IsTrue}
use Rattle.tsl_terms.specs.declared.operator.UnaryOperator.{UnaryOperator}
use Rattle.tsl_terms.specs.declared.operator.UnaryOperator.TheVariants.{Negation, Next, Finally, Globally}
use Rattle.tsl_terms.specs.declared.operator.BinaryOperator.{BinaryOperator}
use Rattle.tsl_terms.specs.declared.operator.BinaryOperator.TheVariants.{Implication, Equivalence, Until, WeakUntil, Release}
use Rattle.tsl_terms.specs.declared.operator.ManyOperator.{ManyOperator}
use Rattle.tsl_terms.specs.declared.operator.ManyOperator.TheVariants.{Conjunction, Disjunction}
use Rattle.tsl_terms.specs.Name.{Name}
use Rattle.tsl_terms.specs.FormulaTree.{Atom, test, update, FormulaTree, FormulaTrees, constant, atom, unary, binary, many, no_formulas, more_formulas}
use Rattle.tsl_terms.specs.Atoms.{is_made_of}
use Rattle.tsl_terms.specs.SpecTree.{SpecTree, whole_formula}
use Rattle.tsl_terms.specs.Laws.{FormulasFit}
use Rattle.term_text.specs.TermText.{probe_text, update_text, is_held, term_is_held, probe_is_held}

abbrev pub constant_text : Bool → List ℕ
constant_text true = codes "true"
constant_text false = codes "false"

abbrev pub atom_text : List Name → Atom → List ℕ
atom_text names (test p) = probe_text names p
atom_text names (update s t) = update_text names s t

-- what stands before a formula
abbrev pub unary_text : UnaryOperator → List ℕ
unary_text Negation = codes "!"
unary_text Next = codes "X "
unary_text Finally = codes "F "
unary_text Globally = codes "G "

-- what stands between two formulas
abbrev pub binary_text : BinaryOperator → List ℕ
binary_text Implication = codes " -> "
binary_text Equivalence = codes " <-> "
binary_text Until = codes " U "
binary_text WeakUntil = codes " W "
binary_text Release = codes " R "

-- what stands between each two of many formulas
abbrev pub many_text : ManyOperator → List ℕ
many_text Conjunction = codes " && "
many_text Disjunction = codes " || "

abbrev mutual
  pub formula_text : List Name → FormulaTree → List ℕ
  formula_text names (constant holds) = constant_text holds
  formula_text names (atom a) = atom_text names a
  formula_text names (unary op f) = unary_text op ++ formula_text names f
  formula_text names (binary op f g) = codes "(" ++ formula_text names f ++ binary_text op ++ formula_text names g ++ codes ")"
  formula_text names (many op fs) = codes "(" ++ members_text names (many_text op) fs ++ codes ")"

  -- the members, with a word between each two
  pub members_text : List Name → List ℕ → FormulaTrees → List ℕ
  members_text names word no_formulas = []
  members_text names word (more_formulas f fs) = formula_text names f ++ others_text names word fs

  -- further members, each with the word before it
  pub others_text : List Name → List ℕ → FormulaTrees → List ℕ
  others_text names word no_formulas = []
  others_text names word (more_formulas f fs) = word ++ formula_text names f ++ others_text names word fs

-- each number of an atom is held by the names
abbrev pub atom_is_held : List Name → Atom → Bool
atom_is_held names (test p) = probe_is_held names p
atom_is_held names (update s t) = is_held names s && term_is_held names t

-- each atom is held, and each conjunction and disjunction has two members or more
abbrev pub can_be_written : List Name → FormulaTree → Bool
can_be_written names = is_made_of (atom_is_held names)

-- the whole formula of formulas that fit the names can be written
abbrev pub WholeFormulasCanBeWritten : Type 0
WholeFormulasCanBeWritten = (spec : SpecTree) → FormulasFit spec → IsTrue (can_be_written spec.names (whole_formula spec))
