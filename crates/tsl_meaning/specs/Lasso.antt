-- The meaning of formulas on runs that close.
-- Source: Finkbeiner, Klein, Piskac, Santolucito: Temporal Stream Logic: Synthesis Beyond the Bools
-- (CAV 2019), the semantics of formulas.
use Rattle.std.specs.Prelude.{◌≡◌, ℕ, Bool, true, false, not, ◌||◌, List, [], ◌∷◌, Some, IsTrue}
use Rattle.std.specs.List.{list_any, list_all}
use Rattle.std.specs.Option.{option_map_or}
use Rattle.loop_shape.specs.LoopShape.{LoopShape}
use Rattle.loop_shape.specs.AlongLoop.{next_at, finally_at, globally_at, until_at, weak_until_at, release_at}
use Rattle.tsl_terms.specs.TermTree.{TermTree}
use Rattle.tsl_terms.specs.SameTree.{same_tree}
use Rattle.tsl_terms.specs.declared.operator.UnaryOperator.{UnaryOperator}
use Rattle.tsl_terms.specs.declared.operator.UnaryOperator.TheVariants.{Negation, Next, Finally, Globally}
use Rattle.tsl_terms.specs.declared.operator.BinaryOperator.{BinaryOperator}
use Rattle.tsl_terms.specs.declared.operator.BinaryOperator.TheVariants.{Implication, Equivalence, Until, WeakUntil, Release}
use Rattle.tsl_terms.specs.declared.operator.ManyOperator.{ManyOperator}
use Rattle.tsl_terms.specs.declared.operator.ManyOperator.TheVariants.{Conjunction, Disjunction}
use Rattle.tsl_terms.specs.FormulaTree.{Atom, test, update, FormulaTree, constant, atom, unary, binary, many, FormulaTrees, no_formulas}
use Rattle.tsl_terms.specs.FormulaTree.{more_formulas}
use Rattle.tsl_terms.specs.Value.{Meanings}
use Rattle.program_tree.specs.ProgramTree.{ProgramTree}
use Rattle.tsl_meaning.specs.Interpretation.{InputRows}
use Rattle.tsl_meaning.specs.Run.{truth_at, assigned_at}

-- A run that closes, as its formulas see it: its shape, and whether an atom holds at a position.
pub record Lasso : Type 0 where
  pub shape : LoopShape
  pub holds : ℕ → Atom → Bool

-- both or neither
abbrev pub agree : Bool → Bool → Bool
agree true b = b
agree false b = not b

-- whether an operator's formula holds at a position, by where its operand holds
abbrev pub unary_at : LoopShape → UnaryOperator → (ℕ → Bool) → ℕ → Bool
unary_at shape Negation a i = not (a i)
unary_at shape Next a i = next_at shape a i
unary_at shape Finally a i = finally_at shape a i
unary_at shape Globally a i = globally_at shape a i

-- and by where its two operands hold
abbrev pub binary_at : LoopShape → BinaryOperator → (ℕ → Bool) → (ℕ → Bool) → ℕ → Bool
binary_at shape Implication a b i = not (a i) || b i
binary_at shape Equivalence a b i = agree (a i) (b i)
binary_at shape Until a b i = until_at shape a b i
binary_at shape WeakUntil a b i = weak_until_at shape a b i
binary_at shape Release a b i = release_at shape a b i

-- and by which of its operands hold there
abbrev pub many_at : ManyOperator → List Bool → Bool
many_at Conjunction members = list_all (λ holds. holds) members
many_at Disjunction members = list_any (λ holds. holds) members

-- whether a formula holds at a position
abbrev mutual
  pub meets : Lasso → FormulaTree → ℕ → Bool
  meets run (constant holds) i = holds
  meets run (atom a) i = run.holds i a
  meets run (unary op a) i = unary_at run.shape op (meets run a) i
  meets run (binary op a b) i = binary_at run.shape op (meets run a) (meets run b) i
  meets run (many op fs) i = many_at op (meet_each run fs i)

  -- whether each member of a list does
  pub meet_each : Lasso → FormulaTrees → ℕ → List Bool
  meet_each run no_formulas i = []
  meet_each run (more_formulas f fs) i = meets run f i ∷ meet_each run fs i

-- the formula holds at a position
abbrev pub Meets : Lasso → FormulaTree → ℕ → Type 0
Meets run f i = IsTrue (meets run f i)

module _ {V : Type 0} (meanings : Meanings V) (program : ProgramTree) (rows : InputRows V) where
  -- whether an atom holds at a step: a probe where its truth is there and true, an update where the signal is
  -- assigned that tree and not merely one of equal value
  abbrev pub holds_at : ℕ → Atom → Bool
  holds_at t (test p) = option_map_or (λ truth. truth) (truth_at meanings program rows t p) false
  holds_at t (update s tree) = option_map_or (λ assigned. same_tree assigned tree) (assigned_at meanings program rows t s) false

  -- the run of a program as its formulas see it, if it closes with this shape
  abbrev pub closed_run : LoopShape → Lasso
  closed_run shape = record { shape = shape; holds = holds_at }

  -- an atom has its say at a step: a probe has a truth, and an updated signal is assigned a term
  abbrev pub IsDecided : ℕ → Atom → Type 0
  IsDecided t (test p) = (truth : Bool) × (truth_at meanings program rows t p ≡ Some truth)
  IsDecided t (update s tree) = (assigned : TermTree) × (assigned_at meanings program rows t s ≡ Some assigned)
