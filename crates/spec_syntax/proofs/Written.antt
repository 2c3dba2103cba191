-- A tree is derived from the terminals that it is written with, and from no others; and it needs as many levels as it was
-- derived with.
use Rattle.std.proofs.Common.{◌≡◌, ℕ, ◌≤◌, max, List, [], ◌∷◌, ◌++◌, Some, refl, ap, sym, ◌∙◌, arith}
use Rattle.std.proofs.lemmas.List.{append-nil}
use Rattle.tsl_text.specs.declared.TokenKind.TheVariants.{OpenSquare, CloseSquare, Not, Arrow, BothArrow, LeftArrow}
use Rattle.spec_syntax.specs.declared.syntax.Word.TheVariants.{X, U}
use Rattle.tsl_terms.specs.declared.operator.UnaryOperator.{UnaryOperator}
use Rattle.tsl_terms.specs.declared.operator.BinaryOperator.{BinaryOperator}
use Rattle.tsl_terms.specs.declared.operator.BinaryOperator.TheVariants.{Until, WeakUntil, Release}
use Rattle.tsl_terms.specs.declared.operator.ManyOperator.{ManyOperator}
use Rattle.tsl_terms.specs.declared.operator.ManyOperator.TheVariants.{Conjunction, Disjunction}
use Rattle.spec_syntax.specs.Syntax.{Terminal, free, word, mark, TermSyntax, FormulaSyntax, listed_terms, listed_formulas, join}
use Rattle.spec_syntax.specs.Written.{sign_under, sign_between, sign_many, written_term, written_terms, written, written_further}
use Rattle.spec_syntax.specs.Grammar.{unary_of, temporal_of, in_brackets, IsTerm, signal, constant, application, brackets, AreArguments}
use Rattle.spec_syntax.specs.Grammar.{one_argument, more_arguments, IsArgument, signal_argument, constant_argument, brackets_argument}
use Rattle.spec_syntax.specs.Grammar.{IsFormula, temporal, chain as chained, IsIff, no_iff, iff, IsImp, no_imp, imp, IsOr, disjunction}
use Rattle.spec_syntax.specs.Grammar.{AreDisjuncts, no_disjunct, more_disjuncts, IsAnd, conjunction, AreConjuncts, no_conjunct}
use Rattle.spec_syntax.specs.Grammar.{more_conjuncts, IsPrefix, prefix, atom, IsAtom, true_atom, false_atom, brackets_atom, update}
use Rattle.spec_syntax.specs.Grammar.{bare_name, no_argument, test}
use Rattle.spec_syntax.specs.Levels.{term_depth, terms_depth, depth, members_depth, depth_of_sides}

both : {xs ys us vs : List Terminal} → xs ≡ us → ys ≡ vs → xs ++ ys ≡ us ++ vs
both h k = λ i. h i ++ k i

sign_of_unary : (t : Terminal) (op : UnaryOperator) → unary_of t ≡ Some op → t ≡ sign_under op
sign_of_unary (mark Not) op h = cc
sign_of_unary (word X) op h = cc
sign_of_unary _ op h = cc

pub sign_of_temporal : (t : Terminal) (op : BinaryOperator) → temporal_of t ≡ Some op → t ≡ sign_between op
sign_of_temporal (word U) op h = cc
sign_of_temporal _ op h = cc

pub join_written : (op : ManyOperator) (a : FormulaSyntax) (fs : List FormulaSyntax) →
    written (join op a fs) ≡ written a ++ written_further op (listed_formulas fs)
join_written op a [] = sym (append-nil (written a))
join_written op a (g ∷ gs) = refl

pub join_depth : (op : ManyOperator) (a : FormulaSyntax) (fs : List FormulaSyntax) →
    depth (join op a fs) ≡ max (depth a) (members_depth (listed_formulas fs))
join_depth op a [] = omega arith
join_depth op a (g ∷ gs) = refl

-- the sides of `U`, `W` and `R` stand at the same level
pub temporal_sides : (t : Terminal) (op : BinaryOperator) (m n : ℕ) → temporal_of t ≡ Some op → depth_of_sides op m n ≡ max m n
temporal_sides t Until m n h = refl
temporal_sides t WeakUntil m n h = refl
temporal_sides t Release m n h = refl
temporal_sides (word U) op m n h = cc
temporal_sides _ op m n h = cc

-- these terminals write the tree, and it needs no more levels
abbrev TellsTerm : ℕ → List Terminal → TermSyntax → Type 0
TellsTerm r xs t = (xs ≡ written_term t) × (term_depth t ≤ r)

abbrev TellsTerms : ℕ → List Terminal → List TermSyntax → Type 0
TellsTerms r xs ts = (xs ≡ written_terms (listed_terms ts)) × (terms_depth (listed_terms ts) ≤ r)

mutual
  term_tells : {r : ℕ} {xs : List Terminal} {t : TermSyntax} → IsTerm r xs t → TellsTerm r xs t
  term_tells (signal x) = (refl, omega arith)
  term_tells (constant c) = (refl, omega arith)
  term_tells (application f h) = let inner = arguments_tell h in (ap (λ ts. free f ∷ ts) inner.0, inner.1)
  term_tells (brackets h) = let inner = term_tells h in (ap in_brackets inner.0, omega (arith, inner.1))

  arguments_tell : {r : ℕ} {xs : List Terminal} {ts : List TermSyntax} → AreArguments r xs ts → TellsTerms r xs ts
  arguments_tell (one_argument {t = t} h) = let one = argument_tells h in (one.0 ∙ sym (append-nil (written_term t)), omega (arith, one.1))
  arguments_tell (more_arguments h k) =
      let first = argument_tells h in let others = arguments_tell k in (both first.0 others.0, omega (arith, first.1, others.1))

  argument_tells : {r : ℕ} {xs : List Terminal} {t : TermSyntax} → IsArgument r xs t → TellsTerm r xs t
  argument_tells (signal_argument x) = (refl, omega arith)
  argument_tells (constant_argument c) = (refl, omega arith)
  argument_tells (brackets_argument h) = let inner = term_tells h in (ap in_brackets inner.0, omega (arith, inner.1))

abbrev TellsFormula : ℕ → List Terminal → FormulaSyntax → Type 0
TellsFormula r xs a = (xs ≡ written a) × (depth a ≤ r)

-- so do those of the further operands
abbrev TellsFurther : ManyOperator → ℕ → List Terminal → List FormulaSyntax → Type 0
TellsFurther op r xs fs = (xs ≡ written_further op (listed_formulas fs)) × (members_depth (listed_formulas fs) ≤ r)

-- an operand and the further ones, and a further one
chain_tells : (op : ManyOperator) (r : ℕ) (xs ys : List Terminal) (a : FormulaSyntax) (fs : List FormulaSyntax) → TellsFormula r xs a →
    TellsFurther op r ys fs → TellsFormula r (xs ++ ys) (join op a fs)
chain_tells op r xs ys a fs h k = (both h.0 k.0 ∙ sym (join_written op a fs), omega (arith, join_depth op a fs, h.1, k.1))

further_tells : (op : ManyOperator) (r : ℕ) (xs ys : List Terminal) (a : FormulaSyntax) (fs : List FormulaSyntax) → TellsFormula r xs a →
    TellsFurther op r ys fs → TellsFurther op r (sign_many op ∷ (xs ++ ys)) (a ∷ fs)
further_tells op r xs ys a fs h k = (ap (λ ts. sign_many op ∷ ts) (both h.0 k.0), omega (arith, h.1, k.1))

mutual
  formula_tells : {r : ℕ} {xs : List Terminal} {a : FormulaSyntax} → IsFormula r xs a → TellsFormula r xs a
  formula_tells (temporal {a = a} {b = b} op t is h k) =
      let left = prefix_tells h in
      let right = prefix_tells k in
      let sides = temporal_sides t op (depth a) (depth b) is in
      (both left.0 (λ i. sign_of_temporal t op is i ∷ right.0 i), omega (arith, sides, left.1, right.1))
  formula_tells (chained h) = iff_tells h

  iff_tells : {r : ℕ} {xs : List Terminal} {a : FormulaSyntax} → IsIff r xs a → TellsFormula r xs a
  iff_tells (no_iff h) = imp_tells h
  iff_tells (iff h k) =
      let left = imp_tells h in
      let right = iff_tells k in
      (both left.0 (ap (λ ts. mark BothArrow ∷ ts) right.0), omega (arith, left.1, right.1))

  imp_tells : {r : ℕ} {xs : List Terminal} {a : FormulaSyntax} → IsImp r xs a → TellsFormula r xs a
  imp_tells (no_imp h) = or_tells h
  imp_tells (imp h k) =
      let left = or_tells h in
      let right = imp_tells k in
      (both left.0 (ap (λ ts. mark Arrow ∷ ts) right.0), omega (arith, left.1, right.1))

  or_tells : {r : ℕ} {xs : List Terminal} {a : FormulaSyntax} → IsOr r xs a → TellsFormula r xs a
  or_tells (disjunction h k) = chain_tells Disjunction _ _ _ _ _ (and_tells h) (disjuncts_tell k)

  disjuncts_tell : {r : ℕ} {xs : List Terminal} {fs : List FormulaSyntax} → AreDisjuncts r xs fs → TellsFurther Disjunction r xs fs
  disjuncts_tell no_disjunct = (refl, omega arith)
  disjuncts_tell (more_disjuncts h k) = further_tells Disjunction _ _ _ _ _ (and_tells h) (disjuncts_tell k)

  and_tells : {r : ℕ} {xs : List Terminal} {a : FormulaSyntax} → IsAnd r xs a → TellsFormula r xs a
  and_tells (conjunction h k) = chain_tells Conjunction _ _ _ _ _ (prefix_tells h) (conjuncts_tell k)

  conjuncts_tell : {r : ℕ} {xs : List Terminal} {fs : List FormulaSyntax} → AreConjuncts r xs fs → TellsFurther Conjunction r xs fs
  conjuncts_tell no_conjunct = (refl, omega arith)
  conjuncts_tell (more_conjuncts h k) = further_tells Conjunction _ _ _ _ _ (prefix_tells h) (conjuncts_tell k)

  prefix_tells : {r : ℕ} {xs : List Terminal} {a : FormulaSyntax} → IsPrefix r xs a → TellsFormula r xs a
  prefix_tells (prefix op t is h) = let inner = prefix_tells h in (λ i. sign_of_unary t op is i ∷ inner.0 i, omega (arith, inner.1))
  prefix_tells (atom h) = atom_tells h

  atom_tells : {r : ℕ} {xs : List Terminal} {a : FormulaSyntax} → IsAtom r xs a → TellsFormula r xs a
  atom_tells true_atom = (refl, omega arith)
  atom_tells false_atom = (refl, omega arith)
  atom_tells (brackets_atom h) = let inner = formula_tells h in (ap in_brackets inner.0, omega (arith, inner.1))
  atom_tells (update x h) =
      let inner = term_tells h in (ap (λ ts. mark OpenSquare ∷ free x ∷ mark LeftArrow ∷ (ts ++ mark CloseSquare ∷ [])) inner.0, inner.1)
  atom_tells (bare_name x) = (refl, omega arith)
  atom_tells (no_argument p) = (refl, omega arith)
  atom_tells (test p h) = let inner = arguments_tell h in (ap (λ ts. free p ∷ ts) inner.0, inner.1)

pub formula_is : {r : ℕ} {xs : List Terminal} {a : FormulaSyntax} → IsFormula r xs a → xs ≡ written a
formula_is h = (formula_tells h).0

pub formula_fits : {r : ℕ} {xs : List Terminal} {a : FormulaSyntax} → IsFormula r xs a → depth a ≤ r
formula_fits h = (formula_tells h).1
