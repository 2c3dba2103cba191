-- Formulas hold at the same positions of two loops of one shape where their atoms do.
use Rattle.std.proofs.Common.{◌≡◌, ◌∙◌, ℕ, zero, suc, ◌+◌, Bool, true, false, not, ◌&&◌, ◌||◌, ◌∷◌, refl, sym, ap}
use Rattle.loop_shape.specs.LoopShape.{LoopShape, IsPosition, after, positions_from}
use Rattle.loop_shape.specs.AlongLoop.{holds_until, until_at, release_at}
use Rattle.loop_shape.proofs.Steps.{after_position}
use Rattle.loop_shape.proofs.Words.{finally_is_until, globally_is_release}
use Rattle.tsl_terms.specs.declared.operator.UnaryOperator.{UnaryOperator}
use Rattle.tsl_terms.specs.declared.operator.UnaryOperator.TheVariants.{Negation, Next, Finally, Globally}
use Rattle.tsl_terms.specs.declared.operator.BinaryOperator.{BinaryOperator}
use Rattle.tsl_terms.specs.declared.operator.BinaryOperator.TheVariants.{Implication, Equivalence, Until, WeakUntil, Release}
use Rattle.tsl_terms.specs.FormulaTree.{Atom, FormulaTree, constant, atom, unary, binary, many, FormulaTrees, no_formulas, more_formulas}
use Rattle.tsl_meaning.specs.Lasso.{Lasso, agree, unary_at, binary_at, many_at, meets, meet_each}

module _ (shape : LoopShape) where
  until_agrees : (a b c d : ℕ → Bool) → ((j : ℕ) → IsPosition shape j → a j ≡ c j) → ((j : ℕ) → IsPosition shape j → b j ≡ d j) →
      (n i : ℕ) → IsPosition shape i → holds_until a b (positions_from shape n i) ≡ holds_until c d (positions_from shape n i)
  until_agrees a b c d first second zero i p = refl
  until_agrees a b c d first second (suc n) i p =
      let rest = until_agrees a b c d first second n (after shape i) (after_position shape i p) in
      λ k. second i p k || (first i p k && rest k)

  untils_agree : (a b c d : ℕ → Bool) → ((j : ℕ) → IsPosition shape j → a j ≡ c j) → ((j : ℕ) → IsPosition shape j → b j ≡ d j) →
      (i : ℕ) → IsPosition shape i → until_at shape a b i ≡ until_at shape c d i
  untils_agree a b c d first second i p = until_agrees a b c d first second (suc (shape.start + shape.length)) i p

  releases_agree : (a b c d : ℕ → Bool) → ((j : ℕ) → IsPosition shape j → a j ≡ c j) → ((j : ℕ) → IsPosition shape j → b j ≡ d j) →
      (i : ℕ) → IsPosition shape i → release_at shape a b i ≡ release_at shape c d i
  releases_agree a b c d first second i p =
      ap not (untils_agree (λ j. not (a j)) (λ j. not (b j)) (λ j. not (c j)) (λ j. not (d j))
      (λ j q. ap not (first j q)) (λ j q. ap not (second j q)) i p)

  unary_agrees : (op : UnaryOperator) (a b : ℕ → Bool) → ((j : ℕ) → IsPosition shape j → a j ≡ b j) → (i : ℕ) → IsPosition shape i →
      unary_at shape op a i ≡ unary_at shape op b i
  unary_agrees Negation a b same i p = ap not (same i p)
  unary_agrees Next a b same i p = same (after shape i) (after_position shape i p)
  unary_agrees Finally a b same i p =
      finally_is_until shape a i ∙ untils_agree (λ _. true) a (λ _. true) b (λ _ _. refl) same i p ∙ sym (finally_is_until shape b i)
  unary_agrees Globally a b same i p =
      globally_is_release shape a i ∙ releases_agree (λ _. false) a (λ _. false) b (λ _ _. refl) same i p
      ∙ sym (globally_is_release shape b i)

  binary_agrees : (op : BinaryOperator) (a b c d : ℕ → Bool) → ((j : ℕ) → IsPosition shape j → a j ≡ c j) →
      ((j : ℕ) → IsPosition shape j → b j ≡ d j) → (i : ℕ) → IsPosition shape i → binary_at shape op a b i ≡ binary_at shape op c d i
  binary_agrees Implication a b c d first second i p = λ k. not (first i p k) || second i p k
  binary_agrees Equivalence a b c d first second i p = λ k. agree (first i p k) (second i p k)
  binary_agrees Until a b c d first second i p = untils_agree a b c d first second i p
  binary_agrees WeakUntil a b c d first second i p =
      releases_agree b (λ j. b j || a j) d (λ j. d j || c j) second (λ j q. λ k. second j q k || first j q k) i p
  binary_agrees Release a b c d first second i p = releases_agree a b c d first second i p

  module _ (holds shows : ℕ → Atom → Bool) (same : (i : ℕ) → IsPosition shape i → (a : Atom) → holds i a ≡ shows i a) where
    abbrev one : Lasso
    one = record { shape = shape; holds = holds }

    abbrev other : Lasso
    other = record { shape = shape; holds = shows }

    mutual
      pub meets_agrees : (f : FormulaTree) (i : ℕ) → IsPosition shape i → meets one f i ≡ meets other f i
      meets_agrees (constant b) i p = refl
      meets_agrees (atom a) i p = same i p a
      meets_agrees (unary op f) i p = unary_agrees op (meets one f) (meets other f) (meets_agrees f) i p
      meets_agrees (binary op f g) i p =
          binary_agrees op (meets one f) (meets one g) (meets other f) (meets other g) (meets_agrees f) (meets_agrees g) i p
      meets_agrees (many op fs) i p = ap (many_at op) (each_agrees fs i p)

      each_agrees : (fs : FormulaTrees) (i : ℕ) → IsPosition shape i → meet_each one fs i ≡ meet_each other fs i
      each_agrees no_formulas i p = refl
      each_agrees (more_formulas f fs) i p = λ k. meets_agrees f i p k ∷ each_agrees fs i p k
