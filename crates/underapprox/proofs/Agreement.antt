-- The letter form of a formula holds where the formula does, as soon as this is so of its atoms.
use Rattle.std.proofs.Common.{
  ◌≡◌,
  ◌∙◌,
  ℕ,
  zero,
  suc,
  ◌+◌,
  Bool,
  true,
  false,
  not,
  ◌&&◌,
  ◌||◌,
  Option,
  List,
  [],
  ◌∷◌,
  subst,
  IsSome,
  Some,
  None,
  refl,
  sym,
  ap,
}
use Rattle.std.specs.Prelude.{⊤}
use Rattle.std.proofs.lemmas.Bool.{false≢true}
use Rattle.std.specs.List.{AllByRecursion, list_all, list_any}
use Rattle.std.specs.Option.{option_map_or}
use Rattle.base_library.proofs.Booleans.{not_not}
use Rattle.base_library.proofs.Each.{each_left, each_right}
use Rattle.loop_shape.specs.LoopShape.{LoopShape, IsPosition, after, positions_from}
use Rattle.loop_shape.proofs.Steps.{after_position}
use Rattle.loop_shape.specs.AlongLoop.{holds_until, until_at, release_at}
use Rattle.loop_shape.proofs.Words.{finally_is_until, globally_is_release, not_finally, not_until, not_release}
use Rattle.tsl_terms.specs.declared.operator.UnaryOperator.TheVariants.{Negation, Next, Finally, Globally}
use Rattle.tsl_terms.specs.declared.operator.BinaryOperator.TheVariants.{Implication, Equivalence, Until, WeakUntil, Release}
use Rattle.tsl_terms.specs.declared.operator.ManyOperator.TheVariants.{Conjunction, Disjunction}
use Rattle.tsl_terms.specs.FormulaTree.{Atom, FormulaTree, constant, atom, unary, binary, many, FormulaTrees, no_formulas, more_formulas}
use Rattle.tsl_terms.specs.Atoms.{atoms, atoms_of_members}
use Rattle.tsl_meaning.specs.Lasso.{Lasso, meets, meet_each}
use Rattle.ltl_formula.specs.LetterLoop.{LetterLoop, shape_of, bit_holds, holds, holds_all, holds_any}
use Rattle.letter_space.specs.SpaceTree.{SpaceTree}
use Rattle.letter_space.specs.Bits.{bit_of_atom, HasBits}
use Rattle.underapprox.specs.LetterForm.{atom_form, not_atom_form, letter_form, not_letter_form, letter_forms, not_letter_forms}
use Rattle.underapprox.specs.LetterLasso.{letter_lasso, AreLettersOf}
use Rattle.ltl_formula.proofs.DualLemmas.{not_and, not_or}
use Rattle.underapprox.proofs.Booleans.{or_none, not_implies, not_either, agrees, disagrees}

-- along positions that stay among those that are spoken of, words are the same where their parts are
module _ (shape : LoopShape) (P : ℕ → Type 0) (stays : (i : ℕ) → P i → P (after shape i)) where
  until_alike : (a b c d : ℕ → Bool) → ((j : ℕ) → P j → a j ≡ c j) → ((j : ℕ) → P j → b j ≡ d j) →
      (n i : ℕ) → P i → holds_until a b (positions_from shape n i) ≡ holds_until c d (positions_from shape n i)
  until_alike a b c d first second zero i p = refl
  until_alike a b c d first second (suc n) i p =
      let rest = until_alike a b c d first second n (after shape i) (stays i p) in
      λ k. second i p k || (first i p k && rest k)

  untils_alike : (a b c d : ℕ → Bool) → ((j : ℕ) → P j → a j ≡ c j) → ((j : ℕ) → P j → b j ≡ d j) →
      (i : ℕ) → P i → until_at shape a b i ≡ until_at shape c d i
  untils_alike a b c d first second i p = until_alike a b c d first second (suc (shape.start + shape.length)) i p

  releases_alike : (a b c d : ℕ → Bool) → ((j : ℕ) → P j → a j ≡ c j) → ((j : ℕ) → P j → b j ≡ d j) →
      (i : ℕ) → P i → release_at shape a b i ≡ release_at shape c d i
  releases_alike a b c d first second i p =
      ap not (untils_alike (λ j. not (a j)) (λ j. not (b j)) (λ j. not (c j)) (λ j. not (d j))
      (λ j q. ap not (first j q)) (λ j q. ap not (second j q)) i p)

-- the negation of an atom's form
not_atom : (loop : LetterLoop) (b : Option ℕ) (i : ℕ) → holds loop (not_atom_form b) i ≡ not (holds loop (atom_form b) i)
not_atom loop (Some b) i = refl
not_atom loop None i = refl

module _ (space : SpaceTree) (loop : LetterLoop) (says : ℕ → Atom → Bool) (P : ℕ → Type 0)
    (stays : (i : ℕ) → P i → P (after (shape_of loop) i)) (Q : Atom → Type 0)
    (reads : (a : Atom) → Q a → (i : ℕ) → P i → holds loop (atom_form (bit_of_atom space a)) i ≡ says i a) where
  abbrev shape : LoopShape
  shape = shape_of loop

  abbrev run : Lasso
  run = record { shape = shape; holds = says }

  abbrev form : FormulaTree → ℕ → Bool
  form f = holds loop (letter_form space f)

  abbrev not_form : FormulaTree → ℕ → Bool
  not_form f = holds loop (not_letter_form space f)

  mutual
    pub form_holds : (f : FormulaTree) → AllByRecursion Q (atoms f) → (i : ℕ) → P i → form f i ≡ meets run f i
    form_holds (constant true) each i p = refl
    form_holds (constant false) each i p = refl
    form_holds (atom a) each i p = reads a each.0 i p
    form_holds (unary Negation f) each i p = form_fails f each i p
    form_holds (unary Next f) each i p = form_holds f each (after shape i) (stays i p)
    form_holds (unary Finally f) each i p =
        untils_alike shape P stays (λ _. true) (form f) (λ _. true) (meets run f) (λ _ _. refl) (form_holds f each) i p
        ∙ sym (finally_is_until shape (meets run f) i)
    form_holds (unary Globally f) each i p =
        releases_alike shape P stays (λ _. false) (form f) (λ _. false) (meets run f) (λ _ _. refl) (form_holds f each) i p
        ∙ sym (globally_is_release shape (meets run f) i)
    form_holds (binary Implication f g) each i p =
        let first = form_fails f (each_left Q (atoms f) (atoms g) each) i p in
        let second = form_holds g (each_right Q (atoms f) (atoms g) each) i p in
        (λ k. first k || (second k || false)) ∙ or_none (not (meets run f i)) (meets run g i)
    form_holds (binary Equivalence f g) each i p =
        let here = each_left Q (atoms f) (atoms g) each in
        let there = each_right Q (atoms f) (atoms g) each in
        (λ k. (form_holds f here i p k && (form_holds g there i p k && true))
        || ((form_fails f here i p k && (form_fails g there i p k && true)) || false))
        ∙ agrees (meets run f i) (meets run g i)
    form_holds (binary Until f g) each i p =
        untils_alike shape P stays (form f) (form g) (meets run f) (meets run g)
        (form_holds f (each_left Q (atoms f) (atoms g) each)) (form_holds g (each_right Q (atoms f) (atoms g) each)) i p
    form_holds (binary WeakUntil f g) each i p =
        let first = form_holds f (each_left Q (atoms f) (atoms g) each) in
        let second = form_holds g (each_right Q (atoms f) (atoms g) each) in
        releases_alike shape P stays (form g) (λ j. form g j || (form f j || false)) (meets run g) (λ j. meets run g j || meets run f j)
        second (λ j q. (λ k. second j q k || (first j q k || false)) ∙ or_none (meets run g j) (meets run f j)) i p
    form_holds (binary Release f g) each i p =
        releases_alike shape P stays (form f) (form g) (meets run f) (meets run g)
        (form_holds f (each_left Q (atoms f) (atoms g) each)) (form_holds g (each_right Q (atoms f) (atoms g) each)) i p
    form_holds (many Conjunction fs) each i p = forms_hold fs each i p
    form_holds (many Disjunction fs) each i p = some_form_holds fs each i p

    pub form_fails : (f : FormulaTree) → AllByRecursion Q (atoms f) → (i : ℕ) → P i → not_form f i ≡ not (meets run f i)
    form_fails (constant true) each i p = refl
    form_fails (constant false) each i p = refl
    form_fails (atom a) each i p = not_atom loop (bit_of_atom space a) i ∙ ap not (reads a each.0 i p)
    form_fails (unary Negation f) each i p = form_holds f each i p ∙ sym (not_not (meets run f i))
    form_fails (unary Next f) each i p = form_fails f each (after shape i) (stays i p)
    form_fails (unary Finally f) each i p =
        releases_alike shape P stays (λ _. false) (not_form f) (λ _. false) (λ j. not (meets run f j)) (λ _ _. refl) (form_fails f each) i p
        ∙ sym (globally_is_release shape (λ j. not (meets run f j)) i) ∙ sym (not_finally shape (meets run f) i)
    form_fails (unary Globally f) each i p =
        untils_alike shape P stays (λ _. true) (not_form f) (λ _. true) (λ j. not (meets run f j)) (λ _ _. refl) (form_fails f each) i p
        ∙ sym (not_release shape (λ _. false) (meets run f) i) ∙ ap not (sym (globally_is_release shape (meets run f) i))
    form_fails (binary Implication f g) each i p =
        let first = form_holds f (each_left Q (atoms f) (atoms g) each) i p in
        let second = form_fails g (each_right Q (atoms f) (atoms g) each) i p in
        (λ k. first k && (second k && true)) ∙ not_implies (meets run f i) (meets run g i)
    form_fails (binary Equivalence f g) each i p =
        let here = each_left Q (atoms f) (atoms g) each in
        let there = each_right Q (atoms f) (atoms g) each in
        (λ k. (form_holds f here i p k && (form_fails g there i p k && true))
        || ((form_fails f here i p k && (form_holds g there i p k && true)) || false))
        ∙ disagrees (meets run f i) (meets run g i)
    form_fails (binary Until f g) each i p =
        releases_alike shape P stays (not_form f) (not_form g) (λ j. not (meets run f j)) (λ j. not (meets run g j))
        (form_fails f (each_left Q (atoms f) (atoms g) each)) (form_fails g (each_right Q (atoms f) (atoms g) each)) i p
        ∙ sym (not_until shape (meets run f) (meets run g) i)
    form_fails (binary WeakUntil f g) each i p =
        let first = form_fails f (each_left Q (atoms f) (atoms g) each) in
        let second = form_fails g (each_right Q (atoms f) (atoms g) each) in
        untils_alike shape P stays (not_form g) (λ j. not_form g j && (not_form f j && true)) (λ j. not (meets run g j))
        (λ j. not (meets run g j || meets run f j))
        second (λ j q. (λ k. second j q k && (first j q k && true)) ∙ not_either (meets run g j) (meets run f j)) i p
        ∙ sym (not_release shape (meets run g) (λ j. meets run g j || meets run f j) i)
    form_fails (binary Release f g) each i p =
        untils_alike shape P stays (not_form f) (not_form g) (λ j. not (meets run f j)) (λ j. not (meets run g j))
        (form_fails f (each_left Q (atoms f) (atoms g) each)) (form_fails g (each_right Q (atoms f) (atoms g) each)) i p
        ∙ sym (not_release shape (meets run f) (meets run g) i)
    form_fails (many Conjunction fs) each i p = some_form_fails fs each i p
    form_fails (many Disjunction fs) each i p = forms_fail fs each i p

    -- of the members of a list

    forms_hold : (fs : FormulaTrees) → AllByRecursion Q (atoms_of_members fs) → (i : ℕ) → P i →
        holds_all loop (letter_forms space fs) i ≡ list_all (λ holds. holds) (meet_each run fs i)
    forms_hold no_formulas each i p = refl
    forms_hold (more_formulas f fs) each i p =
        let first = form_holds f (each_left Q (atoms f) (atoms_of_members fs) each) i p in
        let rest = forms_hold fs (each_right Q (atoms f) (atoms_of_members fs) each) i p in
        λ k. first k && rest k

    some_form_holds : (fs : FormulaTrees) → AllByRecursion Q (atoms_of_members fs) → (i : ℕ) → P i →
        holds_any loop (letter_forms space fs) i ≡ list_any (λ holds. holds) (meet_each run fs i)
    some_form_holds no_formulas each i p = refl
    some_form_holds (more_formulas f fs) each i p =
        let first = form_holds f (each_left Q (atoms f) (atoms_of_members fs) each) i p in
        let rest = some_form_holds fs (each_right Q (atoms f) (atoms_of_members fs) each) i p in
        λ k. first k || rest k

    some_form_fails : (fs : FormulaTrees) → AllByRecursion Q (atoms_of_members fs) → (i : ℕ) → P i →
        holds_any loop (not_letter_forms space fs) i ≡ not (list_all (λ holds. holds) (meet_each run fs i))
    some_form_fails no_formulas each i p = refl
    some_form_fails (more_formulas f fs) each i p =
        let first = form_fails f (each_left Q (atoms f) (atoms_of_members fs) each) i p in
        let rest = some_form_fails fs (each_right Q (atoms f) (atoms_of_members fs) each) i p in
        not_and (meets run f i) (list_all (λ holds. holds) (meet_each run fs i)) _ _ first rest

    forms_fail : (fs : FormulaTrees) → AllByRecursion Q (atoms_of_members fs) → (i : ℕ) → P i →
        holds_all loop (not_letter_forms space fs) i ≡ not (list_any (λ holds. holds) (meet_each run fs i))
    forms_fail no_formulas each i p = refl
    forms_fail (more_formulas f fs) each i p =
        let first = form_fails f (each_left Q (atoms f) (atoms_of_members fs) each) i p in
        let rest = forms_fail fs (each_right Q (atoms f) (atoms_of_members fs) each) i p in
        not_or (meets run f i) (list_any (λ holds. holds) (meet_each run fs i)) _ _ first rest

pub each_trivially : (xs : List Atom) → AllByRecursion (λ _. ⊤) xs
each_trivially [] = tt
each_trivially (x ∷ xs) = (tt, each_trivially xs)

-- where each atom is read from its bit
pub read_from_bit : (loop : LetterLoop) (b : Option ℕ) (i : ℕ) →
    holds loop (atom_form b) i ≡ option_map_or (λ n. bit_holds loop n i) b false
read_from_bit loop (Some b) i = refl
read_from_bit loop None i = refl

pub form_is_read : (space : SpaceTree) (loop : LetterLoop) (f : FormulaTree) (i : ℕ) →
    holds loop (letter_form space f) i ≡ meets (letter_lasso space loop) f i
form_is_read space loop f i =
    form_holds space loop (λ j a. option_map_or (λ b. bit_holds loop b j) (bit_of_atom space a) false) (λ _. ⊤) (λ _ _. tt) (λ _. ⊤)
    (λ a _ j _. read_from_bit loop (bit_of_atom space a) j) f (each_trivially (atoms f)) i tt

-- where the letters say what holds of the atoms that have bits
read_where_there : (space : SpaceTree) (loop : LetterLoop) (a : Atom) (i : ℕ) (holds_here : Bool) →
    ((b : ℕ) → bit_of_atom space a ≡ Some b → holds_here ≡ bit_holds loop b i) → IsSome (bit_of_atom space a) →
    holds loop (atom_form (bit_of_atom space a)) i ≡ holds_here
read_where_there space loop a i holds_here same there = by (bit_of_atom space a) same there
  where
    by : (o : Option ℕ) → ((b : ℕ) → o ≡ Some b → holds_here ≡ bit_holds loop b i) → IsSome o → holds loop (atom_form o) i ≡ holds_here
    by (Some b) same there = sym (same b refl)
    by None same there = absurd (false≢true there)

pub form_says : (space : SpaceTree) (f : FormulaTree) (run : Lasso) (loop : LetterLoop) → AreLettersOf space run loop → HasBits space f →
    (i : ℕ) → IsPosition run.shape i → holds loop (letter_form space f) i ≡ meets run f i
form_says space f run loop are has i p =
    form_holds space loop run.holds (λ j. IsPosition (shape_of loop) j) (after_position (shape_of loop)) (λ a. IsSome (bit_of_atom space a))
    (λ a there j q. read_where_there space loop a j (run.holds j a)
    (λ b is. are.same_atoms j (subst (λ shape. IsPosition shape j) (sym are.same_shape) q) a b is) there)
    f has i (subst (λ shape. IsPosition shape i) are.same_shape p)
    ∙ (λ k. meets (record { shape = sym are.same_shape k; holds = run.holds }) f i)
