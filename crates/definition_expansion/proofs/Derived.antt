-- A formula in which each use is replaced by something that derives as an atom derives with the levels that it needs.
use Rattle.std.proofs.Common.{◌≡◌, ℕ, zero, suc, ◌≤◌, max, List, [], ◌∷◌, ◌++◌, map, Option, Some, None, refl, ap, sym, ◌∙◌, subst, arith}
use Rattle.std.proofs.lemmas.List.{append-nil}
use Rattle.tsl_terms.specs.declared.operator.UnaryOperator.{UnaryOperator}
use Rattle.tsl_terms.specs.declared.operator.UnaryOperator.TheVariants.{Negation, Next, Finally, Globally}
use Rattle.tsl_terms.specs.declared.operator.ManyOperator.{ManyOperator}
use Rattle.tsl_terms.specs.declared.operator.ManyOperator.TheVariants.{Conjunction, Disjunction}
use Rattle.spec_syntax.specs.Syntax.{Terminal, TermSyntax, applied, more_terms, FormulaSyntax, bare, tested, joined}
use Rattle.spec_syntax.specs.Syntax.{more_formulas, listed_terms, listed_formulas, join}
use Rattle.spec_syntax.specs.Grammar.{unary_of, temporal_of, IsTerm, signal, constant, application, brackets}
use Rattle.spec_syntax.specs.Grammar.{AreArguments, one_argument, more_arguments, IsArgument, signal_argument}
use Rattle.spec_syntax.specs.Grammar.{constant_argument, brackets_argument, IsFormula, temporal, chain as chained, IsIff}
use Rattle.spec_syntax.specs.Grammar.{no_iff, iff, IsImp, no_imp, imp, IsOr, disjunction, AreDisjuncts, no_disjunct}
use Rattle.spec_syntax.specs.Grammar.{more_disjuncts, IsAnd, conjunction, AreConjuncts, no_conjunct, more_conjuncts}
use Rattle.spec_syntax.specs.Grammar.{IsPrefix, prefix, atom, IsAtom, true_atom, false_atom, brackets_atom, update}
use Rattle.spec_syntax.specs.Grammar.{bare_name, no_argument, test}
use Rattle.spec_syntax.specs.Written.{sign_under, sign_between, written_term, written_terms, written, written_further}
use Rattle.spec_syntax.specs.Levels.{term_depth, terms_depth, depth, members_depth}
use Rattle.definition_expansion.specs.Expansion.{Replacing, put_for, passed_names, renamed_term, renamed_terms, replacing_test, expanded, expanded_members}
use Rattle.spec_syntax.proofs.Written.{join_written, join_depth, sign_of_temporal, temporal_sides}

-- this derives from what it is written with
abbrev pub TermDerives : ℕ → TermSyntax → Type 0
TermDerives n t = IsTerm n (written_term t) t

abbrev pub AtomDerives : ℕ → FormulaSyntax → Type 0
AtomDerives n a = IsAtom n (written a) a

unary_of_sign : (op : UnaryOperator) → unary_of (sign_under op) ≡ Some op
unary_of_sign Negation = refl
unary_of_sign Next = refl
unary_of_sign Finally = refl
unary_of_sign Globally = refl

module _ (stands_for : List ℕ → List ℕ) where
  renamed_listed : (ts : List TermSyntax) → renamed_terms stands_for (listed_terms ts) ≡ listed_terms (map (renamed_term stands_for) ts)
  renamed_listed [] = refl
  renamed_listed (t ∷ ts) = ap (more_terms (renamed_term stands_for t)) (renamed_listed ts)

  mutual
    pub term_renamed : {r : ℕ} {xs : List Terminal} {t : TermSyntax} (n : ℕ) → IsTerm r xs t → term_depth (renamed_term stands_for t) ≤ n →
        TermDerives n (renamed_term stands_for t)
    term_renamed n (signal x) few = signal (stands_for x)
    term_renamed n (constant c) few = constant (stands_for c)
    term_renamed n (application {t = t} {ts = ts} f h) few =
        subst (λ us. TermDerives n (applied (stands_for f) us)) (sym (renamed_listed (t ∷ ts)))
        (application (stands_for f) (arguments_renamed n h few))
    term_renamed zero (brackets h) few = absurd (omega (arith, few))
    term_renamed (suc n) (brackets h) few = brackets (term_renamed n h (omega (arith, few)))

    pub arguments_renamed : {r : ℕ} {xs : List Terminal} {ts : List TermSyntax} (n : ℕ) → AreArguments r xs ts →
        terms_depth (renamed_terms stands_for (listed_terms ts)) ≤ n →
        AreArguments n (written_terms (listed_terms (map (renamed_term stands_for) ts))) (map (renamed_term stands_for) ts)
    arguments_renamed n (one_argument {t = t} h) few =
        subst (λ xs. AreArguments n xs (renamed_term stands_for t ∷ [])) (sym (append-nil (written_term (renamed_term stands_for t))))
        (one_argument (argument_renamed n h (omega (arith, few))))
    arguments_renamed n (more_arguments h k) few =
        more_arguments (argument_renamed n h (omega (arith, few))) (arguments_renamed n k (omega (arith, few)))

    pub argument_renamed : {r : ℕ} {xs : List Terminal} {t : TermSyntax} (n : ℕ) → IsArgument r xs t →
        term_depth (renamed_term stands_for t) ≤ n →
        IsArgument n (written_term (renamed_term stands_for t)) (renamed_term stands_for t)
    argument_renamed n (signal_argument x) few = signal_argument (stands_for x)
    argument_renamed n (constant_argument c) few = constant_argument (stands_for c)
    argument_renamed zero (brackets_argument h) few = absurd (omega (arith, few))
    argument_renamed (suc n) (brackets_argument h) few = brackets_argument (term_renamed n h (omega (arith, few)))

-- what is put for a use derives as an atom, with the levels that it needs
abbrev pub PutsAtoms : Replacing → Type 0
PutsAtoms replacing =
    (x : List ℕ) (ys : List (List ℕ)) (f : FormulaSyntax) (n : ℕ) → replacing x ys ≡ Some f → depth f ≤ n → AtomDerives n f

module _ (replacing : Replacing) (atoms : PutsAtoms replacing) (stands_for : List ℕ → List ℕ) where
  abbrev whole : FormulaSyntax → FormulaSyntax
  whole = expanded replacing stands_for

  abbrev wholes : List FormulaSyntax → List FormulaSyntax
  wholes = map whole

  -- what stands for this derives from what it is written with
  abbrev Here : (ℕ → List Terminal → FormulaSyntax → Type 0) → ℕ → FormulaSyntax → Type 0
  Here Is n a = Is n (written (whole a)) (whole a)

  listed_expanded : (fs : List FormulaSyntax) → expanded_members replacing stands_for (listed_formulas fs) ≡ listed_formulas (wholes fs)
  listed_expanded [] = refl
  listed_expanded (f ∷ fs) = ap (more_formulas (whole f)) (listed_expanded fs)

  join_expanded : (op : ManyOperator) (a : FormulaSyntax) (fs : List FormulaSyntax) → whole (join op a fs) ≡ join op (whole a) (wholes fs)
  join_expanded op a [] = refl
  join_expanded op a (g ∷ gs) =
      ap (λ hs. joined op (more_formulas (whole a) (more_formulas (whole g) hs))) (listed_expanded gs)

  put_derives : (o : Option FormulaSyntax) (a : FormulaSyntax) (n : ℕ) → ((f : FormulaSyntax) → o ≡ Some f → depth f ≤ n → AtomDerives n f)
      → (depth a ≤ n → AtomDerives n a) → depth (put_for o a) ≤ n → AtomDerives n (put_for o a)
  put_derives None a n some none few = none few
  put_derives (Some f) a n some none few = some f refl few

  tested_put : (p : List ℕ) (names : Option (List (List ℕ))) (n : ℕ) (f : FormulaSyntax) →
      replacing_test replacing stands_for p names ≡ Some f → depth f ≤ n → AtomDerives n f
  tested_put p None n f h few = cc
  tested_put p (Some ys) n f h few = atoms p _ f n h few

  join_both : (op : ManyOperator) (a : FormulaSyntax) (fs : List FormulaSyntax) (n : ℕ) →
      depth (whole (join op a fs)) ≤ n → (depth (whole a) ≤ n) × (members_depth (listed_formulas (wholes fs)) ≤ n)
  join_both op a fs n few =
      let e : depth (whole (join op a fs)) ≡ max (depth (whole a)) (members_depth (listed_formulas (wholes fs))) =
      ap depth (join_expanded op a fs) ∙ join_depth op (whole a) (wholes fs) in
      (omega (arith, few, e), omega (arith, few, e))

  join_here : (Is : ℕ → List Terminal → FormulaSyntax → Type 0) (op : ManyOperator) (a : FormulaSyntax) (fs : List FormulaSyntax) (n : ℕ) →
      Is n (written (whole a) ++ written_further op (listed_formulas (wholes fs))) (join op (whole a) (wholes fs)) → Here Is n (join op a fs)
  join_here Is op a fs n h =
      subst (λ b. Is n (written b) b) (sym (join_expanded op a fs))
      (subst (λ xs. Is n xs (join op (whole a) (wholes fs))) (sym (join_written op (whole a) (wholes fs))) h)

  mutual
    pub formula_derives : {r : ℕ} {xs : List Terminal} {a : FormulaSyntax} (n : ℕ) → IsFormula r xs a → depth (whole a) ≤ n → Here IsFormula n a
    formula_derives n (temporal {a = a} {b = b} op t is h k) few =
        let sides : max (depth (whole a)) (depth (whole b)) ≤ n =
        omega (arith, temporal_sides t op (depth (whole a)) (depth (whole b)) is, few) in
        temporal op (sign_between op) (ap temporal_of (sym (sign_of_temporal t op is)) ∙ is)
        (prefix_derives n h (omega (arith, sides))) (prefix_derives n k (omega (arith, sides)))
    formula_derives n (chained h) few = chained (iff_derives n h few)

    iff_derives : {r : ℕ} {xs : List Terminal} {a : FormulaSyntax} (n : ℕ) → IsIff r xs a → depth (whole a) ≤ n → Here IsIff n a
    iff_derives n (no_iff h) few = no_iff (imp_derives n h few)
    iff_derives zero (iff h k) few = absurd (omega (arith, few))
    iff_derives (suc n) (iff h k) few = iff (imp_derives (suc n) h (omega (arith, few))) (iff_derives n k (omega (arith, few)))

    imp_derives : {r : ℕ} {xs : List Terminal} {a : FormulaSyntax} (n : ℕ) → IsImp r xs a → depth (whole a) ≤ n → Here IsImp n a
    imp_derives n (no_imp h) few = no_imp (or_derives n h few)
    imp_derives zero (imp h k) few = absurd (omega (arith, few))
    imp_derives (suc n) (imp h k) few = imp (or_derives (suc n) h (omega (arith, few))) (imp_derives n k (omega (arith, few)))

    or_derives : {r : ℕ} {xs : List Terminal} {a : FormulaSyntax} (n : ℕ) → IsOr r xs a → depth (whole a) ≤ n → Here IsOr n a
    or_derives n (disjunction {a = a} {fs = fs} h k) few =
        let both = join_both Disjunction a fs n few in
        join_here IsOr Disjunction a fs n (disjunction (and_derives n h both.0) (disjuncts_derive n k both.1))

    disjuncts_derive : {r : ℕ} {xs : List Terminal} {fs : List FormulaSyntax} (n : ℕ) → AreDisjuncts r xs fs →
        members_depth (listed_formulas (wholes fs)) ≤ n →
        AreDisjuncts n (written_further Disjunction (listed_formulas (wholes fs))) (wholes fs)
    disjuncts_derive n no_disjunct few = no_disjunct
    disjuncts_derive n (more_disjuncts h k) few =
        more_disjuncts (and_derives n h (omega (arith, few))) (disjuncts_derive n k (omega (arith, few)))

    and_derives : {r : ℕ} {xs : List Terminal} {a : FormulaSyntax} (n : ℕ) → IsAnd r xs a → depth (whole a) ≤ n → Here IsAnd n a
    and_derives n (conjunction {a = a} {fs = fs} h k) few =
        let both = join_both Conjunction a fs n few in
        join_here IsAnd Conjunction a fs n (conjunction (prefix_derives n h both.0) (conjuncts_derive n k both.1))

    conjuncts_derive : {r : ℕ} {xs : List Terminal} {fs : List FormulaSyntax} (n : ℕ) → AreConjuncts r xs fs →
        members_depth (listed_formulas (wholes fs)) ≤ n →
        AreConjuncts n (written_further Conjunction (listed_formulas (wholes fs))) (wholes fs)
    conjuncts_derive n no_conjunct few = no_conjunct
    conjuncts_derive n (more_conjuncts h k) few =
        more_conjuncts (prefix_derives n h (omega (arith, few))) (conjuncts_derive n k (omega (arith, few)))

    prefix_derives : {r : ℕ} {xs : List Terminal} {a : FormulaSyntax} (n : ℕ) → IsPrefix r xs a → depth (whole a) ≤ n → Here IsPrefix n a
    prefix_derives zero (prefix op t is h) few = absurd (omega (arith, few))
    prefix_derives (suc n) (prefix op t is h) few = prefix op (sign_under op) (unary_of_sign op) (prefix_derives n h (omega (arith, few)))
    prefix_derives n (atom h) few = atom (atom_derives n h few)

    atom_derives : {r : ℕ} {xs : List Terminal} {a : FormulaSyntax} (n : ℕ) → IsAtom r xs a → depth (whole a) ≤ n → Here IsAtom n a
    atom_derives n true_atom few = true_atom
    atom_derives n false_atom few = false_atom
    atom_derives zero (brackets_atom h) few = absurd (omega (arith, few))
    atom_derives (suc n) (brackets_atom h) few = brackets_atom (formula_derives n h (omega (arith, few)))
    atom_derives n (update x h) few = update (stands_for x) (term_renamed stands_for n h few)
    atom_derives n (bare_name x) few =
        put_derives (replacing x []) (bare (stands_for x)) n (λ f is small. atoms x [] f n is small) (λ small. bare_name (stands_for x)) few
    atom_derives n (no_argument p) few = no_argument (stands_for p)
    atom_derives n (test {t = t} {ts = ts} p h) few =
        put_derives (replacing_test replacing stands_for p (passed_names (listed_terms (t ∷ ts))))
        (tested (stands_for p) (renamed_terms stands_for (listed_terms (t ∷ ts)))) n (tested_put p (passed_names (listed_terms (t ∷ ts))) n)
        (λ small. subst (λ us. AtomDerives n (tested (stands_for p) us)) (sym (renamed_listed stands_for (t ∷ ts)))
        (test (stands_for p) (arguments_renamed stands_for n h small))) few
