-- The tree in which each use is replaced is written as the text in which each use is replaced.
use Rattle.std.proofs.Common.{◌≡◌, ℕ, zero, suc, ◌≤◌, Bool, true, false, List, [], ◌∷◌, ◌++◌, length, map, Option, Some, None, refl, ap, sym, ◌∙◌, subst, arith}
use Rattle.std.specs.Prelude.{if◌then◌else◌, option_map}
use Rattle.std.specs.Str.{bytes_eq}
use Rattle.std.specs.Option.{is_some}
use Rattle.std.proofs.lemmas.List.{append-nil, append_assoc, map-append}
use Rattle.std.proofs.lemmas.Slice.Eq.{bytes_eq-Decides}
use Rattle.tsl_text.specs.declared.TokenKind.TheVariants.{OpenRound, CloseRound, OpenSquare, CloseSquare, Not, And, Or, Arrow, BothArrow, LeftArrow}
use Rattle.spec_syntax.specs.declared.syntax.Word.TheVariants.{True, False, X, F, G, U, W, R}
use Rattle.tsl_terms.specs.declared.operator.UnaryOperator.{UnaryOperator}
use Rattle.tsl_terms.specs.declared.operator.UnaryOperator.TheVariants.{Negation, Next, Finally, Globally}
use Rattle.tsl_terms.specs.declared.operator.BinaryOperator.{BinaryOperator}
use Rattle.tsl_terms.specs.declared.operator.BinaryOperator.TheVariants.{Implication, Equivalence, Until, WeakUntil, Release}
use Rattle.tsl_terms.specs.declared.operator.ManyOperator.{ManyOperator}
use Rattle.tsl_terms.specs.declared.operator.ManyOperator.TheVariants.{Conjunction, Disjunction}
use Rattle.spec_syntax.specs.Syntax.{Terminal, free, word, mark, TermSyntax, alone, applied, grouped_term, TermsSyntax}
use Rattle.spec_syntax.specs.Syntax.{no_terms, more_terms, FormulaSyntax, truth, falsehood, bare, tested, updated}
use Rattle.spec_syntax.specs.Syntax.{grouped, under, between, joined, FormulasSyntax, no_formulas, more_formulas}
use Rattle.spec_syntax.specs.Grammar.{in_brackets}
use Rattle.spec_syntax.specs.Written.{sign_under, sign_between, sign_many, written_term, written_arguments, written_terms}
use Rattle.spec_syntax.specs.Written.{written, written_further}
use Rattle.spec_syntax.specs.Syntax.{Definition}
use Rattle.definition_expansion.specs.Expansion.{passed, put_for, passed_names, renamed_term, renamed_terms, replacing_test, expanded, expanded_members, expansion_within}
use Rattle.definition_expansion.specs.TextExpansion.{renamed_terminal, body_with, is_defined, Expands, nothing, kept, used}
use Rattle.definition_expansion.specs.WellUsed.{text_of, as_written, IsFree, AreFree, IsFreeTerm, AreFreeTerms, IsUse, IsTest, no_use, use_of, IsBare, no_bare_use, bare_use, UsesWell, MembersUseWell, AreRanked}
use Rattle.definition_expansion.proofs.BareTerms.{alone_terms, bare_are}

-- what uses only definitions below a rank uses only those below a higher one
module _ (all : List ℕ → Option Definition) (rank : List ℕ → ℕ) (m n : ℕ) (less : m ≤ n) where
  use_below : (x : List ℕ) (ys : List (List ℕ)) → IsUse all rank m x ys → IsUse all rank n x ys
  use_below x ys u = record {
    definition = u.definition;
    defined = u.defined;
    is_lower = omega (arith, less, u.is_lower);
    as_many = u.as_many;
    free_names = u.free_names;
  }

  bare_below : (x : List ℕ) → IsBare all rank m x → IsBare all rank n x
  bare_below x (no_bare_use away) = no_bare_use away
  bare_below x (bare_use u) = bare_use (use_below x [] u)

  test_below : (p : List ℕ) (ts : TermsSyntax) → IsTest all rank m p ts → IsTest all rank n p ts
  test_below p ts (no_use away terms) = no_use away terms
  test_below p ts (use_of ys is u) = use_of ys is (use_below p ys u)

  mutual
    pub formula_below : (a : FormulaSyntax) → UsesWell all rank m a → UsesWell all rank n a
    formula_below truth h = tt
    formula_below falsehood h = tt
    formula_below (bare x) h = bare_below x h
    formula_below (tested p ts) h = test_below p ts h
    formula_below (updated x t) h = h
    formula_below (grouped a) h = formula_below a h
    formula_below (under op a) h = formula_below a h
    formula_below (between op a b) h = (formula_below a h.0, formula_below b h.1)
    formula_below (joined op fs) h = members_below fs h

    members_below : (fs : FormulasSyntax) → MembersUseWell all rank m fs → MembersUseWell all rank n fs
    members_below no_formulas h = tt
    members_below (more_formulas f fs) h = (formula_below f h.0, members_below fs h.1)

-- ---- the text law

module _ (all : List ℕ → Option Definition) (rank : List ℕ → ℕ) where
  pub both_expand : {xs us ys vs : List Terminal} → Expands (as_written all) xs us → Expands (as_written all) ys vs →
      Expands (as_written all) (xs ++ ys) (us ++ vs)
  both_expand nothing k = k
  both_expand (kept x away h) k = kept x away (both_expand h k)
  both_expand {ys = rest} {vs = out} (used {xs = xs} {ys = ys} {zs = zs} x names d is many body h) k =
      subst (λ ts. Expands (as_written all) (free x ∷ ts) ((in_brackets zs ++ ys) ++ out)) (sym (append_assoc (map free names) xs rest))
      (subst (λ ts. Expands (as_written all) (free x ∷ (map free names ++ (xs ++ rest))) ts) (sym (append_assoc (in_brackets zs) ys out))
      (used x names d is many body (both_expand h k)))

  keep : (x : List ℕ) → IsFree all rank x → is_defined (as_written all) (free x) ≡ false
  keep x away = ap (λ o. is_some (option_map text_of o)) away

  free_one : (x : List ℕ) → IsFree all rank x → Expands (as_written all) (free x ∷ []) (free x ∷ [])
  free_one x away = kept (free x) (keep x away) nothing

  -- a renaming leaves defined names as they are, and makes none
  pub record Renames (stands_for : List ℕ → List ℕ) : Type 0 where
    pub free_stays : (x : List ℕ) → IsFree all rank x → IsFree all rank (stands_for x)
    pub defined_stays : (x : List ℕ) (d : Definition) → all x ≡ Some d → stands_for x ≡ x

  module _ (stands_for : List ℕ → List ℕ) (renames : Renames stands_for) where
    abbrev renamed : List Terminal → List Terminal
    renamed xs = map (renamed_terminal stands_for) xs

    join_renamed : (xs ys us vs : List Terminal) → Expands (as_written all) (renamed xs) us → Expands (as_written all) (renamed ys) vs →
        Expands (as_written all) (renamed (xs ++ ys)) (us ++ vs)
    join_renamed xs ys us vs h k = subst (λ ts. Expands (as_written all) ts (us ++ vs))
        (sym (map-append (renamed_terminal stands_for) xs ys)) (both_expand h k)

    in_brackets_expand : (xs us : List Terminal) → Expands (as_written all) (renamed xs) us →
        Expands (as_written all) (renamed (in_brackets xs)) (in_brackets us)
    in_brackets_expand xs us h =
        kept (mark OpenRound) refl (join_renamed xs (mark CloseRound ∷ []) us (mark CloseRound ∷ []) h
        (kept (mark CloseRound) refl nothing))

    mutual
      term_expands : (t : TermSyntax) → IsFreeTerm all rank t →
          Expands (as_written all) (renamed (written_term t)) (written_term (renamed_term stands_for t))
      term_expands (alone x) away = free_one (stands_for x) (renames.free_stays x away)
      term_expands (applied f ts) away = kept (free (stands_for f)) (keep (stands_for f) (renames.free_stays f away.0))
          (arguments_expand ts away.1)
      term_expands (grouped_term t) away = in_brackets_expand (written_term t) (written_term (renamed_term stands_for t))
          (term_expands t away)

      arguments_expand : (ts : TermsSyntax) → AreFreeTerms all rank ts →
          Expands (as_written all) (renamed (written_arguments ts)) (written_arguments (renamed_terms stands_for ts))
      arguments_expand no_terms away = kept (mark OpenRound) refl (kept (mark CloseRound) refl nothing)
      arguments_expand (more_terms t ts) away =
          join_renamed (written_term t) (written_terms ts) _ _ (term_expands t away.0) (terms_expand ts away.1)

      terms_expand : (ts : TermsSyntax) → AreFreeTerms all rank ts →
          Expands (as_written all) (renamed (written_terms ts)) (written_terms (renamed_terms stands_for ts))
      terms_expand no_terms away = nothing
      terms_expand (more_terms t ts) away = join_renamed (written_term t) (written_terms ts) _ _ (term_expands t away.0)
          (terms_expand ts away.1)

    names_written : (ys : List (List ℕ)) → renamed (map free ys) ≡ map free (map stands_for ys)
    names_written [] = refl
    names_written (y ∷ ys) = ap (λ ts. free (stands_for y) ∷ ts) (names_written ys)

    names_free : (ys : List (List ℕ)) → AreFree all rank ys → AreFree all rank (map stands_for ys)
    names_free [] away = tt
    names_free (y ∷ ys) away = (renames.free_stays y away.0, names_free ys away.1)

    length_same : (ys : List (List ℕ)) → length (map stands_for ys) ≡ length ys
    length_same [] = refl
    length_same (y ∷ ys) = ap suc (length_same ys)

    pub use_renamed : (below : ℕ) (x : List ℕ) (ys : List (List ℕ)) → IsUse all rank below x ys → IsUse all rank below x (map stands_for ys)
    use_renamed below x ys u = record {
      definition = u.definition;
      defined = u.defined;
      is_lower = u.is_lower;
      as_many = length_same ys ∙ u.as_many;
      free_names = names_free ys u.free_names;
    }

  -- what is put for a use is written as the text that its body expands to, between brackets
  pub record Put (below : ℕ) (x : List ℕ) (ys : List (List ℕ)) (d : Definition) : Type 0 where
    pub inner : FormulaSyntax
    pub is : expansion_within all below x ys ≡ Some (grouped inner)
    pub expands : Expands (as_written all) (body_with (text_of d) ys) (written inner)

  abbrev pub PutsExpansions : ℕ → Type 0
  PutsExpansions below = (x : List ℕ) (ys : List (List ℕ)) (u : IsUse all rank below x ys) → Put below x ys u.definition

  -- a name that is no defined name is put for by nothing
  pub expansion_none : (n : ℕ) (x : List ℕ) (ys : List (List ℕ)) → IsFree all rank x → expansion_within all n x ys ≡ None
  expansion_none zero x ys away = refl
  expansion_none (suc n) x ys away = ap (option_map _) away

  pub none_put : (n : ℕ) (stands_for : List ℕ → List ℕ) (p : List ℕ) (names : Option (List (List ℕ))) → IsFree all rank p →
      replacing_test (expansion_within all n) stands_for p names ≡ None
  none_put n stands_for p None away = refl
  none_put n stands_for p (Some ys) away = expansion_none n p (map stands_for ys) away

  module _ (below : ℕ) (puts : PutsExpansions below) (stands_for : List ℕ → List ℕ) (renames : Renames stands_for) where
    used_expands : (x : List ℕ) (ys : List (List ℕ)) (u : IsUse all rank below x ys) →
        Expands (as_written all) (free x ∷ map free ys) (written (put_for (expansion_within all below x ys) (bare x)))
    used_expands x ys u =
        let p = puts x ys u in
        let here = used {xs = []} {ys = []} x ys (text_of u.definition) (ap (option_map text_of) u.defined) u.as_many p.expands nothing in
        subst (λ f. Expands (as_written all) (free x ∷ map free ys) (written (put_for f (bare x)))) (sym p.is)
        (subst (λ ts. Expands (as_written all) (free x ∷ ts) (in_brackets (written p.inner))) (append-nil (map free ys))
        (subst (λ ts. Expands (as_written all) (free x ∷ (map free ys ++ [])) ts) (append-nil (in_brackets (written p.inner))) here))

    put_is : (x : List ℕ) (ys : List (List ℕ)) (u : IsUse all rank below x ys) (a b : FormulaSyntax) →
        put_for (expansion_within all below x ys) a ≡ put_for (expansion_within all below x ys) b
    put_is x ys u a b =
        let p = puts x ys u in
        ap (λ o. put_for o a) p.is ∙ sym (ap (λ o. put_for o b) p.is)

    alone_written : (ys : List (List ℕ)) → written_terms (alone_terms ys) ≡ map free ys
    alone_written [] = refl
    alone_written (y ∷ ys) = ap (λ xs. free y ∷ xs) (alone_written ys)

    sign_expands : (op : UnaryOperator) (xs us : List Terminal) → Expands (as_written all) (map (renamed_terminal stands_for) xs) us →
        Expands (as_written all) (map (renamed_terminal stands_for) (sign_under op ∷ xs)) (sign_under op ∷ us)
    sign_expands Negation xs us h = kept (mark Not) refl h
    sign_expands Next xs us h = kept (word X) refl h
    sign_expands Finally xs us h = kept (word F) refl h
    sign_expands Globally xs us h = kept (word G) refl h

    between_expands : (op : BinaryOperator) (xs us : List Terminal) → Expands (as_written all) (map (renamed_terminal stands_for) xs) us →
        Expands (as_written all) (map (renamed_terminal stands_for) (sign_between op ∷ xs)) (sign_between op ∷ us)
    between_expands Implication xs us h = kept (mark Arrow) refl h
    between_expands Equivalence xs us h = kept (mark BothArrow) refl h
    between_expands Until xs us h = kept (word U) refl h
    between_expands WeakUntil xs us h = kept (word W) refl h
    between_expands Release xs us h = kept (word R) refl h

    many_expands : (op : ManyOperator) (xs us : List Terminal) → Expands (as_written all) (map (renamed_terminal stands_for) xs) us →
        Expands (as_written all) (map (renamed_terminal stands_for) (sign_many op ∷ xs)) (sign_many op ∷ us)
    many_expands Conjunction xs us h = kept (mark And) refl h
    many_expands Disjunction xs us h = kept (mark Or) refl h

    bare_expands : (x : List ℕ) → IsBare all rank below x →
        Expands (as_written all) (free (stands_for x) ∷ []) (written (put_for (expansion_within all below x []) (bare (stands_for x))))
    bare_expands x (no_bare_use away) =
        subst (λ o. Expands (as_written all) (free (stands_for x) ∷ []) (written (put_for o (bare (stands_for x)))))
        (sym (expansion_none below x [] away))
        (free_one (stands_for x) (renames.free_stays x away))
    bare_expands x (bare_use u) =
        subst (λ y. Expands (as_written all) (free y ∷ []) (written (put_for (expansion_within all below x []) (bare (stands_for x)))))
        (sym (renames.defined_stays x u.definition u.defined))
        (subst (λ f. Expands (as_written all) (free x ∷ []) (written f)) (put_is x [] u (bare x) (bare (stands_for x)))
        (used_expands x [] u))

    passed_arguments : (ts : TermsSyntax) (ys : List (List ℕ)) → passed_names ts ≡ Some ys → written_arguments ts ≡ map free ys
    passed_arguments no_terms ys h = cc
    passed_arguments (more_terms t ts) ys h = ap written_terms (bare_are (more_terms t ts) ys h) ∙ alone_written ys

    test_expands : (p : List ℕ) (ts : TermsSyntax) → IsTest all rank below p ts →
        Expands (as_written all) (map (renamed_terminal stands_for) (written (tested p ts)))
        (written (put_for (replacing_test (expansion_within all below) stands_for p (passed_names ts))
        (tested (stands_for p) (renamed_terms stands_for ts))))
    test_expands p ts (no_use away terms) =
        subst (λ o. Expands (as_written all) (map (renamed_terminal stands_for) (written (tested p ts)))
        (written (put_for o (tested (stands_for p) (renamed_terms stands_for ts)))))
        (sym (none_put below stands_for p (passed_names ts) away))
        (kept (free (stands_for p)) (keep (stands_for p) (renames.free_stays p away)) (arguments_expand stands_for renames ts terms))
    test_expands p ts (use_of ys is u) =
        let v = use_renamed stands_for renames below p ys u in
        let front : map (renamed_terminal stands_for) (written (tested p ts)) ≡ free p ∷ map free (map stands_for ys) =
        ap (λ xs. free (stands_for p) ∷ map (renamed_terminal stands_for) xs) (passed_arguments ts ys is)
        ∙ ap (λ xs. free (stands_for p) ∷ xs) (names_written stands_for renames ys)
        ∙ ap (λ x. free x ∷ map free (map stands_for ys)) (renames.defined_stays p u.definition u.defined) in
        subst (λ xs. Expands (as_written all) xs
        (written (put_for (replacing_test (expansion_within all below) stands_for p (passed_names ts))
        (tested (stands_for p) (renamed_terms stands_for ts)))))
        (sym front)
        (subst (λ names. Expands (as_written all) (free p ∷ map free (map stands_for ys))
        (written (put_for (replacing_test (expansion_within all below) stands_for p names)
        (tested (stands_for p) (renamed_terms stands_for ts))))) (sym is)
        (subst (λ f. Expands (as_written all) (free p ∷ map free (map stands_for ys)) (written f))
        (put_is p (map stands_for ys) v (bare p) (tested (stands_for p) (renamed_terms stands_for ts)))
        (used_expands p (map stands_for ys) v)))

    mutual
      pub formula_expands : (a : FormulaSyntax) → UsesWell all rank below a →
          Expands (as_written all) (map (renamed_terminal stands_for) (written a))
          (written (expanded (expansion_within all below) stands_for a))
      formula_expands truth h = kept (word True) refl nothing
      formula_expands falsehood h = kept (word False) refl nothing
      formula_expands (bare x) h = bare_expands x h
      formula_expands (tested p ts) h = test_expands p ts h
      formula_expands (updated x t) h =
          kept (mark OpenSquare) refl (kept (free (stands_for x)) (keep (stands_for x) (renames.free_stays x h.0))
          (kept (mark LeftArrow) refl
          (join_renamed stands_for renames (written_term t) (mark CloseSquare ∷ []) _ _ (term_expands stands_for renames t h.1)
          (kept (mark CloseSquare) refl nothing))))
      formula_expands (grouped a) h = in_brackets_expand stands_for renames (written a) _ (formula_expands a h)
      formula_expands (under op a) h = sign_expands op (written a) _ (formula_expands a h)
      formula_expands (between op a b) h =
          join_renamed stands_for renames (written a) (sign_between op ∷ written b) _ _ (formula_expands a h.0)
          (between_expands op (written b) _ (formula_expands b h.1))
      formula_expands (joined op no_formulas) h = nothing
      formula_expands (joined op (more_formulas f fs)) h =
          join_renamed stands_for renames (written f) (written_further op fs) _ _ (formula_expands f h.0) (further_expand op fs h.1)

      further_expand : (op : ManyOperator) (fs : FormulasSyntax) → MembersUseWell all rank below fs →
          Expands (as_written all) (map (renamed_terminal stands_for) (written_further op fs))
          (written_further op (expanded_members (expansion_within all below) stands_for fs))
      further_expand op no_formulas h = nothing
      further_expand op (more_formulas f fs) h =
          many_expands op (written f ++ written_further op fs) _
          (join_renamed stands_for renames (written f) (written_further op fs) _ _ (formula_expands f h.0) (further_expand op fs h.1))

  -- ---- the definitions

  -- parameters that are free names and names that a use passes: replacing them leaves defined names alone
  passed_free : (ps ys : List (List ℕ)) (x : List ℕ) → AreFree all rank ys → IsFree all rank x → IsFree all rank (passed ps ys x)
  passed_free [] ys x names away = away
  passed_free (p ∷ ps) [] x names away = away
  passed_free (p ∷ ps) (y ∷ ys) x names away = by_test (bytes_eq p x) (passed ps ys x) names.0 (passed_free ps ys x names.1 away)
    where
      by_test : (b : Bool) (z : List ℕ) → IsFree all rank y → IsFree all rank z → IsFree all rank (if b then y else z)
      by_test true z h k = h
      by_test false z h k = k

  passed_defined : (ps ys : List (List ℕ)) (x : List ℕ) (d : Definition) → AreFree all rank ps → all x ≡ Some d → passed ps ys x ≡ x
  passed_defined [] ys x d params is = refl
  passed_defined (p ∷ ps) [] x d params is = refl
  passed_defined (p ∷ ps) (y ∷ ys) x d params is =
      by_test (bytes_eq p x) (passed ps ys x)
      (λ same. let e : p ≡ x = (bytes_eq-Decides p x).0 same in
      let none : all x ≡ None = ap all (sym e) ∙ params.0 in
      let clash : None ≡ Some d = sym none ∙ is in
      cc) (passed_defined ps ys x d params.1 is)
    where
      by_test : (b : Bool) (z : List ℕ) → (b ≡ true → y ≡ x) → z ≡ x → (if b then y else z) ≡ x
      by_test true z h k = h refl
      by_test false z h k = k

  pub passing_renames : (ps ys : List (List ℕ)) → AreFree all rank ps → AreFree all rank ys → Renames (passed ps ys)
  passing_renames ps ys params names = record {
    free_stays = λ x away. passed_free ps ys x names away;
    defined_stays = λ x d is. passed_defined ps ys x d params is;
  }

  -- definitions in order put the expansions of their bodies
  pub puts_expansions : AreRanked all rank → (n : ℕ) → PutsExpansions n
  puts_expansions ranked zero x ys u = absurd (omega (arith, u.is_lower))
  puts_expansions ranked (suc n) x ys u =
      let d = u.definition in
      record {
        inner = expanded (expansion_within all n) (passed d.parameters ys) d.body;
        is = ap (option_map (λ k. grouped (expanded (expansion_within all n) (passed k.parameters ys) k.body))) u.defined;
        expands =
            formula_expands n (puts_expansions ranked n) (passed d.parameters ys)
            (passing_renames d.parameters ys (ranked.parameters x d u.defined) u.free_names) d.body
            (formula_below all rank (rank x) n (omega (arith, u.is_lower)) d.body (ranked.bodies x d u.defined));
      }

  pub alone_stays : Renames (λ x. x)
  alone_stays = record { free_stays = λ x away. away; defined_stays = λ x d is. refl }

  same_terminals : (xs : List Terminal) → map (renamed_terminal (λ x. x)) xs ≡ xs
  same_terminals [] = refl
  same_terminals (free x ∷ xs) = ap (λ ts. free x ∷ ts) (same_terminals xs)
  same_terminals (word w ∷ xs) = ap (λ ts. word w ∷ ts) (same_terminals xs)
  same_terminals (mark m ∷ xs) = ap (λ ts. mark m ∷ ts) (same_terminals xs)

  -- the text of a formula expands to the text of its expansion
  pub text_expands : AreRanked all rank → (n : ℕ) (a : FormulaSyntax) → UsesWell all rank n a →
      Expands (as_written all) (written a) (written (expanded (expansion_within all n) (λ x. x) a))
  text_expands ranked n a well =
      subst (λ xs. Expands (as_written all) xs (written (expanded (expansion_within all n) (λ x. x) a))) (same_terminals (written a))
      (formula_expands n (puts_expansions ranked n) (λ x. x) alone_stays a well)
