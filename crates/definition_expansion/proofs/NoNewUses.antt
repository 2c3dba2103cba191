-- What a name is used as in an expansion it is used as in the text: so an expansion has no clash that the text has not.
use Rattle.std.proofs.Common.{◌≡◌, ℕ, zero, suc, Bool, true, false, List, [], ◌∷◌, length, map, Option, Some, None, refl, ap, sym, ◌∙◌, subst, arith}
use Rattle.std.specs.Prelude.{if◌then◌else◌, option_map}
use Rattle.std.specs.Str.{bytes_eq}
use Rattle.std.proofs.lemmas.Slice.Eq.{bytes_eq-Decides}
use Rattle.spec_syntax.specs.Syntax.{TermSyntax, alone, applied, grouped_term, TermsSyntax, no_terms, more_terms}
use Rattle.spec_syntax.specs.Syntax.{FormulaSyntax, truth, falsehood, bare, tested, updated, grouped, under, between}
use Rattle.spec_syntax.specs.Syntax.{joined, FormulasSyntax, no_formulas, more_formulas}
use Rattle.spec_syntax.specs.Syntax.{Definition}
use Rattle.definition_expansion.specs.Expansion.{passed, put_for, passed_names, renamed_term, renamed_terms, replacing_test, expanded, expanded_members, expansion_within}
use Rattle.definition_expansion.specs.WellUsed.{IsFree, IsUse, IsTest, no_use, use_of, IsBare, no_bare_use, bare_use, UsesWell, MembersUseWell, AreRanked}
use Rattle.definition_expansion.specs.Reaching.{Among, first, later}
use Rattle.tsl_terms.specs.declared.names.NameKind.{NameKind}
use Rattle.tsl_terms.specs.declared.names.NameKind.TheVariants.{Signal, Function, Predicate}
use Rattle.definition_expansion.specs.Occurrences.{NameUses, count_of, TermOccurs, TermsOccur, Occurs, MembersOccur, AreSignals, Plain, MembersPlain, InBody}
use Rattle.definition_expansion.proofs.BareTerms.{alone_terms, passed_are}
use Rattle.definition_expansion.proofs.TextLaws.{expansion_none, none_put, use_renamed, Renames, passing_renames, alone_stays, formula_below}

-- ---- renaming

module _ (P Q : NameUses) (stands_for : List ℕ → List ℕ) (to : (x : List ℕ) (k : NameKind) (n : ℕ) → P x k n → Q (stands_for x) k n) where
  count_same : (ts : TermsSyntax) → count_of (renamed_terms stands_for ts) ≡ count_of ts
  count_same no_terms = refl
  count_same (more_terms t ts) = ap suc (count_same ts)

  mutual
    term_occurs : (t : TermSyntax) → TermOccurs P t → TermOccurs Q (renamed_term stands_for t)
    term_occurs (alone x) h = to x Signal 0 h
    term_occurs (applied f ts) h =
        (subst (λ n. Q (stands_for f) Function n) (sym (count_same ts)) (to f Function (count_of ts) h.0), terms_occur ts h.1)
    term_occurs (grouped_term t) h = term_occurs t h

    terms_occur : (ts : TermsSyntax) → TermsOccur P ts → TermsOccur Q (renamed_terms stands_for ts)
    terms_occur no_terms h = tt
    terms_occur (more_terms t ts) h = (term_occurs t h.0, terms_occur ts h.1)

  signals_stay : (ys : List (List ℕ)) → AreSignals P ys → AreSignals Q (map stands_for ys)
  signals_stay [] h = tt
  signals_stay (y ∷ ys) h = (to y Signal 0 h.0, signals_stay ys h.1)

-- passed names are signals
alone_signals : (P : NameUses) (ys : List (List ℕ)) → TermsOccur P (alone_terms ys) → AreSignals P ys
alone_signals P [] h = tt
alone_signals P (y ∷ ys) h = (h.0, alone_signals P ys h.1)

-- ---- a name of a body, with names passed for the parameters

not_first : (p x : List ℕ) (ps : List (List ℕ)) → bytes_eq p x ≡ false → (Among x ps → ⊥) → Among x (p ∷ ps) → ⊥
not_first p x ps away deny first =
    let e : bytes_eq p p ≡ true = (bytes_eq-Decides p p).1 refl in
    let clash : true ≡ false = sym e ∙ away in
    cc
not_first p x ps away deny (later m) = deny m

by_parameter : (P : NameUses) (ps ys : List (List ℕ)) → length ys ≡ length ps → AreSignals P ys →
    (x : List ℕ) (kind : NameKind) (arity : ℕ) →
    InBody P ps x kind arity → P (passed ps ys x) kind arity
by_parameter P [] ys e h x kind arity k = k.1 none
  where
    none : Among x [] → ⊥
    none m = elim m [ ]
by_parameter P (p ∷ ps) [] e h x kind arity k = cc
by_parameter P (p ∷ ps) (y ∷ ys) e h x kind arity k =
    let few : length ys ≡ length ps = cc in
    by_test (bytes_eq p x) refl (λ rest. by_parameter P ps ys few h.1 x kind arity rest)
  where
    by_test : (b : Bool) → bytes_eq p x ≡ b → (InBody P ps x kind arity → P (passed ps ys x) kind arity) →
        P (if b then y else passed ps ys x) kind arity
    by_test true same rest =
        let e : p ≡ x = (bytes_eq-Decides p x).0 same in
        let there : Among x (p ∷ ps) = subst (λ z. Among z (p ∷ ps)) e first in
        rw ((k.0 there).0, (k.0 there).1) h.0
    by_test false other rest = rest (inner other)
      where
        inner : bytes_eq p x ≡ false → InBody P ps x kind arity
        inner away = ((λ m. k.0 (later m)), (λ deny. k.1 (not_first p x ps away deny)))

-- ---- expansions

module _ (named : List ℕ → Option Definition) (rank : List ℕ → ℕ) (P : NameUses) where
  abbrev PutsPlain : ℕ → Type 0
  PutsPlain n = (x : List ℕ) (ys : List (List ℕ)) → IsUse named rank n x ys → AreSignals P ys →
      (f : FormulaSyntax) × (expansion_within named n x ys ≡ Some f) × Occurs P f

  module _ (n : ℕ) (puts : PutsPlain n) (stands_for : List ℕ → List ℕ) (renames : Renames named rank stands_for) (Q : NameUses)
      (to : (x : List ℕ) (k : NameKind) (m : ℕ) → Q x k m → P (stands_for x) k m) where
    put_occurs : (o q : Option FormulaSyntax) (a : FormulaSyntax) → o ≡ q → Occurs P (put_for q a) → Occurs P (put_for o a)
    put_occurs o q a is h = subst (λ f. Occurs P (put_for f a)) (sym is) h

    bare_occurs : (x : List ℕ) → IsBare named rank n x → (IsFree named rank x → Q x Signal 0) →
        Occurs P (put_for (expansion_within named n x []) (bare (stands_for x)))
    bare_occurs x (no_bare_use away) h = put_occurs _ None (bare (stands_for x)) (expansion_none named rank n x [] away) (to x Signal 0 (h away))
    bare_occurs x (bare_use u) h =
        let p = puts x [] u tt in
        put_occurs _ (Some p.0) (bare (stands_for x)) p.1 p.2

    test_occurs : (p : List ℕ) (ts : TermsSyntax) → IsTest named rank n p ts →
        (IsFree named rank p → Q p Predicate (count_of ts)) → TermsOccur Q ts →
        Occurs P (put_for (replacing_test (expansion_within named n) stands_for p (passed_names ts))
        (tested (stands_for p) (renamed_terms stands_for ts)))
    test_occurs p ts (no_use away terms) h k =
        put_occurs _ None (tested (stands_for p) (renamed_terms stands_for ts)) (none_put named rank n stands_for p (passed_names ts) away) (
          subst (P (stands_for p) Predicate) (sym (count_same Q P stands_for to ts)) (to p Predicate (count_of ts) (h away)),
          terms_occur Q P stands_for to ts k,
        )
    test_occurs p ts (use_of ys is u) h k =
        let signals = signals_stay Q P stands_for to ys (alone_signals Q ys (subst (TermsOccur Q) (passed_are ts ys is) k)) in
        let q = puts p (map stands_for ys) (use_renamed named rank stands_for renames n p ys u) signals in
        put_occurs _ (Some q.0) (tested (stands_for p) (renamed_terms stands_for ts))
        (ap (replacing_test (expansion_within named n) stands_for p) is ∙ q.1) q.2

    mutual
      pub expanded_occurs : (a : FormulaSyntax) → UsesWell named rank n a → Plain Q named rank a →
          Occurs P (expanded (expansion_within named n) stands_for a)
      expanded_occurs truth w h = tt
      expanded_occurs falsehood w h = tt
      expanded_occurs (bare x) w h = bare_occurs x w h
      expanded_occurs (tested p ts) w h = test_occurs p ts w h.0 h.1
      expanded_occurs (updated x t) w h = (to x Signal 0 h.0, term_occurs Q P stands_for to t h.1)
      expanded_occurs (grouped a) w h = expanded_occurs a w h
      expanded_occurs (under op a) w h = expanded_occurs a w h
      expanded_occurs (between op a b) w h = (expanded_occurs a w.0 h.0, expanded_occurs b w.1 h.1)
      expanded_occurs (joined op fs) w h = members_occur fs w h

      members_occur : (fs : FormulasSyntax) → MembersUseWell named rank n fs → MembersPlain Q named rank fs →
          MembersOccur P (expanded_members (expansion_within named n) stands_for fs)
      members_occur no_formulas w h = tt
      members_occur (more_formulas f fs) w h = (expanded_occurs f w.0 h.0, members_occur fs w.1 h.1)

  -- where each use in a body is such, or is one of a parameter as a signal, each use in its expansion is such
  pub puts_plain : AreRanked named rank → ((x : List ℕ) (d : Definition) → named x ≡ Some d →
      Plain (InBody P d.parameters) named rank d.body) →
      (n : ℕ) → PutsPlain n
  puts_plain ranked bodies zero x ys u signals = absurd (omega (arith, u.is_lower))
  puts_plain ranked bodies (suc n) x ys u signals =
      let d = u.definition in
      let g = expanded (expansion_within named n) (passed d.parameters ys) d.body in (
        grouped g,
        ap (option_map (λ k. grouped (expanded (expansion_within named n) (passed k.parameters ys) k.body))) u.defined,
        expanded_occurs n (puts_plain ranked bodies n) (passed d.parameters ys)
            (passing_renames named rank d.parameters ys (ranked.parameters x d u.defined) u.free_names) (InBody P d.parameters)
            (by_parameter P d.parameters ys u.as_many signals) d.body
            (formula_below named rank (rank x) n (omega (arith, u.is_lower)) d.body (ranked.bodies x d u.defined)) (bodies x d u.defined),
      )

  -- and each use in the expansion of a formula is such where it is in the formula
  pub no_new_use : AreRanked named rank → ((x : List ℕ) (d : Definition) → named x ≡ Some d →
      Plain (InBody P d.parameters) named rank d.body) →
      (n : ℕ) (a : FormulaSyntax) → UsesWell named rank n a → Plain P named rank a →
      Occurs P (expanded (expansion_within named n) (λ x. x) a)
  no_new_use ranked bodies n a well plain =
      expanded_occurs n (puts_plain ranked bodies n) (λ x. x) (alone_stays named rank) P (λ x k m h. h) a well plain
