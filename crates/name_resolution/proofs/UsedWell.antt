-- Where no name of a formula is wrong, each defined name stands in uses alone.
use Rattle.std.proofs.Common.{◌≡◌, ℕ, suc, ◌<◌, Bool, true, false, not, List, [], ◌∷◌, length, refl, ap, sym, ◌∙◌, inl, inr, ⊎_elim}
use Rattle.std.specs.Prelude.{◌&&◌, ◌⊎◌, ◌==◌, Option, Some, None, option_map, if◌then◌else◌}
use Rattle.std.specs.List.{list_all, AllByRecursion}
use Rattle.std.specs.Option.{is_some, option_map_or}
use Rattle.std.proofs.lemmas.Bool.{and_parts, not-true, not-false, eqb-true}
use Rattle.base_library.proofs.Options.{some_is, none_is}
use Rattle.base_library.proofs.Each.{each_left, each_right}
use Rattle.tsl_terms.specs.declared.names.NameKind.TheVariants.{Predicate}
use Rattle.tsl_terms.specs.Name.{Name}
use Rattle.tsl_terms.specs.Clashes.{same_arity}
use Rattle.spec_syntax.specs.Syntax.{TermSyntax, alone, applied, grouped_term, TermsSyntax, no_terms, more_terms}
use Rattle.spec_syntax.specs.Syntax.{FormulaSyntax, truth, falsehood, bare, tested, updated, grouped, under, between}
use Rattle.spec_syntax.specs.Syntax.{joined, FormulasSyntax, no_formulas, more_formulas, Definition}
use Rattle.definition_expansion.specs.Expansion.{passed_names}
use Rattle.definition_expansion.specs.Occurrences.{count_of}
use Rattle.definition_expansion.specs.UseLevels.{At, level_of_right, test_at, uses_at, members_uses_at}
use Rattle.definition_expansion.specs.WellUsed.{IsFree, AreFree, IsFreeTerm, AreFreeTerms, IsUse, IsTest, no_use, use_of, IsBare, no_bare_use, bare_use}
use Rattle.definition_expansion.specs.WellUsed.{UsesWell, MembersUseWell}
use Rattle.name_resolution.specs.declared.occurrence.Role.{Role}
use Rattle.name_resolution.specs.declared.occurrence.Role.TheVariants.{Plain, Parameter, Head, Redefined, Used, Misused}
use Rattle.name_resolution.specs.Heads.{head_of}
use Rattle.name_resolution.specs.Occurrences.{Occurrence, Scope, role_in, atom_role, occurrence, occurrence_alone, term_occurrences}
use Rattle.name_resolution.specs.Occurrences.{terms_occurrences, formula_occurrences, members_occurrences}
use Rattle.name_resolution.specs.Faults.{name_of, name_with, is_unlike_name, kind_fault_as, arity_fault_as}
use Rattle.name_resolution.specs.WellDeclared.{used_well_as, is_used_well}
use Rattle.definition_expansion.proofs.BareTerms.{alone_terms, passed_are}

-- a name without a fault of its kind or its number of names is used well
pub well_from : (role : Role) (o : Occurrence) (passes_others differs_in_kind differs_in_arity : Bool) →
    kind_fault_as role o differs_in_kind ≡ false → arity_fault_as role o passes_others differs_in_arity ≡ false →
    used_well_as role passes_others ≡ true
well_from Misused o u k a kind arity = sym kind
well_from Used o u k a kind arity = ap not arity
well_from Plain o u k a kind arity = refl
well_from Parameter o u k a kind arity = refl
well_from Head o u k a kind arity = refl
well_from Redefined o u k a kind arity = refl

-- a use passes as many names as it has arguments
alone_count : (ys : List (List ℕ)) → length ys ≡ count_of (alone_terms ys)
alone_count [] = refl
alone_count (y ∷ ys) = ap suc (alone_count ys)

passed_count : (ts : TermsSyntax) (ys : List (List ℕ)) → passed_names ts ≡ Some ys → length ys ≡ count_of ts
passed_count ts ys h = alone_count ys ∙ ap count_of (sym (passed_are ts ys h))

module _ (named : List ℕ → Option Definition) (rank : List ℕ → ℕ) (heads : List Name) (s : Scope) (same : (x : List ℕ) → s.is_defined x ≡ is_some (named x)) (heads_are : (x : List ℕ) → name_with heads x ≡ option_map head_of (named x)) where
  abbrev Well : Occurrence → Type 0
  Well o = is_used_well heads o ≡ true

  -- a name that is no use is not defined
  pub free_name : (x : List ℕ) (other : Bool) → used_well_as (role_in s x) other ≡ true → IsFree named rank x
  free_name x other h = by (s.is_defined x) refl h where
    by : (defined : Bool) → s.is_defined x ≡ defined →
        used_well_as (if defined then Misused else (if s.is_parameter x then Parameter else Plain)) other ≡ true → IsFree named rank x
    by true is g = cc
    by false is g = none_is (named x) (sym (same x) ∙ is)

  free_names : (ys : List (List ℕ)) → list_all (λ y. not (s.is_defined y)) ys ≡ true → AreFree named rank ys
  free_names [] h = tt
  free_names (y ∷ ys) h =
      let parts = and_parts (not (s.is_defined y)) (list_all (λ z. not (s.is_defined z)) ys) h in
      (none_is (named y) (sym (same y) ∙ not-true (s.is_defined y) parts.0), free_names ys parts.1)

  mutual
    free_term : (level : ℕ) (t : TermSyntax) → AllByRecursion Well (term_occurrences s level t) → IsFreeTerm named rank t
    free_term level (alone x) h = free_name x _ h.0
    free_term level (applied f ts) h = (free_name f _ h.0, free_terms level ts h.1)
    free_term level (grouped_term t) h = free_term level t h

    free_terms : (level : ℕ) (ts : TermsSyntax) → AllByRecursion Well (terms_occurrences s level ts) → AreFreeTerms named rank ts
    free_terms level no_terms h = tt
    free_terms level (more_terms t ts) h = (
      free_term level t (each_left Well (term_occurrences s level t) (terms_occurrences s level ts) h),
      free_terms level ts (each_right Well (term_occurrences s level t) (terms_occurrences s level ts) h),
    )

  -- a use of a defined name, with as many names as it has parameters
  use_as : (below : ℕ) (x : List ℕ) (ys : List (List ℕ)) (o : Occurrence) → o.text ≡ x → o.arity ≡ length ys →
      s.is_defined x ≡ true → AreFree named rank ys → not (is_unlike_name same_arity heads o) ≡ true →
      (is_some (named x) ≡ true → rank x < below) → IsUse named rank below x ys
  use_as below x ys o text arity defined free as_many falls =
      let found = some_is (named x) (sym (same x) ∙ defined) in
      let d = found.0 in
      let there : name_with heads o.text ≡ Some (head_of d) = ap (name_with heads) text ∙ heads_are x ∙ ap (option_map head_of) found.1 in
      let like : (length d.parameters == o.arity) ≡ true =
      not-false (length d.parameters == o.arity)
      (sym (ap (λ f. option_map_or (λ n. not (same_arity n (name_of o))) f false) there)
      ∙ not-true (is_unlike_name same_arity heads o) as_many) in
      record {
        definition = d;
        defined = found.1;
        is_lower = falls (ap is_some found.1);
        as_many = sym (eqb-true (length d.parameters) o.arity like ∙ arity);
        free_names = free;
      }

  -- an atom that passes names is a use, or it has no defined name
  atom_well : (below : ℕ) (x : List ℕ) (ys : List (List ℕ)) (o : Occurrence) → o.text ≡ x → o.arity ≡ length ys →
      used_well_as (atom_role s x (Some ys)) (is_unlike_name same_arity heads o) ≡ true → (is_some (named x) ≡ true → rank x < below) →
      IsFree named rank x ⊎ IsUse named rank below x ys
  atom_well below x ys o text arity h falls = by (s.is_defined x) (list_all (λ y. not (s.is_defined y)) ys) refl refl h where
    by : (defined frees : Bool) → s.is_defined x ≡ defined → list_all (λ y. not (s.is_defined y)) ys ≡ frees →
        used_well_as (if defined && frees then Used else role_in s x) (is_unlike_name same_arity heads o) ≡ true →
        IsFree named rank x ⊎ IsUse named rank below x ys
    by true true is frees g = inr (use_as below x ys o text arity is (free_names ys frees) g falls)
    by true false is frees g = inl (free_name x _ g)
    by false all is frees g = inl (free_name x _ g)

  test_well : (below level : ℕ) (p : List ℕ) (ts : TermsSyntax) (passed : Option (List (List ℕ))) → passed_names ts ≡ passed →
      Well (occurrence s level (atom_role s p passed) Predicate (count_of ts) p) → AreFreeTerms named rank ts →
      AllByRecursion (λ u. is_some (named u.name) ≡ true → rank u.name < below) (test_at level p passed) →
      IsTest named rank below p ts
  test_well below level p ts None e h free falls = no_use (free_name p _ h) free
  test_well below level p ts (Some ys) e h free falls =
      ⊎_elim (λ away. no_use away free) (λ u. use_of ys e u)
      (atom_well below p ys (occurrence s level (atom_role s p (Some ys)) Predicate (count_of ts) p) refl (sym (passed_count ts ys e)) h falls.0)

  bare_well : (below level : ℕ) (x : List ℕ) → Well (occurrence_alone s level x) → (is_some (named x) ≡ true → rank x < below) →
      IsBare named rank below x
  bare_well below level x h falls =
      ⊎_elim (λ away. no_bare_use away) (λ u. bare_use u) (atom_well below x [] (occurrence_alone s level x) refl refl h falls)

  abbrev Below : ℕ → At → Type 0
  Below below u = is_some (named u.name) ≡ true → rank u.name < below

  mutual
    pub uses_well : (below level : ℕ) (a : FormulaSyntax) → AllByRecursion Well (formula_occurrences s level a) →
        AllByRecursion (Below below) (uses_at level a) → UsesWell named rank below a
    uses_well below level truth h falls = tt
    uses_well below level falsehood h falls = tt
    uses_well below level (bare x) h falls = bare_well below level x h.0 falls.0
    uses_well below level (tested p ts) h falls = test_well below level p ts (passed_names ts) refl h.0 (free_terms level ts h.1) falls
    uses_well below level (updated x t) h falls = (free_name x _ h.0, free_term level t h.1)
    uses_well below level (grouped a) h falls = uses_well below (suc level) a h falls
    uses_well below level (under op a) h falls = uses_well below (suc level) a h falls
    uses_well below level (between op a b) h falls =
        let right = level_of_right op level in (
          uses_well below level a (each_left Well (formula_occurrences s level a) (formula_occurrences s right b) h)
              (each_left (Below below) (uses_at level a) (uses_at right b) falls),
          uses_well below right b (each_right Well (formula_occurrences s level a) (formula_occurrences s right b) h)
              (each_right (Below below) (uses_at level a) (uses_at right b) falls),
        )
    uses_well below level (joined op fs) h falls = members_use_well below level fs h falls

    members_use_well : (below level : ℕ) (fs : FormulasSyntax) → AllByRecursion Well (members_occurrences s level fs) →
        AllByRecursion (Below below) (members_uses_at level fs) → MembersUseWell named rank below fs
    members_use_well below level no_formulas h falls = tt
    members_use_well below level (more_formulas f fs) h falls = (
      uses_well below level f (each_left Well (formula_occurrences s level f) (members_occurrences s level fs) h)
          (each_left (Below below) (uses_at level f) (members_uses_at level fs) falls),
      members_use_well below level fs (each_right Well (formula_occurrences s level f) (members_occurrences s level fs) h)
          (each_right (Below below) (uses_at level f) (members_uses_at level fs) falls),
    )
