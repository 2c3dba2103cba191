-- Where the uses of a formula are within the deepest level, none of its names is a use that is too deep.
use Rattle.std.proofs.Common.{◌≡◌, ℕ, ◌+◌, ◌≤◌, Bool, true, false, not, List, [], ◌∷◌, refl, ap, ◌∙◌, arith}
use Rattle.std.specs.Prelude.{◌&&◌, Option, Some, None, nat_lt, if◌then◌else◌}
use Rattle.std.specs.List.{list_all, AllByRecursion}
use Rattle.std.proofs.Math.Bool.{and-false}
use Rattle.std.proofs.lemmas.Bool.{ltb-true}
use Rattle.base_library.proofs.Each.{each_weaker}
use Rattle.tsl_terms.specs.declared.names.NameKind.{NameKind}
use Rattle.tsl_terms.specs.declared.names.NameKind.TheVariants.{Signal, Function, Predicate}
use Rattle.spec_syntax.specs.Syntax.{FormulaSyntax}
use Rattle.definition_expansion.specs.UseLevels.{At, test_at, uses_at, IsUseWithin, AreWithin}
use Rattle.name_resolution.specs.declared.occurrence.Role.TheVariants.{Plain, Parameter, Used, Misused}
use Rattle.name_resolution.specs.Occurrences.{Occurrence, Scope, role_in, atom_role, occurrence}
use Rattle.name_resolution.specs.Occurrences.{formula_occurrences}
use Rattle.name_resolution.specs.Faults.{is_used, deepest_level, passes_deepest}
use Rattle.name_resolution.proofs.EachName.{each_used, each_name}

not_deep : (level : ℕ) (found : Option ℕ) → IsUseWithin deepest_level level found → passes_deepest level found ≡ false
not_deep level None h = refl
not_deep level (Some n) h = below deepest_level (level + n) h where
  below : (m k : ℕ) → k ≤ m → nat_lt m k ≡ false
  below m k few = by (nat_lt m k) refl where
    by : (b : Bool) → nat_lt m k ≡ b → b ≡ false
    by false e = refl
    by true e = absurd (omega (arith, few, ltb-true m k e))

module _ (needs : List ℕ → Option ℕ) (s : Scope) where
  abbrev IsUsedWithin : At → Type 0
  IsUsedWithin u = IsUseWithin deepest_level u.level (needs u.name)

  -- an occurrence is no use in a section that is too deep
  abbrev pub within : Occurrence → Bool
  within o = not (is_used o.role && (o.in_section && passes_deepest o.level (needs o.text)))

  abbrev pub IsWithin : Occurrence → Type 0
  IsWithin o = within o ≡ true

  no_use : (level : ℕ) (kind : NameKind) (arity : ℕ) (x : List ℕ) → within (occurrence s level (role_in s x) kind arity x) ≡ true
  no_use level kind arity x = by (s.is_defined x) (s.is_parameter x) where
    by : (defined parameter : Bool) →
        within (occurrence s level (if defined then Misused else (if parameter then Parameter else Plain)) kind arity x) ≡ true
    by true p = refl
    by false true = refl
    by false false = refl

  use_within : (level : ℕ) (x : List ℕ) → IsUseWithin deepest_level level (needs x) →
      not (s.in_section && passes_deepest level (needs x)) ≡ true
  use_within level x h =
      ap (λ b. not (s.in_section && b)) (not_deep level (needs x) h) ∙ ap not (and-false s.in_section)

  test_within : (level : ℕ) (p : List ℕ) (arity : ℕ) (passed : Option (List (List ℕ))) → AllByRecursion IsUsedWithin (test_at level p passed) →
      within (occurrence s level (atom_role s p passed) Predicate arity p) ≡ true
  test_within level p arity None h = no_use level Predicate arity p
  test_within level p arity (Some ys) h = by (s.is_defined p && list_all (λ y. not (s.is_defined y)) ys) where
    by : (used : Bool) → within (occurrence s level (if used then Used else role_in s p) Predicate arity p) ≡ true
    by true = use_within level p h.0
    by false = no_use level Predicate arity p

  -- where the uses of a formula are within the deepest level, so are its names
  pub names_within : (level : ℕ) (a : FormulaSyntax) → AreWithin deepest_level needs (uses_at level a) →
      AllByRecursion IsWithin (formula_occurrences s level a)
  names_within level a h = each_used s IsWithin IsUsedWithin (record {
    signal = λ l x. no_use l Signal 0 x;
    function = λ l n f. no_use l Function n f;
    atom = λ l x u. test_within l x 0 (Some []) (u, tt);
    test = λ l n p names us. test_within l p n names us;
  }) level a (each_use (uses_at level a) h)
    where
      each_use : (us : List At) → AreWithin deepest_level needs us → AllByRecursion IsUsedWithin us
      each_use [] k = tt
      each_use (u ∷ us) k = (k.0, each_use us k.1)

  -- outside of sections there is none
  pub other_within : (o : Occurrence) → o.in_section ≡ false → within o ≡ true
  other_within o e = ap (λ b. not (is_used o.role && (b && passes_deepest o.level (needs o.text)))) e ∙ ap not (and-false (is_used o.role))

  pub body_within : s.in_section ≡ false → (level : ℕ) (a : FormulaSyntax) → AllByRecursion IsWithin (formula_occurrences s level a)
  body_within outside level a =
      each_weaker _ _ (λ o e. other_within o (e ∙ outside)) (formula_occurrences s level a)
      (each_name s (λ o. o.in_section ≡ s.in_section) (record {
        signal = λ l x. refl;
        function = λ l n f. refl;
        atom = λ l x u. refl;
        test = λ l n p names us. refl;
      }) level a)
