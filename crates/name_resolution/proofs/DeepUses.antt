-- Where no use of a formula is too deep, its uses are within the deepest level.
use Rattle.std.proofs.Common.{◌≡◌, ℕ, suc, ◌+◌, Bool, true, false, not, List, [], refl, ap}
use Rattle.std.specs.Prelude.{◌&&◌, Option, Some, None, option_and_then, slice_get, if◌then◌else◌}
use Rattle.std.specs.List.{list_all, AllByRecursion}
use Rattle.std.proofs.lemmas.Bool.{ltb-false}
use Rattle.base_library.proofs.Options.{none_is}
use Rattle.base_library.proofs.Each.{each_left, each_right}
use Rattle.tsl_terms.specs.declared.names.NameKind.TheVariants.{Predicate}
use Rattle.tsl_terms.specs.Name.{Name, number_of}
use Rattle.spec_syntax.specs.Syntax.{FormulaSyntax, truth, falsehood, bare, tested, updated, grouped, under, between}
use Rattle.spec_syntax.specs.Syntax.{joined, FormulasSyntax, no_formulas, more_formulas}
use Rattle.definition_expansion.specs.Expansion.{passed_names}
use Rattle.definition_expansion.specs.Occurrences.{count_of}
use Rattle.definition_expansion.specs.UseLevels.{level_of_right, test_at, uses_at, members_uses_at, IsUseWithin, AreWithin}
use Rattle.name_resolution.specs.declared.occurrence.Role.TheVariants.{Plain, Parameter, Used, Misused}
use Rattle.name_resolution.specs.Heads.{is_name}
use Rattle.name_resolution.specs.Occurrences.{Occurrence, Scope, of_section, role_in, atom_role, occurrence}
use Rattle.name_resolution.specs.Occurrences.{formula_occurrences, members_occurrences}
use Rattle.name_resolution.specs.Faults.{deepest_level, levels_for, passes_deepest, is_deep_use}
use Rattle.name_resolution.specs.WellDeclared.{used_well_as, is_used_well}
use Rattle.definition_expansion.proofs.LevelLaws.{both_within}

within_from : (level : ℕ) (found : Option ℕ) → passes_deepest level found ≡ false → IsUseWithin deepest_level level found
within_from level None h = tt
within_from level (Some n) h = ltb-false deepest_level (level + n) h

module _ (heads : List Name) (levels : List ℕ) where
  -- a name is used well, and is no use that is too deep
  abbrev pub IsShallow : Occurrence → Type 0
  IsShallow o = (is_deep_use heads levels o ≡ false) × (is_used_well heads o ≡ true)

  abbrev s : Scope
  s = of_section heads

  abbrev needs : List ℕ → Option ℕ
  needs = levels_for heads levels

  no_need : (level : ℕ) (x : List ℕ) → is_name heads x ≡ false → IsUseWithin deepest_level level (needs x)
  no_need level x h = by (needs x) (ap (option_and_then (slice_get levels)) (none_is (number_of heads x) h)) where
    by : (found : Option ℕ) → found ≡ None → IsUseWithin deepest_level level found
    by None e = tt
    by (Some n) e = cc

  misused : (x : List ℕ) (other : Bool) → is_name heads x ≡ true → used_well_as (role_in s x) other ≡ true → ⊥
  misused x other is h = by (is_name heads x) is h where
    by : (defined : Bool) → defined ≡ true → used_well_as (if defined then Misused else (if false then Parameter else Plain)) other ≡ true → ⊥
    by true is g = cc
    by false is g = cc

  test_within : (level n : ℕ) (p : List ℕ) (passed : Option (List (List ℕ))) →
      IsShallow (occurrence s level (atom_role s p passed) Predicate n p) → AreWithin deepest_level needs (test_at level p passed)
  test_within level n p None h = tt
  test_within level n p (Some ys) h = (by (is_name heads p) (list_all (λ y. not (is_name heads y)) ys) refl h.0 h.1, tt) where
    by : (defined frees : Bool) → is_name heads p ≡ defined →
        is_deep_use heads levels (occurrence s level (if defined && frees then Used else role_in s p) Predicate n p) ≡ false →
        is_used_well heads (occurrence s level (if defined && frees then Used else role_in s p) Predicate n p) ≡ true →
        IsUseWithin deepest_level level (needs p)
    by true true is g w = within_from level (needs p) g
    by true false is g w = absurd (misused p _ is w)
    by false frees is g w = no_need level p is

  mutual
    pub uses_within : (level : ℕ) (a : FormulaSyntax) → AllByRecursion IsShallow (formula_occurrences s level a) →
        AreWithin deepest_level needs (uses_at level a)
    uses_within level truth h = tt
    uses_within level falsehood h = tt
    uses_within level (bare x) h = test_within level 0 x (Some []) h.0
    uses_within level (tested p ts) h = test_within level (count_of ts) p (passed_names ts) h.0
    uses_within level (updated x t) h = tt
    uses_within level (grouped a) h = uses_within (suc level) a h
    uses_within level (under op a) h = uses_within (suc level) a h
    uses_within level (between op a b) h =
        let left = formula_occurrences s level a in
        let right = formula_occurrences s (level_of_right op level) b in
        both_within deepest_level needs (uses_at level a) (uses_at (level_of_right op level) b)
        (uses_within level a (each_left IsShallow left right h)) (uses_within (level_of_right op level) b (each_right IsShallow left right h))
    uses_within level (joined op fs) h = members_within level fs h

    members_within : (level : ℕ) (fs : FormulasSyntax) → AllByRecursion IsShallow (members_occurrences s level fs) →
        AreWithin deepest_level needs (members_uses_at level fs)
    members_within level no_formulas h = tt
    members_within level (more_formulas f fs) h =
        let left = formula_occurrences s level f in
        let right = members_occurrences s level fs in
        both_within deepest_level needs (uses_at level f) (members_uses_at level fs)
        (uses_within level f (each_left IsShallow left right h)) (members_within level fs (each_right IsShallow left right h))
