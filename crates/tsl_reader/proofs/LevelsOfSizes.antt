-- A table of sizes has a table of levels, and by it those uses are too deep that are by the levels themselves: that a table counts
-- levels up to a bound alone tells no other.
use Rattle.std.proofs.Common.{◌≡◌, ℕ, min, List, map, ap, ◌∙◌, arith}
use Rattle.std.proofs.lemmas.Grind.{common_steps}
use Rattle.std.proofs.lemmas.Bool.Decides.{nat_tests}
use Rattle.std.specs.Prelude.{◌&&◌, Option, option_map, position}
use Rattle.std.proofs.lemmas.Option.{slice_get-map}
use Rattle.tsl_terms.specs.Name.{Name}
use Rattle.spec_syntax.specs.Syntax.{Definition}
use Rattle.definition_expansion.specs.declared.sizing.Size.{Size}
use Rattle.definition_expansion.specs.declared.sizing.TheConstants.{LEVELS_STOP}
use Rattle.definition_expansion.specs.Folds.{depths}
use Rattle.definition_expansion.specs.ExpansionSizes.{number_in, AreSizes}
use Rattle.name_resolution.specs.Occurrences.{Occurrence}
use Rattle.name_resolution.specs.Faults.{is_used, passes_deepest, is_deep_use}
use Rattle.name_resolution.specs.WellDeclared.{AreLevels, is_use_too_deep}

-- the levels of sizes
abbrev pub levels_of : List Size → List ℕ
levels_of sizes = map (λ s. s.levels) sizes

pub levels_are : (heads : List Name) (ds : List Definition) (sizes : List Size) → AreSizes heads ds sizes →
    AreLevels heads (levels_of sizes) ds
levels_are heads ds sizes are x = grind (arith, common_steps, are.levels x, slice_get-map)

stopped_passes : (level : ℕ) (found : Option ℕ) →
    passes_deepest level (option_map (min LEVELS_STOP) found) ≡ passes_deepest level found
stopped_passes level found = grind (arith, common_steps, nat_tests)

module _ (heads : List Name) (levels : List ℕ) (ds : List Definition) (are : AreLevels heads levels ds) where
  pub is_deep_by_levels : (o : Occurrence) → is_deep_use heads levels o ≡ is_use_too_deep ds o
  is_deep_by_levels o =
      ap (λ deep. is_used o.role && (o.in_section && deep))
      (ap (passes_deepest o.level) (are o.text) ∙ stopped_passes o.level (number_in depths ds o.text))

  -- and so the first such use is the same
  pub first_by_levels : (all : List Occurrence) → position (is_deep_use heads levels) all ≡ position (is_use_too_deep ds) all
  first_by_levels all = λ i. position (λ o. is_deep_by_levels o i) all
