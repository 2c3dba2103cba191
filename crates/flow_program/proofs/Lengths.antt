-- A text has at most two names for each use.
use Rattle.std.proofs.Common.{ℕ, suc, ◌+◌, ◌*◌, ◌≤◌, List, [], ◌∷◌, length, arith, length-append}
use Rattle.std.proofs.lemmas.Grind.{common_steps}
use Rattle.std.specs.Prelude.{Option, Some, None, flat_map}
use Rattle.tsl_terms.specs.Name.{number_of, Name as NameEntry}
use Rattle.tsl_terms.specs.Clashes.{added_unless_found, with_use, with_uses}
use Rattle.flow_program.specs.Uses.{ProgramUse, entries_of_use, names_after}

added_within : (names : List NameEntry) (u : NameEntry) (found : Option ℕ) → length (added_unless_found names u found) ≤ suc (length names)
added_within names u (Some n) = omega arith
added_within names u None = omega (arith, length-append names (u ∷ []))

with_uses_within : (us names : List NameEntry) → length (with_uses names us) ≤ length names + length us
with_uses_within [] names = omega arith
with_uses_within (u ∷ us) names = omega (arith, with_uses_within us (with_use names u), added_within names u (number_of names u.text))

named_within : (us : List ProgramUse) → length (flat_map entries_of_use us) ≤ 2 * length us
named_within [] = omega arith
named_within (u ∷ us) = grind (arith, common_steps, length-append (entries_of_use u) (flat_map entries_of_use us), named_within us)

pub names_within : (given : List NameEntry) (us : List ProgramUse) → length (names_after given us) ≤ length given + 2 * length us
names_within given us = omega (arith, with_uses_within (flat_map entries_of_use us) given, named_within us)
