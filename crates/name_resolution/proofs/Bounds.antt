-- How many names stand in heads, and how deep declarations that derive nest.
use Rattle.std.proofs.Common.{ℕ, ◌<◌, ◌≤◌, List, [], ◌∷◌, length, arith, length-append}
use Rattle.std.specs.List.{AllByRecursion}
use Rattle.tsl_terms.specs.Name.{Name}
use Rattle.tsl_terms.specs.Clashes.{with_uses}
use Rattle.spec_syntax.specs.Syntax.{Terminal, FormulaSyntax, SectionSyntax, Definition, Declaration, the_section, the_definition}
use Rattle.spec_syntax.specs.Grammar.{AreItems, nothing, last_item, item, IsSection, braces, IsDefinition, equation, AreDeclarations}
use Rattle.spec_syntax.specs.Grammar.{no_declaration, a_section, a_definition}
use Rattle.spec_syntax.specs.Levels.{depth}
use Rattle.spec_syntax.proofs.Written.{formula_fits}
use Rattle.name_resolution.specs.Heads.{head_names, heads_size}
use Rattle.name_resolution.specs.Occurrences.{declaration_occurrences, occurrences_behind, occurrences}
use Rattle.name_resolution.specs.WrittenNames.{IsBelowDepth}
use Rattle.name_resolution.proofs.Walks.{head_within}

heads_behind : (heads before : List Name) (ds : List Declaration) → heads_size ds ≤ length (occurrences_behind heads before ds)
heads_behind heads before [] = omega arith
heads_behind heads before (d ∷ ds) =
    omega (
      arith,
      head_within heads before d,
      heads_behind heads (with_uses before (head_names d)) ds,
      length-append (declaration_occurrences heads before d) (occurrences_behind heads (with_uses before (head_names d)) ds),
    )

pub heads_within : (heads : List Name) (ds : List Declaration) → heads_size ds ≤ length (occurrences heads ds)
heads_within heads ds = heads_behind heads [] ds

items_below : (most : ℕ) {levels_left : ℕ} {xs : List Terminal} {fs : List FormulaSyntax} → levels_left < most → AreItems levels_left xs fs →
    AllByRecursion (λ f. depth f < most) fs
items_below most few nothing = tt
items_below most few (last_item h) = (omega (arith, few, formula_fits h), tt)
items_below most few (item h k) = (omega (arith, few, formula_fits h), items_below most few k)

section_below : (most : ℕ) {levels_left : ℕ} {xs : List Terminal} {s : SectionSyntax} → levels_left < most → IsSection levels_left xs s → IsBelowDepth most (the_section s)
section_below most few (braces h k) = items_below most few k

definition_below : (most : ℕ) {levels_left : ℕ} {xs : List Terminal} {d : Definition} → levels_left < most → IsDefinition levels_left xs d →
    IsBelowDepth most (the_definition d)
definition_below most few (equation x ps h) = omega (arith, few, formula_fits h)

declarations_below : (most : ℕ) {levels_left : ℕ} {xs own : List Terminal} {ds : List Declaration} → levels_left < most → AreDeclarations levels_left xs own ds →
    AllByRecursion (IsBelowDepth most) ds
declarations_below most few no_declaration = tt
declarations_below most few (a_section h k) = (section_below most few h, declarations_below most few k)
declarations_below most few (a_definition h k) = (definition_below most few h, declarations_below most few k)

pub levels_below : (most levels_left : ℕ) (xs own : List Terminal) (ds : List Declaration) → levels_left < most → AreDeclarations levels_left xs own ds →
    AllByRecursion (IsBelowDepth most) ds
levels_below most levels_left xs own ds few h = declarations_below most few h
