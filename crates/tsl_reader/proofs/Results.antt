-- Formulas of sections whose uses the names know.
use Rattle.std.proofs.Common.{List, [], ◌∷◌}
use Rattle.std.specs.Prelude.{flat_map}
use Rattle.std.specs.List.{AllByRecursion}
use Rattle.base_library.proofs.Each.{each_left, each_right}
use Rattle.tsl_terms.specs.Name.{Name}
use Rattle.spec_syntax.specs.Syntax.{FormulaSyntax, SectionSyntax}
use Rattle.tsl_reader.specs.Naming.{uses, section_uses, all_uses}
use Rattle.tsl_reader.proofs.Shapes.{IsShaped}
use Rattle.tsl_reader.proofs.Known.{KnownUse}

-- a formula whose uses the names know
abbrev pub IsKnown : List Name → FormulaSyntax → Type 0
IsKnown names f = IsShaped f × AllByRecursion (KnownUse names) (uses f)

formulas_known : (names : List Name) (fs : List FormulaSyntax) → AllByRecursion IsShaped fs →
    AllByRecursion (KnownUse names) (flat_map uses fs) → AllByRecursion (IsKnown names) fs
formulas_known names [] h k = tt
formulas_known names (f ∷ fs) h k = (
  (h.0, each_left (KnownUse names) (uses f) (flat_map uses fs) k),
  formulas_known names fs h.1 (each_right (KnownUse names) (uses f) (flat_map uses fs) k),
)

pub sections_known : (names : List Name) (ss : List SectionSyntax) → AllByRecursion (λ s. AllByRecursion IsShaped s.formulas) ss →
    AllByRecursion (KnownUse names) (all_uses ss) →
    AllByRecursion (λ s. AllByRecursion (IsKnown names) s.formulas) ss
sections_known names [] h k = tt
sections_known names (s ∷ ss) h k = (
  formulas_known names s.formulas h.0 (each_left (KnownUse names) (section_uses s) (all_uses ss) k),
  sections_known names ss h.1 (each_right (KnownUse names) (section_uses s) (all_uses ss) k),
)
