-- What derives with some levels left derives with more: it is read so, and what is read derives.
use Rattle.std.proofs.Common.{ℕ, ◌≤◌, List}
use Rattle.reader_combinators.proofs.Whole.{lifted}
use Rattle.spec_syntax.specs.Syntax.{Terminal, FormulaSyntax, SectionSyntax}
use Rattle.spec_syntax.specs.Grammar.{IsFormula, IsSection, AreSections}
use Rattle.spec_syntax.specs.Reading.{lower}
use Rattle.spec_syntax.proofs.ExactFormulas.{formula_exact, below_exact}
use Rattle.spec_syntax.proofs.ExactSections.{section_exact, sections_exact}

pub lift_formula : {levels_left r : ℕ} {xs : List Terminal} {f : FormulaSyntax} → levels_left ≤ r → IsFormula levels_left xs f →
    IsFormula r xs f
lift_formula {levels_left = levels_left} {r = r} {xs = xs} {f = f} few h =
    lifted (formula_exact r (lower r) (below_exact r)) levels_left few xs f h

pub lift_section : {levels_left r : ℕ} {xs : List Terminal} {s : SectionSyntax} → levels_left ≤ r → IsSection levels_left xs s →
    IsSection r xs s
lift_section {levels_left = levels_left} {r = r} {xs = xs} {s = s} few h = lifted (section_exact r) levels_left few xs s h

pub lift_sections : {levels_left r : ℕ} {xs : List Terminal} {ss : List SectionSyntax} → levels_left ≤ r → AreSections levels_left xs ss →
    AreSections r xs ss
lift_sections {levels_left = levels_left} {r = r} {xs = xs} {ss = ss} few h = lifted (sections_exact r) levels_left few xs ss h
