use Rattle.std.proofs.Common.{◌<◌, ◌^◌, suc, length, map, ap, sym, ◌∙◌, subst}
use Rattle.tsl_terms.specs.SpecView.{spec_tree}
use Rattle.spec_syntax.specs.SyntaxView.{section_syntax}
use Rattle.tsl_reader.specs.Naming.{all_uses, names_of, formulas_of_part}
use Rattle.tsl_reader.specs.Numbering.{HasNumbers}
use Rattle.tsl_reader.proofs.ExpandedTexts.{has_numbers}
use Rattle.tsl_reader.proofs.StageLemmas.{derives_spec}
use Rattle.tsl_reader.proofs.stages.derived_spec.Goals as goal

pub names_of_sections-requires : goal.names_of_sections-requires
names_of_sections-requires c =
    subst (λ rs. suc (length (all_uses (map section_syntax rs))) < 2 ^ 32) (sym c.deref-2.ensures.value)
    c.in_ok-sections.ensures.expanded.few

pub spec_of-requires : goal.spec_of-requires
spec_of-requires c part =
    let names = c.in_ok-names.ensures ∙ ap (λ rs. names_of (map section_syntax rs)) c.deref-2.ensures.value in
    subst (λ ns. HasNumbers ns (formulas_of_part part (map section_syntax c.deref-3.result.now))) (sym names)
    (subst (λ rs. HasNumbers (names_of (map section_syntax c.in_ok-sections.sections.items)) (formulas_of_part part (map section_syntax rs)))
    (sym c.deref-3.ensures.value)
    (has_numbers c.args.text.now (map section_syntax c.in_ok-sections.sections.items) c.in_ok-sections.ensures.expanded part))

pub returns-clause-derived : goal.returns-clause-derived
returns-clause-derived c =
    derives_spec c.args.text.now (map section_syntax c.in_ok-sections.sections.items) c.in_ok-names.names
    (spec_tree c.in_ok-spec.spec) c.in_ok-sections.ensures.expanded
    (c.in_ok-names.ensures ∙ ap (λ rs. names_of (map section_syntax rs)) c.deref-2.ensures.value) c.in_ok-spec.ensures.names
    (rw c.deref-3.ensures.value at c.in_ok-spec.ensures.assume_first) (rw c.deref-3.ensures.value at c.in_ok-spec.ensures.assume_always)
    (rw c.deref-3.ensures.value at c.in_ok-spec.ensures.guarantee_first)
    (rw c.deref-3.ensures.value at c.in_ok-spec.ensures.guarantee_always)
