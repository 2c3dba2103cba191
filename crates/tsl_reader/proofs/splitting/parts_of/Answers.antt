use Rattle.std.proofs.Common.{map, refl, arith}
use Rattle.spec_syntax.specs.Syntax.{sections_among}
use Rattle.name_resolution.specs.Heads.{definitions_in}
use Rattle.tsl_reader.specs.ReadText.{with_names_once}
use Rattle.tsl_reader.proofs.Splits.{sections_of_each, definitions_of_each, one_taken, few_left, all_taken}
use Rattle.tsl_reader.proofs.splitting.parts_of.Goals as goal

pub add_declaration-requires : goal.add_declaration-requires
add_declaration-requires c = (few_left _ _ c.in-Some.ensures.items c.loop-declaration.invariant.few).1

pub loop-declaration-preserved : goal.loop-declaration-preserved
loop-declaration-preserved c = record {
  sections = one_taken _ _ c.in-Some.ensures.items sections_among sections_of_each _ _ c.in_ok-add_declaration.ensures.sections
      c.loop-declaration.invariant.sections;
  definitions = one_taken _ _ c.in-Some.ensures.items (λ ds. map with_names_once (definitions_in ds)) definitions_of_each _ _
      c.in_ok-add_declaration.ensures.definitions c.loop-declaration.invariant.definitions;
  few = (few_left _ _ c.in-Some.ensures.items c.loop-declaration.invariant.few).0;
}

pub returns-clause-sections : goal.returns-clause-sections
returns-clause-sections c =
    let left = c.loop-declaration.declarations in
    let fits = left.ok in
    all_taken sections_among refl left.items (omega (arith, c.in_default.ensures.cases.0, fits)) c.loop-declaration.invariant.sections

pub returns-clause-definitions : goal.returns-clause-definitions
returns-clause-definitions c =
    let left = c.loop-declaration.declarations in
    let fits = left.ok in
    all_taken (λ ds. map with_names_once (definitions_in ds)) refl left.items (omega (arith, c.in_default.ensures.cases.0, fits))
    c.loop-declaration.invariant.definitions
