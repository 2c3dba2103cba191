use Rattle.std.proofs.Common.{ap, sym, ◌∙◌}
use Rattle.base_library.proofs.Options.{some_is}
use Rattle.tsl_terms.specs.Name.{number_of}
use Rattle.definition_expansion.specs.declared.definitions.ReadDefinition.{ReadDefinition}
use Rattle.definition_expansion.proofs.HeadNames.{found_again}
use Rattle.definition_expansion.proofs.definitions.heads.Goals as goal

pub returns-then-is_some-clause-none : goal.returns-then-is_some-clause-none
returns-then-is_some-clause-none c =
    let names = c.loop-definition.names in
    let there = some_is c.find.result (sym c.is_some.ensures ∙ c.if-is_some.true) in
    found_again names c.args.definitions.now c.loop-definition.definition-index there.0 c.definition-item.result c.loop-definition-test.true
    c.loop-definition.invariant
    (ap (λ (d : ReadDefinition). number_of names d.name.now) (sym c.definition-item.is) ∙ sym c.find.ensures ∙ there.1)
