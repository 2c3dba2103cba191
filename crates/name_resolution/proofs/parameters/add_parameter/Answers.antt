use Rattle.std.proofs.Common.{ap, sym, ◌∙◌}
use Rattle.std.specs.Prelude.{◌||◌}
use Rattle.std.specs.Option.{is_some}
use Rattle.std.proofs.lemmas.Result.{on_ok_weaker}
use Rattle.name_resolution.specs.Heads.{is_name}
use Rattle.name_resolution.proofs.NameTests.{name_added, when_found}
use Rattle.name_resolution.proofs.parameters.add_parameter.Goals as goal

pub returns-then-is_some-clause-repeated : goal.returns-then-is_some-clause-repeated
returns-then-is_some-clause-repeated c =
    on_ok_weaker c.add_name.result (λ added x. ap (λ ns. is_name ns x) added ∙ name_added c.args.repeated.now _ x
    ∙ ap (λ b. is_name c.args.repeated.now x || b)
    (sym (when_found c.args.names.now c.args.parameter.now x
    (ap is_some (sym c.find.ensures) ∙ sym c.is_some.ensures ∙ c.if-is_some.true)))) c.add_name.ensures.added

pub returns-else-is_some-clause-names : goal.returns-else-is_some-clause-names
returns-else-is_some-clause-names c =
    on_ok_weaker c.add_name-else-is_some.result (λ added x. ap (λ ns. is_name ns x) added ∙ name_added c.args.names.now _ x)
    c.add_name-else-is_some.ensures.added
