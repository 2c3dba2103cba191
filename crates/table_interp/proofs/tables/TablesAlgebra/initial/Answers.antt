use Rattle.std.proofs.Common.{ap, sym, ◌∙◌}
use Rattle.std.specs.Prelude.{option_copied}
use Rattle.tsl_terms.specs.Value.{beside}
use Rattle.table_interp.specs.Meaning.{TablesMeaning}
use Rattle.table_interp.proofs.Lookups.{beside_lookup, copied_some}
use Rattle.table_interp.proofs.tables.TablesAlgebra.initial.Goals as goal

pub unwrap-requires : goal.unwrap-requires
unwrap-requires c =
    copied_some c.get.result _
    (c.get.ensures.value ∙ sym (beside_lookup c.args.cell c.self.inside.initial.entries)
    ∙ ap (λ (t : TablesMeaning). beside c.args.cell t.cells t.interpretation.initial) c.self.view_is)
    c.requires.had

pub returns-clause-value : goal.returns-clause-value
returns-clause-value c =
    sym (c.get.ensures.value ∙ sym (beside_lookup c.args.cell c.self.inside.initial.entries)
    ∙ ap (λ (t : TablesMeaning). beside c.args.cell t.cells t.interpretation.initial) c.self.view_is)
    ∙ ap option_copied c.unwrap.ensures
