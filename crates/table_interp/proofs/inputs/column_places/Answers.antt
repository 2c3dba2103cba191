use Rattle.std.proofs.Common.{ℕ}
use Rattle.base_library.proofs.Results.{handed_on}
use Rattle.table_syntax.specs.View.{text_token_view, inputs_view}
use Rattle.entry_names.specs.Entries.{column_subject_of}
use Rattle.entry_names.proofs.Locate.{subjects_are}
use Rattle.table_interp.specs.Inputs.{HasRowCause}
use Rattle.table_interp.proofs.Columns.{whole_columns, column_cause}
use Rattle.table_interp.proofs.inputs.column_places.Goals as goal

pub returns-in_err-places-clause-cause : goal.returns-in_err-places-clause-cause
returns-in_err-places-clause-cause c =
    handed_on _ _ (λ e. (domain : ℕ) → HasRowCause c.args.names.now c.args.inputs.now (inputs_view c.args.given.now) domain e)
    c.from_residual.ensures.1
    (λ domain. column_cause c.args.names.now c.args.inputs.now c.requires.inputs (inputs_view c.args.given.now) domain _
    (rw (subjects_are column_subject_of text_token_view c.as_slice.result.now c.args.given.now.names.items c.as_slice.ensures.value)
    at c.in_err-places.ensures.fault))

pub returns-clause-whole : goal.returns-clause-whole
returns-clause-whole c =
    whole_columns c.args.names.now c.args.inputs.now c.requires.inputs (inputs_view c.args.given.now)
    (rw (subjects_are column_subject_of text_token_view c.as_slice.result.now c.args.given.now.names.items c.as_slice.ensures.value)
    at c.in_ok-places.ensures.whole)

pub returns-clause-located : goal.returns-clause-located
returns-clause-located c =
    rw (subjects_are column_subject_of text_token_view c.as_slice.result.now c.args.given.now.names.items c.as_slice.ensures.value)
    at c.in_ok-places.ensures.located
