use Rattle.std.proofs.lemmas.Result.{IfOk-weaker}
use Rattle.std.proofs.lemmas.Result.{IfErr-weaker}
use Rattle.tsl_meaning.specs.Interpretation.{rows_of}
use Rattle.table_syntax.specs.View.{inputs_view}
use Rattle.table_interp.proofs.Loops.{are_loop}
use Rattle.table_syntax.proofs.Readings.{has_cycle}
use Rattle.base_library.proofs.Results.{handed_on}
use Rattle.table_interp.proofs.OneInputCause.{inputs_refused}
use Rattle.table_interp.proofs.Refusals.{input_form_cause, row_cause}
use Rattle.table_interp.proofs.read_inputs.Goals as goal

pub returns-in_err-given-clause-refused : goal.returns-in_err-given-clause-refused
returns-in_err-given-clause-refused c =
    handed_on _ _ _ c.from_residual.ensures.1 (inputs_refused c.args.text.now c.args.names.now c.args.inputs.now c.args.domain _
    (input_form_cause c.args.text.now c.args.names.now c.args.inputs.now c.args.domain _ c.in_err-given.ensures.fault))

pub returns-clause-rows : goal.returns-clause-rows
returns-clause-rows c =
    IfOk-weaker c.rows_from.result _ _ (λ rows gives.
    are_loop c.args.names.now c.args.inputs.now (inputs_view c.in_ok-given.given) c.args.domain (rows_of rows)
    (has_cycle c.args.text.now (inputs_view c.in_ok-given.given) c.in_ok-given.ensures.read) gives) c.rows_from.ensures.gives

pub returns-clause-refused : goal.returns-clause-refused
returns-clause-refused c =
    IfErr-weaker c.rows_from.result _ _ (λ e cause.
    inputs_refused c.args.text.now c.args.names.now c.args.inputs.now c.args.domain e
    (row_cause c.args.text.now c.args.names.now c.args.inputs.now c.args.domain (inputs_view c.in_ok-given.given)
    c.in_ok-given.ensures.read e cause)) c.rows_from.ensures.cause
