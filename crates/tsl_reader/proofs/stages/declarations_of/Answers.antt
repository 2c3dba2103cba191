use Rattle.std.proofs.Common.{ap, ◌∙◌}
use Rattle.spec_syntax.specs.SyntaxView.{terminals_view}
use Rattle.tsl_reader.proofs.FormFaults.{derives, form_left, form_told, deep_left, deep_told}
use Rattle.tsl_reader.proofs.stages.declarations_of.Goals as goal

pub returns-in-Ok-clause-derived : goal.returns-in-Ok-clause-derived
returns-in-Ok-clause-derived c =
    derives c.requires.tokens (rw (ap terminals_view c.deref.ensures.value ∙ c.in_ok-terminals.ensures) at c.in-Ok.ensures)

pub start_of-requires-clause-left : goal.start_of-requires-clause-left
start_of-requires-clause-left c =
    form_left c.requires.tokens _
    (rw (c.in-Err-Form.field-0-is, ap terminals_view c.deref.ensures.value ∙ c.in_ok-terminals.ensures) at c.in-Err-Form.ensures)

pub returns-in-Err-Form-clause-cause : goal.returns-in-Err-Form-clause-cause
returns-in-Err-Form-clause-cause c =
    form_told c.requires.tokens _
    (rw (c.in-Err-Form.field-0-is, ap terminals_view c.deref.ensures.value ∙ c.in_ok-terminals.ensures) at c.in-Err-Form.ensures)
    c.start_of.ensures

pub start_of-requires-in-Err-Deep-clause-left : goal.start_of-requires-in-Err-Deep-clause-left
start_of-requires-in-Err-Deep-clause-left c =
    deep_left c.requires.tokens _
    (rw (c.in-Err-Deep.field-0-is, ap terminals_view c.deref.ensures.value ∙ c.in_ok-terminals.ensures) at c.in-Err-Deep.ensures)

pub returns-in-Err-Deep-clause-cause : goal.returns-in-Err-Deep-clause-cause
returns-in-Err-Deep-clause-cause c =
    deep_told c.requires.tokens _
    (rw (c.in-Err-Deep.field-0-is, ap terminals_view c.deref.ensures.value ∙ c.in_ok-terminals.ensures) at c.in-Err-Deep.ensures)
    c.start_of-in-Err-Deep.ensures
