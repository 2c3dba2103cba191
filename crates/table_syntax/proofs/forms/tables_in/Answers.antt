use Rattle.std.proofs.Common.{ap, ◌∙◌}
use Rattle.table_syntax.specs.View.{text_tokens_view}
use Rattle.table_syntax.proofs.Exactness.{tables_exact}
use Rattle.table_syntax.proofs.Faults.{tables_end, text_is_read, form_fault}
use Rattle.table_syntax.proofs.forms.tables_in.Goals as goal

pub returns-in-Ok-clause-read : goal.returns-in-Ok-clause-read
returns-in-Ok-clause-read c =
    text_is_read (tables_exact 0) tables_end c.args.text.now c.args.tokens.now c.deref.result.now _ _ c.requires.tokens
    (ap text_tokens_view c.deref.ensures.value ∙ c.in_ok-text_tokens.ensures) c.in-Ok.ensures.ok

pub returns-in-Err-Form-clause-fault : goal.returns-in-Err-Form-clause-fault
returns-in-Err-Form-clause-fault c =
    form_fault (tables_exact 0) tables_end c.args.text.now c.args.tokens.now c.deref.result.now c.in-Err-Form.left c.start_of.result
    c.requires.tokens (ap text_tokens_view c.deref.ensures.value ∙ c.in_ok-text_tokens.ensures)
    (rw c.in-Err-Form.field-0-is at c.in-Err-Form.ensures.fault) c.start_of.ensures
