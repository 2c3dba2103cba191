use Rattle.std.proofs.Common.{ap, ◌∙◌}
use Rattle.table_syntax.specs.View.{text_tokens_view}
use Rattle.table_syntax.proofs.WordExactness.{words_exact}
use Rattle.table_syntax.proofs.Faults.{words_end, text_is_read, form_fault}
use Rattle.table_syntax.proofs.forms.words_in.Goals as goal

pub returns-in-Ok-clause-read : goal.returns-in-Ok-clause-read
returns-in-Ok-clause-read c =
    text_is_read (words_exact 0) words_end c.args.text.now c.args.tokens.now c.deref.result.now _ _ c.requires.tokens
    (ap text_tokens_view c.deref.ensures.value ∙ c.in_ok-text_tokens.ensures) c.in-Ok.ensures.ok

pub returns-in-Err-Form-clause-fault : goal.returns-in-Err-Form-clause-fault
returns-in-Err-Form-clause-fault c =
    form_fault (words_exact 0) words_end c.args.text.now c.args.tokens.now c.deref.result.now c.in-Err-Form.left c.start_of.result
    c.requires.tokens (ap text_tokens_view c.deref.ensures.value ∙ c.in_ok-text_tokens.ensures)
    (rw c.in-Err-Form.field-0-is at c.in-Err-Form.ensures.fault) c.start_of.ensures
