use Rattle.std.proofs.Common.{Err, refl, ap}
use Rattle.automaton_text.specs.HoaView.{reader_state}
use Rattle.automaton_text.proofs.Found.{has_automaton, found_told, found_refused, form_refused}
use Rattle.automaton_text.proofs.HoaKept.{is_read, is_wrong}
use Rattle.automaton_text.proofs.HoaLive.{first_wrong_line}
use Rattle.automaton_text.proofs.reader.read_hoa.Goals as goal

pub found-requires : goal.found-requires
found-requires c =
    has_automaton c.args.text.now (reader_state c.read_text.new.reader)
    (is_read c.args.text.now (reader_state c.read_text.new.reader) (c.in-Ok.ensures.ok refl))

pub returns-in-Ok-clause-ok : goal.returns-in-Ok-clause-ok
returns-in-Ok-clause-ok c =
    found_told c.args.text.now (reader_state c.read_text.new.reader) c.found.result
    (is_read c.args.text.now (reader_state c.read_text.new.reader) (c.in-Ok.ensures.ok refl)) c.found.ensures.bits
    c.found.ensures.states
    c.found.ensures.edges c.found.ensures.small

pub returns-in-Ok-clause-refused : goal.returns-in-Ok-clause-refused
returns-in-Ok-clause-refused c error is =
    found_refused c.args.text.now (reader_state c.read_text.new.reader) c.found.result error
    (is_read c.args.text.now (reader_state c.read_text.new.reader) (c.in-Ok.ensures.ok refl)) c.found.ensures.refused is

pub returns-in-Err-Form-clause-refused : goal.returns-in-Err-Form-clause-refused
returns-in-Err-Form-clause-refused c error is =
    form_refused c.args.text.now c.in-Err-Form.line error
    (first_wrong_line c.args.text.now c.in-Err-Form.line
    (is_wrong c.args.text.now c.in-Err-Form.line (c.in-Err-Form.ensures.form c.in-Err-Form.line (ap Err c.in-Err-Form.field-0-is))))
    _ refl is
