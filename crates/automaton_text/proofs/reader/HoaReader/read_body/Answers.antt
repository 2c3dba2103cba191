use Rattle.std.proofs.Common.{◌∙◌, true, sym}
use Rattle.automaton_text.specs.HoaView.{reader_state}
use Rattle.automaton_text.proofs.BodyLines.{step_edge, step_state, ok_is}
use Rattle.automaton_text.proofs.reader.HoaReader.read_body.Goals as goal

pub returns-then-begins-clause-read : goal.returns-then-begins-clause-read
returns-then-begins-clause-read c is =
    step_edge (reader_state c.args.self.now) c.args.line.now c.requires.open c.requires.past (sym c.begins.ensures ∙ c.if-begins.true)
    ∙ c.read_edge.ensures.read is

pub returns-then-begins-clause-wrong : goal.returns-then-begins-clause-wrong
returns-then-begins-clause-wrong c is =
    step_edge (reader_state c.args.self.now) c.args.line.now c.requires.open c.requires.past (sym c.begins.ensures ∙ c.if-begins.true)
    ∙ c.read_edge.ensures.wrong is

pub returns-then-begins-2-clause-read : goal.returns-then-begins-2-clause-read
returns-then-begins-2-clause-read c is =
    step_state (reader_state c.args.self.now) c.args.line.now c.requires.open c.requires.past (sym c.begins-2.ensures ∙ c.if-begins-2.true)
    ∙ c.read_state.ensures.read (ok_is c.read_state.result true is)
