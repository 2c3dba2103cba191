use Rattle.std.proofs.Common.{◌∙◌, arith}
use Rattle.std.proofs.lemmas.Grind.{common_steps}
use Rattle.automaton_text.specs.HoaView.{reader_state}
use Rattle.automaton_text.proofs.Reading.{bits_said}
use Rattle.automaton_text.proofs.reader.HoaReader.read_bits.Goals as goal

pub returns-clause-read : goal.returns-clause-read
returns-clause-read c _ =
    let said = bits_said (reader_state c.args.self.now) c.args.line.now c.in-Some.bits c.in-Some.named (c.bits_in.ensures ∙ c.in-Some.is)
    c.if-bits-named.false in
    grind (arith, common_steps)
