use Rattle.std.proofs.Common.{◌∙◌, sym}
use Rattle.automaton_text.specs.HoaView.{reader_state}
use Rattle.automaton_text.proofs.Reading.{low_bits}
use Rattle.automaton_text.proofs.reader.HoaReader.keep.Goals as goal

pub cube_of-requires : goal.cube_of-requires
cube_of-requires c =
    low_bits (reader_state c.args.self.now) c.args.literals.now c.args.to c.requires (sym c.are_few.ensures ∙ c.if-not-are_few.false)
