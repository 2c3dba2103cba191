-- Internal: lines as they are read, where the last one may lack its line feed.
use Rattle.std.specs.Prelude.{Bool, true}
use Rattle.tsl_text.specs.Lines.{NumberedLine}
use Rattle.line_formats.specs.declared.lines.LastLine.{LastLine}
use Rattle.line_formats.specs.declared.lines.LastLine.TheVariants.{Ended, MayLackFeed}

abbrev pub may_end : LastLine → Bool → Bool
may_end Ended ended = ended
may_end MayLackFeed ended = true

abbrev pub taken : LastLine → NumberedLine → NumberedLine
taken last line = record line { ended = may_end last line.ended }
