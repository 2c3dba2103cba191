-- Internal: the mark of an edge as it stands in a line.
use Rattle.std.specs.Prelude.{Bool, if◌then◌else◌}
use Rattle.std.proofs.Common.{inl, inr}
use Rattle.line_formats.specs.Format.{Value}
use Rattle.automaton_text.specs.HoaLines.{PartValue, mark}

abbrev pub mark_value : Bool → Value PartValue mark
mark_value marked = if marked then inl tt else inr tt
