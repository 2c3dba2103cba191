-- What a fault of an exact reader of whole texts says of its grammar: that of any reader of terminals.
pub use Rattle.reader_combinators.proofs.FirstFaults.{form_within, deep_within, form_stops, deep_stops, no_value, form_begins, deep_begins}
pub use Rattle.reader_combinators.proofs.FirstFaults.{deep_goes_on}
