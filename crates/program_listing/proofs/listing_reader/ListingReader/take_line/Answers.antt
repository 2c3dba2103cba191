use Rattle.std.proofs.Common.{Bool, ◌&&◌, ap, sym, ◌∙◌}
use Rattle.base_library.proofs.Results.{handed_on}
use Rattle.program_listing.specs.internal.LineReading.{left_place, line_tree}
use Rattle.program_listing.specs.internal.LineOrder.{are_new, entries_in, reader_state}
use Rattle.program_listing.proofs.LinesRead.{line_sound}
use Rattle.program_listing.proofs.TextLines.{declares_in, refused, repeated}
use Rattle.program_listing.proofs.listing_reader.ListingReader.take_line.Goals as goal

pub declare-requires : goal.declare-requires
declare-requires c =
    declares_in (left_place c.in_ok-line.line) (line_tree c.in_ok-read.read)
    (line_sound (left_place c.in_ok-line.line) (line_tree c.in_ok-read.read) c.in_ok-read.ensures.ok)

pub returns-then-not-may_come-clause-wrong : goal.returns-then-not-may_come-clause-wrong
returns-then-not-may_come-clause-wrong c =
    refused (reader_state c.args.self.now) c.args.bytes.now (left_place c.in_ok-line.line) (line_tree c.in_ok-read.read)
    c.in_ok-line.ensures.line c.in_ok-read.ensures.ok
    (ap (λ (b : Bool). b && are_new c.args.self.now.names (entries_in (left_place c.in_ok-line.line) (line_tree c.in_ok-read.read)))
    (sym c.may_come.ensures ∙ c.if-not-may_come.true))

pub returns-in_err-declare-clause-wrong : goal.returns-in_err-declare-clause-wrong
returns-in_err-declare-clause-wrong c =
    handed_on _ _ _ c.from_residual-in_err-declare.ensures.1
    (repeated (reader_state c.args.self.now) c.args.bytes.now (left_place c.in_ok-line.line) (line_tree c.in_ok-read.read)
    c.in_ok-line.ensures.line c.in_ok-read.ensures.ok _ c.in_err-declare.ensures.again)
