use Rattle.std.proofs.Common.{Err, refl, ap}
use Rattle.program_listing.proofs.ReadListings.{listing_read, fault_told}
use Rattle.program_listing.proofs.listing_reader.read_listing.Goals as goal

pub returns-in-Ok-clause-ok : goal.returns-in-Ok-clause-ok
returns-in-Ok-clause-ok c = listing_read c.args.text.now _ c.read_text.new.reader c.new-reader.ensures (c.in-Ok.ensures.ok refl)

pub returns-in-Err-Form-clause-fault : goal.returns-in-Err-Form-clause-fault
returns-in-Err-Form-clause-fault c =
    fault_told c.args.text.now _ c.in-Err-Form.line c.new-reader.ensures
    (c.in-Err-Form.ensures.form c.in-Err-Form.line (ap Err c.in-Err-Form.field-0-is))
