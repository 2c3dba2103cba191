use Rattle.program_listing.proofs.OneListing.{one_listing, one_fault, no_fault}
use Rattle.program_listing.proofs.listing_laws.one_listing.Goals as goal

pub returns-clause-listing : goal.returns-clause-listing
returns-clause-listing c = one_listing

pub returns-clause-fault : goal.returns-clause-fault
returns-clause-fault c = one_fault

pub returns-clause-never_both : goal.returns-clause-never_both
returns-clause-never_both c = no_fault
