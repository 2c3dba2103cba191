-- Why a text has no listing.
use Rattle.std.specs.Prelude.{ℕ, List}
use Rattle.program_listing.specs.declared.listing.ListingError.{ListingError}
use Rattle.program_listing.specs.declared.listing.ListingError.TheVariants.{Form, NoMemory}
use Rattle.program_listing.specs.Listing.{FormFault}

-- the error's line is the first at fault, unless memory ran out
abbrev pub HasListingFault : List ℕ → ListingError → Type 0
HasListingFault text (Form line) = FormFault text line
HasListingFault text NoMemory = Unit {0}
