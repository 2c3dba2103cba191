-- What the lines of a text say is its listing, and the line that is told is the first at fault.
use Rattle.std.proofs.Common.{◌≡◌, ℕ, true, List, Ok, Err, refl, sym, ap, subst, ◌∙◌}
use Rattle.std.proofs.lemmas.Bool.{false≢true}
use Rattle.tsl_text.specs.Lines.{lines_from}
use Rattle.line_formats.specs.Machine.{read_from}
use Rattle.line_formats.proofs.MachineLaws.{read_is_text}
use Rattle.program_listing.specs.declared.listing_reader.Stage.{Stage}
use Rattle.program_listing.specs.declared.listing_reader.Stage.TheVariants.{Fresh, Going, Done}
use Rattle.program_listing.specs.declared.listing_reader.ListingReader.{ListingReader}
use Rattle.program_listing.specs.Listing.{IsListing, FormFault}
use Rattle.program_listing.specs.ListingTree.{ListingTree, listing_tree}
use Rattle.program_listing.specs.internal.LineOrder.{done, is_done, ListingState, start, step, whole, stage_progress, reader_state}
use Rattle.program_listing.proofs.FirstFaults.{first_fault}
use Rattle.program_listing.proofs.TextLines.{listing_of_lines}

done_is : (stage : Stage) (l : ListingTree) → is_done (stage_progress stage l) ≡ true → stage_progress stage l ≡ done l
done_is Fresh l h = absurd (false≢true h)
done_is Going l h = absurd (false≢true h)
done_is Done l h = refl

pub listing_read : (text : List ℕ) (s : ListingState) (r : ListingReader) → s ≡ start →
    read_from step whole s 1 (lines_from 1 text) ≡ Ok (reader_state r) → IsListing text (listing_tree r.begun.listing)
listing_read text s r e h =
    let found = read_is_text step whole text start (reader_state r)
    (ap (λ (x : ListingState). read_from step whole x 1 (lines_from 1 text)) (sym e) ∙ h) in
    subst (λ (zs : List ℕ). IsListing zs (listing_tree r.begun.listing)) (sym found.1)
    (listing_of_lines found.0 (reader_state r) (listing_tree r.begun.listing) found.2.says
    (done_is r.begun.stage (listing_tree r.begun.listing) found.2.done))

pub fault_told : (text : List ℕ) (s : ListingState) (line : ℕ) → s ≡ start →
    read_from step whole s 1 (lines_from 1 text) ≡ Err line → FormFault text line
fault_told text s line e h =
    first_fault text line (ap (λ (x : ListingState). read_from step whole x 1 (lines_from 1 text)) (sym e) ∙ h)
