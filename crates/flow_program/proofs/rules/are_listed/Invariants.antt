-- What is left is of cells and rises exactly where all does.
use Rattle.std.proofs.Common.{◌≡◌, ◌&&◌, map, drop}
use Rattle.std.specs.List.{list_all}
use Rattle.tsl_terms.specs.Name.{texts}
use Rattle.program_listing.specs.Listing.{listed_line}
use Rattle.flow_program.specs.Rules.{is_cell_within, listed_rise}
use Rattle.flow_program.proofs.rules.are_listed.Given as goal

abbrev pub invariant-loop-place : goal.invariant-loop-place
invariant-loop-place l =
    (list_all (is_cell_within l.text (texts l.cells) l.length) (map listed_line (drop l.place l.updates))
    && listed_rise l.text (texts l.cells) (map listed_line (drop l.place l.updates)))
    ≡ (list_all (is_cell_within l.text (texts l.cells) l.length) (map listed_line l.updates)
    && listed_rise l.text (texts l.cells) (map listed_line l.updates))
