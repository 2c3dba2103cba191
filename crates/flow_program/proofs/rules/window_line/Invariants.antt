-- The first place among the windows that are left is the first of all.
use Rattle.std.proofs.Common.{◌≡◌, map, drop}
use Rattle.tsl_terms.specs.Name.{texts}
use Rattle.program_listing.specs.Listing.{window_line}
use Rattle.flow_program.specs.Rules.{first_place, breaks_window}
use Rattle.flow_program.proofs.rules.window_line.Given as goal

abbrev pub invariant-loop-number : goal.invariant-loop-number
invariant-loop-number l =
    first_place (breaks_window l.text (texts l.cells)) l.number (map window_line (drop l.number l.windows))
    ≡ first_place (breaks_window l.text (texts l.cells)) 0 (map window_line l.windows)
