-- What is left are the texts exactly where all are.
use Rattle.std.proofs.Common.{◌≡◌, map, drop}
use Rattle.program_listing.specs.Listing.{name_bytes, update_line}
use Rattle.flow_program.specs.Rules.{are_texts}
use Rattle.flow_program.proofs.rules.are_updates_of.Given as goal

abbrev pub invariant-loop-place : goal.invariant-loop-place
invariant-loop-place l =
    are_texts (map (λ u. name_bytes l.text u.signal) (map update_line (drop l.place l.updates))) (map (name_bytes l.text)
    (drop l.place l.controlled))
    ≡ are_texts (map (λ u. name_bytes l.text u.signal) (map update_line l.updates)) (map (name_bytes l.text) l.controlled)
