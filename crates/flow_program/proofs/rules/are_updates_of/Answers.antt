use Rattle.std.proofs.Common.{map, sym, ◌∙◌, arith}
use Rattle.std.proofs.lemmas.Bool.{and_parts}
use Rattle.std.proofs.lemmas.List.{length-map}
use Rattle.base_library.proofs.Passes.{passes_within}
use Rattle.base_library.proofs.MadeLists.{image_passes}
use Rattle.program_listing.specs.Listing.{name_bytes, update_line}
use Rattle.program_listing.specs.internal.NamesStand.{name_stands, update_line_stands}
use Rattle.flow_program.proofs.RuleLemmas.{other_lengths}
use Rattle.flow_program.proofs.rules.are_updates_of.Goals as goal

pub returns-then-updates-controlled : goal.returns-then-updates-controlled
returns-then-updates-controlled c =
    sym (other_lengths (λ u. name_bytes c.args.text.now u.signal) (name_bytes c.args.text.now) (map update_line c.args.updates.now)
    c.args.controlled.now (λ e. c.if-updates-controlled.true (sym (length-map c.args.updates.now update_line) ∙ e)))

pub name_bytes-requires : goal.name_bytes-requires
name_bytes-requires c =
    (and_parts _ _ (image_passes update_line (update_line_stands c.args.text.now) _ c.requires.updates c.loop-place-test.true
    c.index-updates-place.is)).0

pub name_bytes-requires-in-loop-place : goal.name_bytes-requires-in-loop-place
name_bytes-requires-in-loop-place c =
    passes_within (name_stands c.args.text.now) c.args.controlled.now c.loop-place.place _ c.requires.controlled (omega arith)
