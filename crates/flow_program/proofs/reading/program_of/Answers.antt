use Rattle.std.proofs.Common.{◌≡◌, length, map, ap, sym, ◌∙◌, arith}
use Rattle.base_library.proofs.Results.{handed_on}
use Rattle.flow_program.specs.declared.reading.ProgramError.TheVariants.{NoMemory}
use Rattle.program_listing.specs.Listing.{listing_tree}
use Rattle.flow_program.specs.Uses.{uses_of}
use Rattle.flow_program.specs.Reading.{HasProgramCause}
use Rattle.flow_program.specs.internal.UseView.{use_view}
use Rattle.flow_program.proofs.Lengths.{names_within}
use Rattle.flow_program.proofs.Composed.{at_a_line, at_a_use, at_a_limit, spells, names_may_be_written}
use Rattle.flow_program.proofs.reading.program_of.Goals as goal

pub returns-in-Some-clause-cause : goal.returns-in-Some-clause-cause
returns-in-Some-clause-cause c =
    at_a_line c.args.text.now c.args.names (listing_tree c.args.listing.now) c.requires.listing c.in-Some.fault
    (sym (rw c.in-Some.is at c.in_ok-fault.ensures))

pub names_after-requires : goal.names_after-requires
names_after-requires c =
    let uses_are : map use_view c.as_slice-uses.result.now ≡ uses_of c.args.text.now (listing_tree c.args.listing.now) =
    ap (map use_view) c.as_slice-uses.ensures.value ∙ c.in_ok-listed.ensures in
    omega (arith, names_within c.args.names (map use_view c.as_slice-uses.result.now), ap length uses_are, c.requires.room)

pub returns-in-Some-use_fault-clause-cause : goal.returns-in-Some-use_fault-clause-cause
returns-in-Some-use_fault-clause-cause c =
    at_a_use c.args.text.now c.args.names _ _ c.in_ok-declared.ensures.readable _ (ap (map use_view) c.as_slice-uses.ensures.value
    ∙ c.in_ok-listed.ensures) c.in_ok-names.names c.in_ok-names.ensures c.requires.listing c.in-Some-use_fault.fault
    (sym (rw c.in_default.is at c.in_ok-fault.ensures)) (sym c.in-Some-use_fault.ensures)

pub returns-in-Some-limit_fault-clause-cause : goal.returns-in-Some-limit_fault-clause-cause
returns-in-Some-limit_fault-clause-cause c =
    at_a_limit c.args.text.now c.args.names _ _ c.in_ok-declared.ensures.readable _ (ap (map use_view) c.as_slice-uses.ensures.value
    ∙ c.in_ok-listed.ensures) c.in_ok-names.names c.in_ok-names.ensures c.requires.listing c.in-Some-limit_fault.fault
    (sym (rw c.in_default.is at c.in_ok-fault.ensures)) (sym c.in_default-use_fault.ensures) (sym c.in-Some-limit_fault.ensures)

pub numbered_program-requires-clause-program : goal.numbered_program-requires-clause-program
numbered_program-requires-clause-program c =
    spells c.args.text.now c.args.names _ _ c.in_ok-declared.ensures.readable _ (ap (map use_view) c.as_slice-uses.ensures.value
    ∙ c.in_ok-listed.ensures) c.in_ok-names.names c.in_ok-names.ensures c.are_distinct.ensures c.requires.names c.requires.listing
    (sym (rw c.in_default.is at c.in_ok-fault.ensures)) (sym c.in_default-use_fault.ensures) (sym c.in_default-limit_fault.ensures)

pub returns-in_err-program-clause-cause : goal.returns-in_err-program-clause-cause
returns-in_err-program-clause-cause c =
    handed_on _ NoMemory (HasProgramCause c.args.text.now c.args.names) c.from_residual-in_err-program.ensures.1 tt

pub returns-clause-names_fit : goal.returns-clause-names_fit
returns-clause-names_fit c =
    names_may_be_written c.args.text.now c.args.names _ _ c.in_ok-declared.ensures.readable _ (ap (map use_view) c.as_slice-uses.ensures.value
    ∙ c.in_ok-listed.ensures) c.in_ok-names.names c.in_ok-names.ensures c.requires.names c.requires.listing
