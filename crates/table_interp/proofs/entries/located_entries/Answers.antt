use Rattle.table_syntax.specs.View.{entry_view, tables_view}
use Rattle.entry_names.specs.Entries.{subject_of}
use Rattle.entry_names.proofs.Locate.{subjects_are}
use Rattle.base_library.proofs.Results.{handed_on}
use Rattle.table_interp.proofs.Refusals.{fault_cause}
use Rattle.table_interp.proofs.entries.located_entries.Goals as goal

pub returns-in_err-places-clause-cause : goal.returns-in_err-places-clause-cause
returns-in_err-places-clause-cause c =
    handed_on _ _ _ c.from_residual.ensures.1 (fault_cause c.args.names.now c.args.cells.now (tables_view c.args.given.now) _
    (rw (c.requires.needed, subjects_are subject_of entry_view c.as_slice.result.now _ c.as_slice.ensures.value)
    at c.in_err-places.ensures.fault))

pub returns-clause-whole : goal.returns-clause-whole
returns-clause-whole c =
    rw (c.requires.needed, subjects_are subject_of entry_view c.as_slice.result.now _ c.as_slice.ensures.value)
    at c.in_ok-places.ensures.whole

pub returns-clause-located : goal.returns-clause-located
returns-clause-located c =
    rw (subjects_are subject_of entry_view c.as_slice.result.now _ c.as_slice.ensures.value) at c.in_ok-places.ensures.located
