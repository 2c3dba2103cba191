use Rattle.std.proofs.Common.{length, map, ap, ◌∙◌}
use Rattle.base_library.specs.Numbers.{numbers_from}
use Rattle.table_syntax.specs.View.{word_entry_view, word_entries_view, words_view}
use Rattle.word_interp.specs.Words.{given_for}
use Rattle.word_interp.proofs.Checked.{gives}
use Rattle.entry_names.specs.Entries.{word_subject_of}
use Rattle.entry_names.proofs.Locate.{subjects_are}
use Rattle.entry_names.proofs.NeededNames.{cells_within}
use Rattle.base_library.proofs.Results.{handed_on}
use Rattle.word_interp.proofs.Refusals.{fault_cause}
use Rattle.word_interp.proofs.entries.words_from.Goals as goal

pub needed-requires : goal.needed-requires
needed-requires c = cells_within c.args.names.now c.args.cells.now c.requires.cells

pub returns-in_err-places-clause-cause : goal.returns-in_err-places-clause-cause
returns-in_err-places-clause-cause c =
    handed_on _ _ _ c.from_residual-in_err-places.ensures.1 (fault_cause c.args.names.now c.args.cells.now (words_view c.args.text.now) _
    (rw (
      c.deref.ensures.value ∙ c.in_ok-ids.ensures.all,
      subjects_are word_subject_of word_entry_view c.deref-2.result.now
          c.args.text.now.entries.items c.deref-2.ensures.value,
    ) at c.in_err-places.ensures.fault))

pub check_given-requires-clause-whole : goal.check_given-requires-clause-whole
check_given-requires-clause-whole c =
    rw (
      c.deref.ensures.value ∙ c.in_ok-ids.ensures.all,
      subjects_are word_subject_of word_entry_view c.deref-2.result.now
          c.args.text.now.entries.items c.deref-2.ensures.value,
    ) at c.in_ok-places.ensures.whole

pub returns-clause-gives : goal.returns-clause-gives
returns-clause-gives c =
    gives c.args.names.now c.args.cells.now (words_view c.args.text.now) c.from_parts.result.interpretation c.domain_of-domain.result
    c.in_ok-given.given.items c.in_ok-kept.kept.items c.domain_of-domain.ensures.domain
    (c.in_ok-given.ensures ∙ ap (λ es. map (given_for c.args.names.now (word_entries_view es)) (numbers_from 0 (length c.args.names.now)))
    c.deref-3.ensures.value)
    c.in_ok-kept.ensures (cells_within c.args.names.now c.args.cells.now c.requires.cells) c.in_ok-check_given.ensures.ok
    c.from_parts.ensures.domain c.from_parts.ensures.tables c.from_parts.ensures.initial
