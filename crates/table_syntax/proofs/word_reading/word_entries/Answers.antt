use Rattle.std.proofs.Common.{ap, ◌∙◌, List}
use Rattle.std.specs.Prelude.{Some, option_map}
use Rattle.base_library.proofs.Results.{handed_on}
use Rattle.tsl_terms.specs.declared.names.NameKind.{NameKind}
use Rattle.table_syntax.specs.Syntax.{TextToken}
use Rattle.table_syntax.specs.internal.Reading.{word_entry_member, word_entry_of_kind, word_entries}
use Rattle.table_syntax.specs.View.{word_entry_view}
use Rattle.table_syntax.proofs.WordExactness.{word_entries_shrink}
use Rattle.table_syntax.proofs.ReadLoops.{still_kept, kept_to_end, kept_fault}
use Rattle.table_syntax.proofs.word_reading.word_entries.Goals as goal

pub returns-in_err-entry-clause-fault : goal.returns-in_err-entry-clause-fault
unfolding word_entries
returns-in_err-entry-clause-fault c =
    handed_on _ _ _ c.from_residual.ensures.1 (kept_fault word_entry_view word_entry_member word_entries_shrink _ c.loop-kind.invariant _ _
    (ap (option_map (λ (f : NameKind × List TextToken). word_entry_of_kind f.0 f.1)) c.in-Some.ensures.some) c.in_err-entry.ensures.fault)

pub loop-kind-preserved : goal.loop-kind-preserved
loop-kind-preserved c =
    still_kept word_entry_view word_entry_member word_entries_shrink _ c.loop-kind.invariant c.in_ok-push.ensures.items
    (ap (option_map (λ (f : NameKind × List TextToken). word_entry_of_kind f.0 f.1)) c.in-Some.ensures.some
    ∙ ap (λ a. Some a) c.in_ok-entry.ensures.ok)

pub returns-clause-ok : goal.returns-clause-ok
unfolding word_entries
returns-clause-ok c =
    kept_to_end word_entry_view word_entry_member word_entries_shrink _ c.loop-kind.invariant
    (ap (option_map (λ (f : NameKind × List TextToken). word_entry_of_kind f.0 f.1)) c.in_default.ensures.none)
