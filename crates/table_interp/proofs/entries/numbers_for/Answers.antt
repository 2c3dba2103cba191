use Rattle.std.proofs.Common.{List, Some, ap, subst, ◌∙◌}
use Rattle.base_library.proofs.Lists.{map_map}
use Rattle.table_syntax.specs.View.{entry_view}
use Rattle.entry_names.specs.Needed.{is_for}
use Rattle.entry_names.specs.Entries.{Subject, subject_of, AreLocated}
use Rattle.entry_names.proofs.Locate.{seen_entry}
use Rattle.table_interp.proofs.entries.numbers_for.Goals as goal

pub entry_for-requires-clause-located : goal.entry_for-requires-clause-located
entry_for-requires-clause-located c =
    subst (λ (ss : List Subject). AreLocated c.args.given.now.names.now ss c.args.given.now.places.now)
    (map_map subject_of entry_view c.args.given.now.entries.now) c.requires.located

pub returns-in-None : goal.returns-in-None
returns-in-None c =
    seen_entry entry_view (λ e. is_for c.args.given.now.names.now c.args.id e.name) (λ e. e.numbers) c.args.given.now.entries.now _
    c.in-None.ensures

pub returns-in-Some : goal.returns-in-Some
returns-in-Some c =
    ap (λ ns. Some ns) c.as_slice.ensures.value
    ∙ seen_entry entry_view (λ e. is_for c.args.given.now.names.now c.args.id e.name) (λ e. e.numbers) c.args.given.now.entries.now _
    c.in-Some.ensures
