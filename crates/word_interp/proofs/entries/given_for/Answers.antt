use Rattle.table_syntax.specs.View.{word_entry_view}
use Rattle.entry_names.specs.Needed.{is_for}
use Rattle.entry_names.proofs.Locate.{seen_entry}
use Rattle.word_interp.proofs.entries.given_for.Goals as goal

pub returns-in-None : goal.returns-in-None
returns-in-None c =
    seen_entry word_entry_view (λ e. is_for c.args.names.now c.args.id e.name) (λ e. e.given) c.args.entries.now _ c.in-None.ensures

pub returns-in-Some : goal.returns-in-Some
returns-in-Some c =
    seen_entry word_entry_view (λ e. is_for c.args.names.now c.args.id e.name) (λ e. e.given) c.args.entries.now _ c.in-Some.ensures
