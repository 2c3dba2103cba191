use Rattle.std.proofs.Common.{map}
use Rattle.entry_names.proofs.Locate.{no_entry}
use Rattle.entry_names.proofs.locating.has_no_entry.Goals as goal

pub returns : goal.returns
returns g c =
    no_entry c.args.names.now c.args.id (map g.E.Named.subject c.args.entries.now) c.args.places.now c.place_of.result c.is_none.result
    c.requires.located c.requires.within c.place_of.ensures c.is_none.ensures
