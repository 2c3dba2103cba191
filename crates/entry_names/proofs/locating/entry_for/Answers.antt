use Rattle.std.proofs.Common.{Some, sym, ap, ◌∙◌, arith}
use Rattle.std.proofs.lemmas.Option.{slice_get-get_or}
use Rattle.entry_names.proofs.Locate.{none_given, place_within, entry_given}
use Rattle.entry_names.proofs.locating.entry_for.Goals as goal

pub returns-in-None : goal.returns-in-None
returns-in-None g c =
    sym (none_given g.E.Named.subject c.args.names.now c.args.entries.now c.args.places.now c.requires.located c.args.id c.requires.within
    c.in-None.ensures)

pub bounds-entries-place : goal.bounds-entries-place
bounds-entries-place g c =
    place_within g.E.Named.subject c.args.names.now c.args.entries.now c.args.places.now c.requires.located c.args.id c.requires.within
    c.in-Some.place c.in-Some.ensures

pub offset_bounds-entries-place : goal.offset_bounds-entries-place
offset_bounds-entries-place g c =
    let few = place_within g.E.Named.subject c.args.names.now c.args.entries.now c.args.places.now c.requires.located c.args.id
    c.requires.within c.in-Some.place c.in-Some.ensures in
    omega (arith, few)

pub returns-in-Some : goal.returns-in-Some
returns-in-Some g c =
    let few = place_within g.E.Named.subject c.args.names.now c.args.entries.now c.args.places.now c.requires.located c.args.id
    c.requires.within c.in-Some.place c.in-Some.ensures in
    sym (entry_given g.E.Named.subject c.args.names.now c.args.entries.now c.args.places.now c.requires.located c.args.id
    c.requires.within c.in-Some.place c.index-entries-place.result c.in-Some.ensures
    (slice_get-get_or c.args.entries.now c.in-Some.place c.index-entries-place.result few
    ∙ ap (λ e. Some e) (sym c.index-entries-place.is)))
