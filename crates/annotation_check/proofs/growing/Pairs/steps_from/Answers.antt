use Rattle.std.proofs.Common.{length, refl, sym, arith}
use Rattle.std.proofs.lemmas.Option.{slice_get_read}
use Rattle.annotation_check.specs.internal.PairsView.{pairs_tree}
use Rattle.annotation_check.proofs.StepsKept.{steps_made}
use Rattle.annotation_check.proofs.growing.Pairs.steps_from.Goals as goal

pub returns : goal.returns
returns c =
    let p = pairs_tree c.args.self.now in
    let listings = c.args.listings.now in
    let s = c.args.rise.machine_state in
    let listing = c.index-listings-rise.result in
    let many = c.requires.listed.0 in
    let below = c.requires.of_pair.machine_state in
    steps_made (p.moves s) (p.edges c.args.rise.automaton_state) listing.letters.items listing.next.items
    (c.requires.listed.1 s listing (slice_get_read listings (length listings) s listing refl (omega (arith, many, below)) c.index-listings-rise.is))
    (sym c.edges_from.ensures) c.steps_of.result c.steps_of.ensures
