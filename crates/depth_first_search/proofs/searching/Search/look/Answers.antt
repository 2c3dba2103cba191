use Rattle.std.proofs.Common.{◌≡◌, ◌-◌, reverse, arith}
use Rattle.depth_first_search.proofs.SearchLemmas.{looked, reversed_with}
use Rattle.depth_first_search.proofs.searching.Search.look.Goals as goal

pub returns : goal.returns
returns c = λ graph left is one_less used.
    let w = c.args.self.now in
    let s = c.args.last in
    let low = c.lower_place-low in
    let same : s.left - 1 ≡ left = omega (arith, one_less) in
    rw (c.in_ok-push.ensures.items, reversed_with, same)
    (looked graph w.places.items w.held.items s (reverse w.path.items) w.ranked.items w.least is left low.result c.args.place c.args.used
    one_less used c.requires.place low.ensures.low low.ensures.held low.ensures.one)
