use Rattle.std.proofs.Common.{◌∙◌, slice_get, sym, ap, subst}
use Rattle.full_bound.specs.internal.Search.{IsSearch}
use Rattle.full_bound.specs.internal.Turning.{IsSpelled}
use Rattle.full_bound.proofs.turning.way_to_node.Goals as goal

pub returns : goal.returns
returns c = λ steps nodes p search first flagged.
    let end = c.in-Some.ensures.some in
    let here = c.deref.ensures.value in
    let there = c.deref-2.ensures.value in
    subst (λ n. IsSpelled steps p n c.in_ok-letters.letters.items) end.2
    (subst (λ n. IsSpelled steps n end.0.node c.in_ok-letters.letters.items) first.2
    (c.in_ok-letters.ensures.spelled steps nodes c.args.search.now.flags.items
    (subst (IsSearch steps nodes c.args.search.now.flags.items) (sym there) search) first.0 end.0
    (ap (λ xs. slice_get xs 0) there ∙ first.1)
    (ap (λ xs. slice_get xs c.in-Some.place) (there ∙ sym here) ∙ end.1)))
