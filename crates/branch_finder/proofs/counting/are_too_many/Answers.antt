use Rattle.std.proofs.Common.{◌*◌, ◌∙◌, ap, refl, arith}
use Rattle.branch_finder.proofs.Paths.{counted_first, counted_more, counts_grow}
use Rattle.branch_finder.proofs.counting.are_too_many.Goals as goal

pub loop-init : goal.loop-init
loop-init c = counted_first c.args.predicates c.args.vectors c.requires.some

pub loop-preserved : goal.loop-preserved
loop-preserved c =
    ap (λ n. c.loop.count * n) c.from-count.ensures
    ∙ counted_more c.args.predicates c.args.vectors c.requires.some c.loop.count c.loop.counter c.loop.invariant

pub returns-then-count-gt-MOST_BRANCHES : goal.returns-then-count-gt-MOST_BRANCHES
returns-then-count-gt-MOST_BRANCHES c =
    let grow = counts_grow c.args.predicates c.args.vectors c.requires.some c.loop.counter c.args.depth (omega (arith, c.loop-test.true)) in
    (λ _. omega (arith, grow, c.loop.invariant, c.if-count-gt-MOST_BRANCHES.true), λ _. refl)
