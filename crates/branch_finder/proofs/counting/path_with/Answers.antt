use Rattle.std.proofs.Common.{◌∙◌, ◌++◌, ◌∷◌, [], ◌%◌, ◌/◌, ◌-◌, List, ℕ, ap, sym, append_assoc, arith}
use Rattle.branch_finder.specs.internal.Paths.{path_of}
use Rattle.branch_finder.proofs.Paths.{made_more}
use Rattle.branch_finder.proofs.counting.path_with.Goals as goal

pub loop-left-preserved : goal.loop-left-preserved
loop-left-preserved c =
    let made = c.loop-left.path.items in
    let vectors = c.args.vectors in
    let rest = c.loop-left.rest in
    let next = path_of vectors (c.loop-left.left - 1) (rest / vectors) in
    ap (λ (ns : List ℕ). ns ++ next) c.in_ok-push.ensures.items
    ∙ (append_assoc made (rest % vectors ∷ []) next
    ∙ (ap (λ (ns : List ℕ). made ++ ns) (sym (made_more vectors c.loop-left.left rest (omega (arith, c.loop-left-test.true))))
    ∙ c.loop-left.invariant))
