use Rattle.std.specs.Prelude.{IfOk, IfSome, IfNone}
use Rattle.std.proofs.Common.{subst}
use Rattle.annotation_check.specs.internal.Pairs.{PairsTree}
use Rattle.annotation_check.specs.internal.Growth.{HasNone, HasLeast}
use Rattle.annotation_check.proofs.annotating.annotate.Goals as goal

pub returns-clause-least : goal.returns-clause-least
returns-clause-least c =
    subst (λ (p : PairsTree). IfOk c.least_annotation.result (λ found. IfSome found (λ a. HasLeast p a.numbers))) c.in_ok-pairs.ensures
    c.least_annotation.ensures.least

pub returns-clause-none : goal.returns-clause-none
returns-clause-none c =
    subst (λ (p : PairsTree). IfOk c.least_annotation.result (λ found. IfNone found (HasNone p))) c.in_ok-pairs.ensures
    c.least_annotation.ensures.none
