use Rattle.std.proofs.Common.{◌≡◌, get_or, sym, ap, ◌∙◌, map, None, Some, ◌<◌, length, arith}
use Rattle.std.proofs.lemmas.List.{get_or_default}
use Rattle.refutation_check.specs.declared.steps.Step.{Step}
use Rattle.refutation_check.specs.Checking.{clause_named}
use Rattle.refutation_check.specs.internal.Accepted.{numbered}
use Rattle.refutation_check.proofs.Naming.{named_step, named_no_step, no_number}
use Rattle.refutation_check.proofs.checker.clause_of_step.Goals as goal
use Rattle.refutation_check.proofs.checker.clause_of_step.Goals.{else-place-accepted-via-then-place-accepted+else-accepted-place}
use Rattle.refutation_check.proofs.checker.clause_of_step.Goals.{else-place-accepted-via-else-place-accepted}

pub returns-then-accepted-place-clause-value : goal.returns-then-accepted-place-clause-value
returns-then-accepted-place-clause-value c =
    let steps = c.args.accepted.now in
    let p = c.first_from-place.result in
    let d = c.index-accepted-place-then-accepted-place.result in
    let number : (get_or steps p d).number ≡ c.args.number =
    ap (λ (s : Step). s.number) (get_or_default steps p d c.index-accepted-place.result c.if-place-accepted.true)
    ∙ c.if-accepted-place.true in
    ap Some c.literals.ensures.value
    ∙ sym (named_step steps c.args.number p d c.if-place-accepted.true c.first_from-place.ensures.below number)

pub returns-else-place-accepted-clause-value : goal.returns-else-place-accepted-clause-value
returns-else-place-accepted-clause-value c =
    elim c.else-place-accepted.branch [
      | else-place-accepted-via-then-place-accepted+else-accepted-place w ↦ none
          (λ d within e. w.if-accepted-place.false
          (ap (λ (s : Step). s.number) (get_or_default c.args.accepted.now c.first_from-place.result w.index-accepted-place.result d within)
          ∙ e))
      | else-place-accepted-via-else-place-accepted w ↦ none (λ d within e. omega (arith, w.if-place-accepted.false))
    ]
  where
    none : ((d : Step) → c.first_from-place.result < length c.args.accepted.now →
        (get_or c.args.accepted.now c.first_from-place.result d).number ≡ c.args.number → ⊥) →
        None ≡ clause_named (map numbered c.args.accepted.now) c.args.number
    none other = sym (named_no_step c.args.accepted.now c.args.number
        (no_number c.args.accepted.now c.args.number c.first_from-place.result c.requires c.first_from-place.ensures.below
        c.first_from-place.ensures.above other))
