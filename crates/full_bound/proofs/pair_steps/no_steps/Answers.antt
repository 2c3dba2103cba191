use Rattle.std.proofs.Common.{rules, ◌∙◌, ap}
use Rattle.full_bound.specs.internal.Search.{steps_from}
use Rattle.full_bound.proofs.StepsListed.{none_more}
use Rattle.full_bound.proofs.pair_steps.no_steps.Goals as goal

pub loop-pair-preserved : goal.loop-pair-preserved
loop-pair-preserved c = (
  search rules,
  λ p. ap (λ table. steps_from table p) c.in_ok-push.ensures.items
      ∙ none_more c.loop-pair.table.items c.new.result c.new.ensures.items c.loop-pair.invariant.1 p,
)
