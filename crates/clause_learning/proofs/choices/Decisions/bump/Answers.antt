use Rattle.std.proofs.Common.{◌∙◌}
use Rattle.clause_learning.proofs.choices.Decisions.bump.Goals as goal

pub returns : goal.returns
returns c = λ variables entries are.
    let i = c.loop-variable.invariant in
    record {
      each = record {
        queue = c.grow.ensures.queue;
        one_activity_each = c.grow.ensures.count ∙ (i.count ∙ are.one_activity_each);
        one_value_each = i.phases ∙ are.one_value_each;
      };
      queued = λ index below unset. c.grow.ensures.same index ∙ (i.same index ∙ are.queued index below unset);
    }
