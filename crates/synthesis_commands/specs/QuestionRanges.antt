-- The numbers of a question lie in their ranges.
use Rattle.std.specs.Prelude.{◌≤◌}
use Rattle.command_words.specs.declared.task.ProveSizes.{ProveSizes}

pub record IsQuestionInRange (sizes : ProveSizes) : Type 0 where
  pub has_state : 1 ≤ sizes.states
  pub few_states : sizes.states ≤ 8
  pub small_bound : sizes.bound ≤ 15
  pub has_budget : 1 ≤ sizes.budget
  pub small_budget : sizes.budget ≤ 1000000
