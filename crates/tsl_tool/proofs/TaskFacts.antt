-- What follows for a task from the words that ask for it.
use Rattle.std.proofs.Common.{◌≡◌, ℕ, true, false, List, [], ◌∷◌, sym, ◌∙◌, ap, inl, inr}
use Rattle.std.specs.Prelude.{None}
use Rattle.command_words.specs.declared.task.Task.{Task}
use Rattle.command_words.specs.declared.task.Task.TheVariants.{Synth, Check, Run, Prove, Recheck, Gen, Circuit, Automaton, Accepts}
use Rattle.command_words.specs.Commands.{ParsesTo}
use Rattle.command_words.proofs.OneTask.{asking_is_taken, one_task}
use Rattle.tsl_tool.specs.Tasks.{ReadNothing, most_bytes}
use Rattle.tsl_tool.specs.internal.TaskRanges.{IsTaskInRange}

-- its numbers lie in their ranges
pub in_range : (words : List (List ℕ)) (task : Task) → ParsesTo words task → IsTaskInRange task
in_range [] task asks = absurd asks
in_range (first ∷ rest) (Synth sizes) asks = record {
  has_state = asks.2.states.1;
  few_states = asks.2.states.2;
  has_env_state = asks.2.env_states.1;
  few_env_states = asks.2.env_states.2;
  small_env_bound = asks.2.env_bound.2;
  has_depth = asks.2.depth.1;
  small_depth = asks.2.depth.2;
  few_rounds = asks.2.rounds.2;
  has_budget = asks.2.budget.1;
  small_budget = asks.2.budget.2;
}
in_range (first ∷ rest) (Check bound) asks = tt
in_range (first ∷ rest) Run asks = tt
in_range (first ∷ rest) (Prove sizes) asks = record {
  has_state = asks.2.states.1;
  few_states = asks.2.states.2;
  small_bound = asks.2.bound.2;
  has_budget = asks.2.budget.1;
  small_budget = asks.2.budget.2;
}
in_range (first ∷ rest) Recheck asks = tt
in_range (first ∷ rest) (Gen n) asks = (asks.2.1, asks.2.2)
in_range (first ∷ rest) (Circuit bound) asks = tt
in_range (first ∷ rest) Automaton asks = tt
in_range (first ∷ rest) Accepts asks = tt

-- where nothing is read for the words, it reads nothing
pub task_reads_nothing : (words : List (List ℕ)) (task : Task) → ParsesTo words task → ReadNothing words → most_bytes task ≡ None
task_reads_nothing words task asks (inl refused) = let e : true ≡ false = sym (asking_is_taken words task asks) ∙ refused in cc
task_reads_nothing words task asks (inr other) = ap most_bytes (one_task words task other.0 asks other.1) ∙ other.2
